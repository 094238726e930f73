use Rattle.std.proofs.Common.{sym, subst, ◌≤◌, length, IfSome}
use Rattle.pop_box.proofs.Texts.{text-short}
use Rattle.pop_box.proofs.letters.copy_letters.Goals as goal

pub push_letter-requires : goal.push_letter-requires
push_letter-requires g c = record {
  letters = c.loop-row.invariant.short;
  short = subst (λ text. IfSome text (λ bytes. length bytes ≤ 1048576)) (sym c.text_of-text.ensures.text)
      (text-short c.args.engine.now.index.docs _ c.requires);
}
