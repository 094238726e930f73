use Rattle.std.proofs.Common.{◌∙◌, ap, drop}
use Rattle.tap_base.proofs.Missing.{appended, none_lost}
use Rattle.tap_base.specs.Words.{words}
use Rattle.tap_base.proofs.words.words_of.Goals as goal

pub into_texts_from-requires : goal.into_texts_from-requires
into_texts_from-requires c =
    rw (c.len-held.ensures, c.in_ok-add.ensures) (none_lost c.in_ok-set.set (words c.args.bytes.now))

pub returns-clause-ok : goal.returns-clause-ok
returns-clause-ok c =
    c.in_ok-append.ensures.ok ∙ appended c.args.into.now c.in_ok-set.set c.add.new.self (words c.args.bytes.now) c.in_ok-missing.missing
    c.in_ok-set.ensures c.in_ok-add.ensures (c.in_ok-missing.ensures ∙ ap (λ k. drop k c.add.new.self) c.len-held.ensures)
