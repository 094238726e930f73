use Rattle.std.proofs.Common.{rules, ◌≡◌, ◌∙◌, sym, ap, length}
use Rattle.std.specs.Prelude.{option_copied}
use Rattle.probe_eval.specs.Work.{rows_of_text, rows_with}
use Rattle.probe_eval.proofs.AccessLists.{no_text}
use Rattle.probe_eval.proofs.lists.count_text.Goals as goal

pub returns-in-None : goal.returns-in-None
returns-in-None c =
    ap length (no_text c.args.index.now c.args.field (option_copied c.args.text) (ap option_copied c.in-None.is))

pub returns-in-Some : goal.returns-in-Some
returns-in-Some c =
    let e : c.count_with.result ≡ length (rows_with c.args.field c.args.index.now c.in-Some.text.now) = search rules in
    e ∙ sym (ap (λ x. length (rows_of_text c.args.field c.args.index.now (option_copied x))) c.in-Some.is)
