use Rattle.std.proofs.Common.{◌≡◌, ◌∙◌, sym, ap}
use Rattle.std.specs.Prelude.{option_copied}
use Rattle.probe_eval.specs.Work.{rows_of_text}
use Rattle.probe_eval.proofs.AccessLists.{no_text}
use Rattle.probe_eval.proofs.access_rows.with_text.Goals as goal

pub returns-in-None : goal.returns-in-None
returns-in-None c = c.none.ensures ∙ no_text c.args.index.now c.args.field (option_copied c.args.text) (ap option_copied c.in-None.is)

pub returns-in-Some : goal.returns-in-Some
returns-in-Some c =
    c.of_text.ensures ∙ sym (ap (λ x. rows_of_text c.args.field c.args.index.now (option_copied x)) c.in-Some.is)
