use Rattle.std.proofs.Common.{rules, ◌≡◌, ◌∙◌, ap, map}
use Rattle.std.specs.Prelude.{option_copied}
use Rattle.tql_core.specs.Row.{OfDoc}
use Rattle.row_index.specs.Texts.{texts_of, with_text}
use Rattle.probe_eval.specs.Kinds.{list_kind}
use Rattle.probe_eval.proofs.AccessLists.{no_entry, entries_with}
use Rattle.probe_eval.proofs.access_rows.with_entry.Goals as goal

pub returns-in-None : goal.returns-in-None
returns-in-None c = c.none.ensures ∙ no_entry c.args.index.now c.args.list (option_copied c.args.text) (ap option_copied c.in-None.is)

pub returns-in-Some : goal.returns-in-Some
returns-in-Some c =
    let e : c.of_docs.result ≡ map OfDoc (with_text (texts_of (list_kind c.args.list)) c.in-Some.text.now c.args.index.now.docs) =
    search rules in
    e ∙ entries_with c.args.index.now c.args.list (option_copied c.args.text) c.in-Some.text.now (ap option_copied c.in-Some.is)
