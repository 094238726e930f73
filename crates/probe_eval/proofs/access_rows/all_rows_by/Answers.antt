use Rattle.std.proofs.Common.{rules, ◌≡◌, ◌∙◌, pos, arith}
use Rattle.std.proofs.lemmas.Int.{ints}
use Rattle.access_plan.specs.Views.{access_at}
use Rattle.probe_eval.specs.Work.{rows_by}
use Rattle.probe_eval.proofs.AccessTables.{all_admitted}
use Rattle.probe_eval.proofs.access_rows.all_rows_by.Goals as goal

pub returns : goal.returns
returns c =
    let e : c.rows_by.result ≡ rows_by (pos 9223372036854775807) (access_at c.args.access) c.args.env.now c.args.index.now = search rules in
    e ∙ all_admitted (pos 9223372036854775807) c.args.index.now (omega (arith, ints))
    c.docs-docs.ensures.places.moments c.notes-notes.ensures.places.moments (access_at c.args.access) c.args.env.now
