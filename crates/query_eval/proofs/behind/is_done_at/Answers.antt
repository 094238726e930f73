use Rattle.std.proofs.Common.{rules, ◌≡◌, Some}
use Rattle.std.specs.Prelude.{slice_get}
use Rattle.row_index.specs.Orders.{doc_num}
use Rattle.query_eval.proofs.FrontLaws.{number_at}
use Rattle.query_eval.proofs.behind.is_done_at.Goals as goal

pub returns-in-Some : goal.returns-in-Some
returns-in-Some c = λ t d g.
    let e : Some c.in-Some.num ≡ doc_num (slice_get c.args.docs.now c.args.place) = search rules in
    let by = c.is_done.ensures t d (number_at c.args.docs.now c.args.place c.in-Some.num d e g) in
    search (rules, by)
