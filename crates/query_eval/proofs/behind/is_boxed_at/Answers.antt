use Rattle.std.proofs.Common.{rules, ◌≡◌, ◌∙◌, true, Some, sym, subst}
use Rattle.std.specs.Prelude.{slice_get}
use Rattle.tap_base.specs.declared.numbers.DocNum.{DocNum}
use Rattle.little_box.specs.Boxes.{is_in}
use Rattle.row_index.specs.Orders.{doc_num}
use Rattle.query_eval.proofs.FrontLaws.{number_at}
use Rattle.query_eval.proofs.behind.is_boxed_at.Goals as goal

pub returns-in-Some : goal.returns-in-Some
returns-in-Some c = λ t d g.
    let e : Some c.in-Some.num ≡ doc_num (slice_get c.args.docs.now c.args.place) = search rules in
    let i : is_in c.in-Some.num.0 c.args.search.now.seen.now ≡ true = sym c.has.ensures ∙ t in
    subst (λ (z : DocNum). is_in z.0 c.args.search.now.seen.now ≡ true) (sym (number_at c.args.docs.now c.args.place c.in-Some.num d e g)) i
