use Rattle.std.proofs.Common.{rules, ◌≡◌, List, ◌∷◌, subst}
use Rattle.std.specs.Vec.Iter.{into_iter_items}
use Rattle.sqlite_value.specs.Order.{Row}
use Rattle.keeper_sql.specs.Failing.{FailsToTakeRows, IsOneOf}
use Rattle.keeper_sql.proofs.TakingLemmas.{one_here, one_later, read_one, taken_rows}
use Rattle.keeper_sql.proofs.reading.push_rows.Goals as goal

pub loop-row-init : goal.loop-row-init
loop-row-init g c =
    let items : into_iter_items c.into_iter-row-iterator.result ≡ c.args.shown.items = search rules in
    record { len = search rules; all = search rules; one = λ r h. subst (λ l. IsOneOf l r) items h }

pub loop-row-preserved : goal.loop-row-preserved
loop-row-preserved g c =
    let rest : List Row = into_iter_items c.next.new.self in
    let items : into_iter_items c.loop-row.row-iterator ≡ c.in-Some.row ∷ rest = search rules in
    record {
      len = search rules;
      all = read_one g.T.TableRow.shown c.args.rows.now c.loop-row.rows c.push_row.new.rows c.in-Some.row c.args.shown.items
          (into_iter_items c.loop-row.row-iterator) rest c.loop-row.invariant.all items c.in_ok-push_row.ensures.ok;
      one = one_later c.in-Some.row rest
          c.args.shown.items (subst (λ l. (r : Row) → IsOneOf l r → IsOneOf c.args.shown.items r) items c.loop-row.invariant.one);
    }

pub returns-in_err-push_row-clause-fails : goal.returns-in_err-push_row-clause-fails
returns-in_err-push_row-clause-fails g c =
    let all : List Row = c.args.shown.items in
    let rest : List Row = into_iter_items c.next.new.self in
    let items : into_iter_items c.loop-row.row-iterator ≡ c.in-Some.row ∷ rest = search rules in
    let one : IsOneOf all c.in-Some.row =
    one_here c.in-Some.row rest all (subst (λ l. (r : Row) → IsOneOf l r → IsOneOf all r) items c.loop-row.invariant.one) in
    let by : FailsToTakeRows g.T.TableRow.kinds all c.in_err-push_row.field-0.0 =
    taken_rows g.T.TableRow.kinds c.in-Some.row all c.in_err-push_row.field-0.0 one c.in_err-push_row.ensures.fails in
    search (rules, by)
