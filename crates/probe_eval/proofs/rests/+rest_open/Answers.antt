use Rattle.std.proofs.Common.{rules, ◌≡◌, ◌≤◌, ◌+◌, ◌∷◌, true, false, ◌∙◌, Some, None, ap, sym, arith, to_z, of_z, w64}
use Rattle.std.specs.List.{list_any}
use Rattle.tql_core.specs.Bindings.{row_of}
use Rattle.tql_core.specs.Values.{bind}
use Rattle.access_plan.specs.Nearest.{nearest}
use Rattle.access_plan.specs.Views.{reach_at}
use Rattle.probe_eval.specs.Open.{path_apart, may_go}
use Rattle.probe_eval.specs.Nexts.{IsNearestIfKnown}
use Rattle.probe_eval.specs.Rests.{rest_of, decides, rest_cost}
use Rattle.probe_eval.specs.StepRows.{next_rows}
use Rattle.probe_eval.specs.Work.{total, until}
use Rattle.std.proofs.lemmas.Bool.{and_left, and_right}
use Rattle.probe_eval.proofs.AlikeRows.{none_left}
use Rattle.probe_eval.proofs.NextRows.{next_alike}
use Rattle.probe_eval.proofs.Steps.{until_step, or_none}
use Rattle.probe_eval.proofs.RestSteps.{stopped, all_there, any_step}
use Rattle.probe_eval.proofs.rests.+rest_open.Goals as goal

pub returns-in-None-clause-exists : goal.returns-in-None-clause-exists
returns-in-None-clause-exists g t c =
    let m = c.requires.open in
    let n : nearest c.args.path.now c.args.env.now ≡ None = search rules in
    all_there c.args.index.now c.args.path.now c.args.mark c.args.order.now c.args.env.now m n

pub rows_beside-rows-requires : goal.rows_beside-rows-requires
rows_beside-rows-requires g t c =
    let n : nearest c.args.path.now c.args.env.now ≡ Some (reach_at c.in-Some.reach) = search rules in
    c.sole.ensures c.args.path.now c.args.env.now (reach_at c.in-Some.reach) c.get.ensures.found n

pub rest_open-requires : goal.rest_open-requires
rest_open-requires g t c κs within =
    let by = c.loop-row.invariant.next (row_of c.in-Some-next.row) in
    search (rules, by)

pub loop-row-init : goal.loop-row-init
loop-row-init g t c =
    let T = c.args.index.now in
    let path = c.args.path.now in
    let env = c.args.env.now in
    let mark = to_z w64 (of_z w64 c.args.mark) in
    let v = c.in-Some.reach.var in
    let rest = c.in-Some-split_first.rest.now in
    let rows = next_rows T path mark env (reach_at c.in-Some.reach) in
    let whole : rest_of T path mark c.args.order.now env ≡ list_any (λ row. rest_of T path mark rest (bind v row env)) rows =
    search rules in
    let all : rest_cost T path mark c.args.order.now env
    ≡ total (λ row. 1 + rest_cost T path mark rest (bind v row env)) (until (decides T path mark rest env v) rows) = search rules in
    let out : c.rows_beside-rows.result ≡ rows = c.rows_beside-rows.ensures in
    let walked : rest_cost T path mark c.args.order.now env ≡ total (λ row. 1 + rest_cost T path mark rest (bind v row env))
    (until (decides T path mark rest env v) c.rows_beside-rows.result) =
    all ∙ ap (λ z. total (λ row. 1 + rest_cost T path mark rest (bind v row env)) (until (decides T path mark rest env v) z)) (sym out) in
    record {
      same = whole ∙ ap (list_any (λ row. rest_of T path mark rest (bind v row env))) (sym out);
      steps = omega (arith, walked);
      more = omega arith;
      next = search rules;
    }

pub loop-row-preserved : goal.loop-row-preserved
loop-row-preserved g t c =
    let e : c.loop-row.rows ≡ row_of c.in-Some-next.row ∷ c.next.new.self = search rules in
    let s : c.next.new.steps ≡ c.loop-row.steps + 1 = search rules in
    let mark = to_z w64 (of_z w64 c.args.mark) in
    let x = bind c.in-Some.reach.var (row_of c.in-Some-next.row) c.args.env.now in
    let m : may_go c.args.path.now mark x ≡ false = search rules in
    let d : rest_of c.args.index.now c.args.path.now mark c.in-Some-split_first.rest.now x ≡ false =
    sym (stopped c.args.index.now c.args.path.now mark c.in-Some-split_first.rest.now x m) in
    let a = and_left _ (path_apart c.args.path.now c.args.env.now c.in-Some.reach.var) m in
    let i = c.loop-row.invariant.more in
    record {
      same = any_step (λ row. rest_of c.args.index.now c.args.path.now mark c.in-Some-split_first.rest.now
          (bind c.in-Some.reach.var row c.args.env.now)) _ _ _ (row_of c.in-Some-next.row) c.loop-row.invariant.same e d;
      steps = until_step (λ row. rest_cost c.args.index.now c.args.path.now mark c.in-Some-split_first.rest.now
          (bind c.in-Some.reach.var row c.args.env.now))
          (decides c.args.index.now c.args.path.now mark c.in-Some-split_first.rest.now c.args.env.now c.in-Some.reach.var)
          _ _ _ (c.args.steps.now + rest_cost c.args.index.now c.args.path.now mark c.args.order.now c.args.env.now)
          _ _ (row_of c.in-Some-next.row) c.loop-row.invariant.steps e (or_none d a) s (omega arith);
      more = omega (arith, i, s);
      next = c.loop-row.invariant.next;
    }

pub loop-row-preserved-else-path_apart : goal.loop-row-preserved-else-path_apart
loop-row-preserved-else-path_apart g t c =
    let e : c.loop-row.rows ≡ row_of c.in-Some-next.row ∷ c.next.new.self = search rules in
    let s : c.next.new.steps ≡ c.loop-row.steps + 1 = search rules in
    let mark = to_z w64 (of_z w64 c.args.mark) in
    let x = bind c.in-Some.reach.var (row_of c.in-Some-next.row) c.args.env.now in
    let d : rest_of c.args.index.now c.args.path.now mark c.in-Some-split_first.rest.now x ≡ false = search rules in
    let k : c.rest_open.new.steps ≤ c.next.new.steps + rest_cost c.args.index.now c.args.path.now mark c.in-Some-split_first.rest.now x =
    search rules in
    let p : path_apart c.args.path.now c.args.env.now c.in-Some.reach.var ≡ false = search rules in
    let a = and_right (may_go c.args.path.now mark x) _ p in
    let n : IsNearestIfKnown c.args.path.now x c.rest_open.new.next = search rules in
    let i = c.loop-row.invariant.more in
    let m = c.rest_open.ensures.more in
    record {
      same = any_step (λ row. rest_of c.args.index.now c.args.path.now mark c.in-Some-split_first.rest.now
          (bind c.in-Some.reach.var row c.args.env.now)) _ _ _ (row_of c.in-Some-next.row) c.loop-row.invariant.same e d;
      steps = until_step _ (decides c.args.index.now c.args.path.now mark c.in-Some-split_first.rest.now c.args.env.now c.in-Some.reach.var)
          _ _ _ (c.args.steps.now + rest_cost c.args.index.now c.args.path.now mark c.args.order.now c.args.env.now)
          _ _ (row_of c.in-Some-next.row) c.loop-row.invariant.steps e (or_none d a) s k;
      more = omega (arith, i, s, m);
      next = λ row. next_alike c.args.path.now c.in-Some.reach.var (row_of c.in-Some-next.row) row c.args.env.now c.rest_open.new.next n;
    }

pub returns-then-path_apart-clause-exists : goal.returns-then-path_apart-clause-exists
returns-then-path_apart-clause-exists g t c =
    let mark = to_z w64 (of_z w64 c.args.mark) in
    let e : c.loop-row.rows ≡ row_of c.in-Some-next.row ∷ c.next.new.self = search rules in
    let x = bind c.in-Some.reach.var (row_of c.in-Some-next.row) c.args.env.now in
    let d : rest_of c.args.index.now c.args.path.now mark c.in-Some-split_first.rest.now x ≡ false = search rules in
    let m : may_go c.args.path.now mark x ≡ true = search rules in
    let a : path_apart c.args.path.now c.args.env.now c.in-Some.reach.var ≡ true = search rules in
    let n = none_left c.args.index.now c.args.path.now mark c.args.env.now c.in-Some.reach.var a c.in-Some-split_first.rest.now _ _ _
    (row_of c.in-Some-next.row) c.loop-row.invariant.same e m d in
    search (rules, n)
