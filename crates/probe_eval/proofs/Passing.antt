-- If more documents are passed over, no more steps are taken.
use Rattle.std.proofs.Common.{◌≡◌, ℕ, ◌+◌, ◌≤◌, ℤ, Bool, true, false, Option, Some, None, List, [], ◌∷◌, refl, arith, if◌then◌else◌}
use Rattle.std.proofs.lemmas.Bool.{false≢true}
use Rattle.tap_rows.specs.declared.rows.Doc.{Doc}
use Rattle.tap_rows.specs.declared.tables.Tables.{Tables}
use Rattle.tql_core.specs.Row.{Row, OfDoc, OfNote}
use Rattle.tql_core.specs.Values.{Env, bind, lookup, value}
use Rattle.time_marks.specs.declared.window.Window.{Window}
use Rattle.time_marks.specs.Probes.{Probe}
use Rattle.access_plan.specs.declared.reach.Reach.{Reach}
use Rattle.probe_eval.specs.Drivers.{mark_in, marked_cost, cost_at}
use Rattle.probe_eval.specs.Nested.{cost_here, is_once, is_walked, once_cost, asked_cost, work_over}
use Rattle.probe_eval.specs.Rests.{further, cost_of, rest_cost}
use Rattle.probe_eval.specs.StepRows.{next_rows}
use Rattle.probe_eval.specs.Work.{total}
use Rattle.probe_eval.proofs.Costs.{total_less}

pass_less : (more few : Bool) (c : ℕ) → (few ≡ true → more ≡ true) → (if more then 0 else c) ≤ (if few then 0 else c)
pass_less true few c h = omega arith
pass_less false true c h = absurd (false≢true (h refl))
pass_less false false c h = omega arith

plus_less : (x : Bool) (a y z : ℕ) → y ≤ z → a + (if x then y else 0) ≤ a + (if x then z else 0)
plus_less true a y z h = omega (arith, h)
plus_less false a y z h = omega arith

pub one_less : (a b : ℕ) → a ≤ b → 1 + a ≤ 1 + b
one_less a b h = omega (arith, h)

module _ (more few : Doc → Bool) (h : (d : Doc) → few d ≡ true → more d ≡ true) (T : Tables) (p : Probe) (b : ℤ) where
  asked_less : (sure : Bool) (order : List Reach) (env : Env) (o : Option Row) (x y : ℕ) → x ≤ y
      → asked_cost more T p b sure order env o x ≤ asked_cost few T p b sure order env o y
  asked_less sure order env None x y l = l
  asked_less sure order env (Some (OfDoc d)) x y l = pass_less (more d) (few d) (cost_here T p b sure order env) (h d)
  asked_less sure order env (Some (OfNote n)) x y l = omega arith

  pub work_less : (sure : Bool) (order : List Reach) (env : Env) → work_over more T p b sure order env ≤ work_over few T p b sure order env
  work_less sure [] env = asked_less sure [] env (lookup 0 env) 0 0 (omega arith)
  work_less sure (x ∷ rs) env = asked_less sure (x ∷ rs) env (lookup 0 env) _ _ (go (λ s e. work_less s rs e) (further p.path b env))
    where
      go : ((s : Bool) (e : Env) → work_over more T p b s rs e ≤ work_over few T p b s rs e) → (o : Option Reach)
          → cost_of o (λ r. once_cost T p b (is_once p.path env rs r.var) (x ∷ rs) env
          (total (λ row. 1 + work_over more T p b (is_once p.path env rs r.var) rs (bind r.var row env)) (next_rows T p.path b env r)))
          ≤ cost_of o (λ r. once_cost T p b (is_once p.path env rs r.var) (x ∷ rs) env
          (total (λ row. 1 + work_over few T p b (is_once p.path env rs r.var) rs (bind r.var row env)) (next_rows T p.path b env r)))
      go below None = omega arith
      go below (Some r) =
          let once = is_once p.path env rs r.var in
          plus_less (is_walked T p b once (x ∷ rs) env) (if once then rest_cost T p.path b (x ∷ rs) env else 0) _ _
          (total_less _ _ (next_rows T p.path b env r) (λ row. one_less _ _ (below once (bind r.var row env))))

-- nor beside a driving row
pub cost_less : (more few : ℤ → Doc → Bool) → ((b : ℤ) (d : Doc) → few b d ≡ true → more b d ≡ true)
    → (T : Tables) (w : Window) (p : Probe) (order : List Reach) (env : Env) → cost_at more T w p order env ≤ cost_at few T w p order env
cost_less more few h T w p order env = go (mark_in w (value p.at env))
  where
    go : (o : Option ℤ) → marked_cost more T w p order env o ≤ marked_cost few T w p order env o
    go None = omega arith
    go (Some b) = work_less (more b) (few b) (h b) T p b false order env
