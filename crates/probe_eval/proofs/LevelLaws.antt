-- The rows that are walked next: what is found beside them, and what they cost.
use Rattle.std.proofs.Common.{◌≡◌, ◌∙◌, ◌+◌, ◌≤◌, ℕ, ℤ, pos, Bool, true, false, not, Option, Some, None, List, [], ◌∷◌, ◌++◌, refl, sym, ap}
use Rattle.std.proofs.Common.{subst, arith, nat_eq, if◌then◌else◌}
use Rattle.std.specs.Prelude.{◌&&◌, option_to_list}
use Rattle.std.specs.List.{list_any, flat_map}
use Rattle.std.proofs.lemmas.Bool.{and_parts, eqb-true, or_parts}
use Rattle.tap_base.specs.declared.numbers.DocNum.{DocNum}
use Rattle.tap_rows.specs.declared.rows.Doc.{Doc}
use Rattle.tap_rows.specs.declared.tables.Tables.{Tables}
use Rattle.tap_rows.specs.declared.results.Entry.{Entry}
use Rattle.tql_core.specs.declared.term.Var.{Var}
use Rattle.tql_core.specs.Row.{Row, OfDoc, OfNote}
use Rattle.tql_core.specs.Holds.{truth}
use Rattle.tql_core.specs.Values.{Env, bind, lookup}
use Rattle.tql_core.proofs.Bound.{bind_same}
use Rattle.time_marks.specs.Probes.{Probe}
use Rattle.access_plan.specs.declared.reach.Reach.{Reach}
use Rattle.access_plan.specs.Nearest.{nearest}
use Rattle.probe_eval.specs.Open.{path_apart}
use Rattle.probe_eval.specs.StepRows.{next_rows}
use Rattle.probe_eval.specs.Work.{total}
use Rattle.probe_eval.specs.Rests.{all_or, further, rest_of, rest_cost}
use Rattle.probe_eval.specs.Nested.{new_doc, hit_if, over_rows, holds_here, asked_or, hits_over, has_more, is_once, is_walked, once_cost}
use Rattle.probe_eval.specs.Nested.{work_over}
use Rattle.probe_eval.specs.declared.level.Level.{Level}
use Rattle.probe_eval.specs.Levels.{IsSure, rows_at, level_cost}
use Rattle.probe_eval.proofs.AlikeRows.{each_beside}
use Rattle.probe_eval.proofs.HitSteps.{doc_hits, note_hits, next_hits, next_cost}
use Rattle.probe_eval.proofs.Nesting.{further_is}

pub no_hit : (c : Bool) (b : ℤ) (o : Option DocNum) → c ≡ false → option_to_list (hit_if c b o) ≡ []
no_hit c b o h = subst (λ z. option_to_list (hit_if z b o) ≡ []) (sym h) (go o)
  where
    go : (o : Option DocNum) → option_to_list (hit_if false b o) ≡ []
    go None = refl
    go (Some num) = refl

module _ (T : Tables) (p : Probe) (b : ℤ) where
  -- the rest beside env is that beside some row of the next step
  rest_next : (x : Reach) (rs : List Reach) (env : Env) (r : Reach) → further p.path b env ≡ Some r
      → rest_of T p.path b (x ∷ rs) env ≡ list_any (λ row. rest_of T p.path b rs (bind r.var row env)) (next_rows T p.path b env r)
  rest_next x rs env r f =
      let k = further_is p.path b env r f in
      ap (λ m. m && all_or (nearest p.path env)
      (λ r. list_any (λ row. rest_of T p.path b rs (bind r.var row env)) (next_rows T p.path b env r))) k.0
      ∙ ap (λ o. all_or o (λ r. list_any (λ row. rest_of T p.path b rs (bind r.var row env)) (next_rows T p.path b env r))) k.1

  is_apart_once : (env : Env) (rs : List Reach) (v : Var) → is_once p.path env rs v ≡ true → (v.0 ≡ 0) × (path_apart p.path env v ≡ true)
  is_apart_once env rs v h =
      let k = and_parts (has_more rs && nat_eq v.0 0) (path_apart p.path env v) h in
      let m = and_parts (has_more rs) (nat_eq v.0 0) k.0 in
      (eqb-true v.0 0 m.1, k.1)

  -- if the rest was looked for once and is there, it is beside each row that may go on
  pub sure_below : (once : Bool) (x : Reach) (rs : List Reach) (env : Env) (r : Reach) → further p.path b env ≡ Some r
      → once ≡ is_once p.path env rs r.var → is_walked T p b once (x ∷ rs) env ≡ true
      → (row : Row) → IsSure T p.path b rs (bind r.var row env) once
  sure_below once x rs env r f o w row s g =
      let a = is_apart_once env rs r.var (sym o ∙ s) in
      let h : rest_of T p.path b (x ∷ rs) env ≡ true = subst (λ z. is_walked T p b z (x ∷ rs) env ≡ true) s w in
      each_beside T p.path b env r.var a.1 rs (next_rows T p.path b env r) (sym (rest_next x rs env r f) ∙ h) row g

  walked_cost : (a walk : ℕ) (c : Bool) → c ≡ true → (a + (if c then 0 else 0)) + walk ≡ a + (if c then walk else 0)
  walked_cost a walk c h = rw h (omega arith)

  less_cost : (a walk : ℕ) (c : Bool) → (a + (if c then 0 else 0)) ≤ a + (if c then walk else 0)
  less_cost a walk true = omega arith
  less_cost a walk false = omega arith

  -- the rows that are walked are paid for
  pub level_paid : (passed : Doc → Bool) (s now : ℕ) (once sure : Bool) (order : List Reach) (x : Reach) (rs : List Reach) (env : Env)
      (r : Reach) → order ≡ x ∷ rs → lookup 0 env ≡ None → further p.path b env ≡ Some r → once ≡ is_once p.path env rs r.var
      → is_walked T p b once order env ≡ true → now ≤ s + once_cost T p b once order env 0
      → now + total (λ row. 1 + work_over passed T p b once rs (bind r.var row env)) (next_rows T p.path b env r)
      ≤ s + work_over passed T p b sure order env
  level_paid passed s now once sure order x rs env r q e f o w h =
      let walk = total (λ row. 1 + work_over passed T p b once rs (bind r.var row env)) (next_rows T p.path b env r) in
      let c : work_over passed T p b sure order env ≡ once_cost T p b once order env walk =
      ap (λ z. work_over passed T p b sure z env) q ∙ next_cost passed T p b sure x rs env r e f
      ∙ ap (λ z. once_cost T p b z (x ∷ rs) env
      (total (λ row. 1 + work_over passed T p b z rs (bind r.var row env)) (next_rows T p.path b env r))) (sym o)
      ∙ ap (λ z. once_cost T p b once z env walk) (sym q) in
      let k : once_cost T p b once order env 0 + walk ≡ once_cost T p b once order env walk =
      walked_cost (if once then rest_cost T p.path b order env else 0) walk (is_walked T p b once order env) w in
      omega (arith, h, c, k)

  -- and the search before, if they aren't walked
  pub once_paid : (passed : Doc → Bool) (s now : ℕ) (once sure : Bool) (order : List Reach) (x : Reach) (rs : List Reach) (env : Env)
      (r : Reach) → order ≡ x ∷ rs → lookup 0 env ≡ None → further p.path b env ≡ Some r → once ≡ is_once p.path env rs r.var
      → now ≤ s + once_cost T p b once order env 0 → now + 0 ≤ s + work_over passed T p b sure order env
  once_paid passed s now once sure order x rs env r q e f o h =
      let walk = total (λ row. 1 + work_over passed T p b once rs (bind r.var row env)) (next_rows T p.path b env r) in
      let c : work_over passed T p b sure order env ≡ once_cost T p b once order env walk =
      ap (λ z. work_over passed T p b sure z env) q ∙ next_cost passed T p b sure x rs env r e f
      ∙ ap (λ z. once_cost T p b z (x ∷ rs) env
      (total (λ row. 1 + work_over passed T p b z rs (bind r.var row env)) (next_rows T p.path b env r))) (sym o)
      ∙ ap (λ z. once_cost T p b once z env walk) (sym q) in
      let k : once_cost T p b once order env 0 ≤ once_cost T p b once order env walk =
      less_cost (if once then rest_cost T p.path b order env else 0) walk (is_walked T p b once order env) in
      omega (arith, h, c, k)

pub level_steps : (passed : Doc → Bool) (T : Tables) (p : Probe) (b : ℤ) (env : Env) (level : Level) (rows : List Row) (s bound : ℕ)
    → rows ≡ rows_at T p.path b env level → s + level_cost passed T p b env (Some level) ≤ bound
    → s + total (λ row. 1 + work_over passed T p b level.sure level.rest.now (bind level.reach.var row env)) rows ≤ bound
level_steps passed T p b env level rows s bound q h =
    subst (λ z. s + total (λ row. 1 + work_over passed T p b level.sure level.rest.now (bind level.reach.var row env)) z ≤ bound) (sym q) h

module _ (entries : List Entry) (T : Tables) (p : Probe) (b : ℤ) where
  -- if no step is left, there is no hit beside rows without the document
  pub none_order : (order : List Reach) (env : Env) → order ≡ [] → lookup 0 env ≡ None → hits_over entries T p b order env ≡ []
  none_order order env q e = ap (λ z. hits_over entries T p b z env) q ∙ ap (λ o. asked_or entries T p b [] env o []) e

  pub none_next : (order : List Reach) (x : Reach) (rs : List Reach) (env : Env) → order ≡ x ∷ rs → lookup 0 env ≡ None
      → further p.path b env ≡ None → hits_over entries T p b order env ≡ []
  none_next order x rs env q e f =
      ap (λ z. hits_over entries T p b z env) q
      ∙ ap (λ o. asked_or entries T p b (x ∷ rs) env o
      (over_rows T p.path b env (further p.path b env) (λ r row. hits_over entries T p b rs (bind r.var row env)))) e
      ∙ ap (λ o. over_rows T p.path b env o (λ r row. hits_over entries T p b rs (bind r.var row env))) f

  -- a document without a rest has no hit
  no_rest : (rs : List Reach) (env : Env) (v : Var) (row : Row) → v.0 ≡ 0 → rest_of T p.path b rs (bind v row env) ≡ false
      → hits_over entries T p b rs (bind v row env) ≡ []
  no_rest rs env v row z h = go row (subst (λ k. lookup k (bind v row env) ≡ Some row) z (bind_same v row env))
    where
      go : (r : Row) → lookup 0 (bind v row env) ≡ Some r → hits_over entries T p b rs (bind v row env) ≡ []
      go (OfDoc d) e =
          let n : holds_here T p b rs (bind v row env) ≡ false = ap (λ c. c && truth T (pos 0) p.body (bind v row env)) h in
          doc_hits entries T p b rs (bind v row env) d e ∙ no_hit (holds_here T p b rs (bind v row env)) b (new_doc entries d) n
      go (OfNote n) e = note_hits entries T p b rs (bind v row env) (OfNote n) e (λ d q. absurd cc)

  no_rests : (rs : List Reach) (env : Env) (v : Var) (rows : List Row) → v.0 ≡ 0
      → list_any (λ row. rest_of T p.path b rs (bind v row env)) rows ≡ false
      → flat_map (λ row. hits_over entries T p b rs (bind v row env)) rows ≡ []
  no_rests rs env v [] z h = refl
  no_rests rs env v (row ∷ rows) z h =
      let k = or_parts (rest_of T p.path b rs (bind v row env)) (list_any (λ row. rest_of T p.path b rs (bind v row env)) rows) h in
      ap (λ xs. xs ++ flat_map (λ row. hits_over entries T p b rs (bind v row env)) rows) (no_rest rs env v row z k.0)
      ∙ no_rests rs env v rows z k.1

  -- if the rest was looked for once and isn't there, there is no hit
  pub none_walked : (once : Bool) (order : List Reach) (x : Reach) (rs : List Reach) (env : Env) (r : Reach) → order ≡ x ∷ rs
      → lookup 0 env ≡ None → further p.path b env ≡ Some r → once ≡ is_once p.path env rs r.var
      → is_walked T p b once order env ≡ false → hits_over entries T p b order env ≡ []
  none_walked once order x rs env r q e f o w =
      let k = or_parts (not once) (rest_of T p.path b order env) w in
      let y : once ≡ true = was_true once k.0 in
      let a = is_apart_once T p b env rs r.var (sym o ∙ y) in
      ap (λ z. hits_over entries T p b z env) q ∙ next_hits entries T p b x rs env r e f
      ∙ no_rests rs env r.var (next_rows T p.path b env r)
      a.0 (sym (rest_next T p b x rs env r f) ∙ ap (λ z. rest_of T p.path b z env) (sym q) ∙ k.1)
    where
      was_true : (c : Bool) → not c ≡ false → c ≡ true
      was_true true h = refl
      was_true false h = absurd cc
