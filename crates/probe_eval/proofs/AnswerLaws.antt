-- A condition that is false beside all rows of a variable.
use Rattle.std.proofs.Common.{◌≡◌, ◌∙◌, ℤ, pos, false, ℕ, Option, None, Some, List, [], ◌∷◌, refl, sym, subst}
use Rattle.std.specs.Prelude.{IfSome, is_none}
use Rattle.std.specs.List.{flat_map}
use Rattle.std.proofs.lemmas.Bool.{and_right}
use Rattle.tap_base.specs.Bytes.{IsPlaceOf}
use Rattle.tap_rows.specs.declared.tables.Tables.{Tables}
use Rattle.tap_rows.specs.declared.results.Entry.{Entry}
use Rattle.node_pool.specs.declared.node.NodeId.{NodeId}
use Rattle.tql_tree.specs.declared.table.Table.{Table}
use Rattle.tql_core.specs.declared.term.Var.{Var}
use Rattle.tql_core.specs.Condition.{Condition, All, Exists}
use Rattle.tql_core.specs.Row.{Row, OfDoc, OfNote, rows_of}
use Rattle.tql_core.specs.Values.{Env, bind, lookup}
use Rattle.tql_core.specs.Holds.{truth}
use Rattle.tql_core.proofs.Bound.{bind_same, bind_other}
use Rattle.access_plan.specs.Accesses.{is_other}
use Rattle.access_plan.specs.declared.reach.Reach.{Reach}
use Rattle.time_marks.specs.Probes.{Probe}
use Rattle.probe_eval.specs.Conjuncts.{mentions, fixed_part}
use Rattle.probe_eval.specs.declared.search.Search.{Search}
use Rattle.probe_eval.specs.Searches.{pool_of, condition_at}
use Rattle.probe_eval.specs.Answers.{IsNever, IsWhyFalse, query_var}
use Rattle.probe_eval.specs.Nested.{new_doc, holds_here, hits_over}
use Rattle.probe_eval.specs.Rests.{rest_of}
use Rattle.probe_eval.proofs.ConjunctLaws.{bound_same, stays, fixed_false, is_apart_from}
use Rattle.probe_eval.proofs.HitSteps.{doc_hits, note_hits}
use Rattle.probe_eval.proofs.LevelLaws.{no_hit}

-- one that is false and doesn't name v is so
pub never_named : (T : Tables) (v : Var) (x : Condition) (env : Env) → mentions v x ≡ false → truth T (pos 0) x env ≡ false
    → IsNever T v x env
never_named T v x env n f final s = stays T (pos 0) v x env final s n ∙ f

-- one of two conjuncts is enough
pub never_left : (T : Tables) (v : Var) (x l r : Condition) (env : Env) → x ≡ All l r → IsNever T v l env → IsNever T v x env
never_left T v x l r env e n = subst (λ z. IsNever T v z env) (sym e) (λ final s. rw (n final s) refl)

pub never_right : (T : Tables) (v : Var) (x l r : Condition) (env : Env) → x ≡ All l r → IsNever T v r env → IsNever T v x env
never_right T v x l r env e n =
    subst (λ z. IsNever T v z env) (sym e) (λ final s. and_right (truth T (pos 0) l final) (truth T (pos 0) r final) (n final s))

-- so is a conjunct of an EXISTS that doesn't name its variable
pub never_exists : (T : Tables) (v w : Var) (t : Table) (x : Condition) (env : Env) (row : Row)
    → IsNever T v (fixed_part w x) (bind w row env) → IsNever T v (Exists w t x) env
never_exists T v w t x env row n final s =
    fixed_false T x w final (rows_of t T) row (n (bind w row final) (bound_same (is_other v) w row env final s))

-- a condition that is false makes itself false, and an EXISTS of which it is the inner condition
pub why_itself : (s : Search) (id : ℕ) (env : Env) → IsPlaceOf (pool_of s) id → truth s.index.now (pos 0) (condition_at s id) env ≡ false
    → IsWhyFalse s (condition_at s id) env id
why_itself s id env i f = record { node = i; never = λ v n. never_named s.index.now v (condition_at s id) env n f }

pub why_inner : (s : Search) (w : Var) (t : Table) (id : ℕ) (env : Env) → IsPlaceOf (pool_of s) id
    → truth s.index.now (pos 0) (Exists w t (condition_at s id)) env ≡ false → IsWhyFalse s (Exists w t (condition_at s id)) env id
why_inner s w t id env i f = record { node = i; never = λ v n. never_named s.index.now v (Exists w t (condition_at s id)) env n f }

-- what makes a conjunct false makes all false
pub why_left : (s : Search) (x l r : Condition) (env : Env) (why : ℕ) → x ≡ All l r → IsWhyFalse s l env why → IsWhyFalse s x env why
why_left s x l r env why e h = record { node = h.node; never = λ v n. never_left s.index.now v x l r env e (h.never v n) }

pub why_right : (s : Search) (x l r : Condition) (env : Env) (why : Option NodeId) → x ≡ All l r
    → IfSome why (λ id. IsWhyFalse s r env id.0) → IfSome why (λ id. IsWhyFalse s x env id.0)
why_right s x l r env None e h = h
why_right s x l r env (Some id) e h =
    record { node = h.node; never = λ v n. never_right s.index.now v x l r env e (h.never v n) }

-- what makes a conjunct false that doesn't name the variable of an EXISTS makes the EXISTS false
pub why_fixed : (s : Search) (w : Var) (t : Table) (x : Condition) (env : Env) (row : Row) (why : ℕ)
    → IsWhyFalse s (fixed_part w x) (bind w row env) why → IsWhyFalse s (Exists w t x) env why
why_fixed s w t x env row why h =
    record { node = h.node; never = λ v n. never_exists s.index.now v w t x env row (h.never v n) }

-- what makes x false is asked for only if it is false
pub if_false : (s : Search) (x : Condition) (env : Env) (why : Option NodeId) → truth s.index.now (pos 0) x env ≡ is_none why
    → (truth s.index.now (pos 0) x env ≡ false → IfSome why (λ id. IsWhyFalse s x env id.0)) → IfSome why (λ id. IsWhyFalse s x env id.0)
if_false s x env None t h = tt
if_false s x env (Some id) t h = h t

-- what is false beside all rows of v is so beside each other row that is bound under its number
pub never_beside : (T : Tables) (v w : Var) (x : Condition) (env : Env) (row other : Row) → w.0 ≡ v.0 → IsNever T v x (bind w row env)
    → truth T (pos 0) x (bind w other env) ≡ false
never_beside T v w x env row other e n = n (bind w other env) (λ k h.
    let d : k ≡ w.0 → ⊥ = λ q. is_apart_from v k h (q ∙ e) in
    bind_other k w other env d ∙ sym (bind_other k w row env d))

-- then no document that is bound there is found
module _ (entries : List Entry) (T : Tables) (p : Probe) (b : ℤ) (order : List Reach) (env : Env) (v : Var) (row : Row) (e : v.0 ≡ 0)
    (n : IsNever T query_var p.body (bind v row env)) where
  bound_at : (other : Row) → lookup 0 (bind v other env) ≡ Some other
  bound_at other = subst (λ k. lookup k (bind v other env) ≡ Some other) e (bind_same v other env)

  never_hit : (other : Row) → hits_over entries T p b order (bind v other env) ≡ []
  never_hit (OfNote note) =
      note_hits entries T p b order (bind v (OfNote note) env) (OfNote note) (bound_at (OfNote note)) (λ d z. absurd cc)
  never_hit (OfDoc d) =
      let x = bind v (OfDoc d) env in
      let f : truth T (pos 0) p.body x ≡ false = never_beside T query_var v p.body env row (OfDoc d) e n in
      doc_hits entries T p b order x d (bound_at (OfDoc d))
      ∙ no_hit (holds_here T p b order x) b (new_doc entries d) (and_right (rest_of T p.path b order x) (truth T (pos 0) p.body x) f)

  pub never_hits : (left : List Row) → flat_map (λ other. hits_over entries T p b order (bind v other env)) left ≡ []
  never_hits [] = refl
  never_hits (other ∷ left) = rw (never_hit other, never_hits left) refl
