-- The folded window query, and its distinct probes, find the same.
use Rattle.std.proofs.Common.{◌≡◌, ℕ, zero, suc, ℤ, pos, Bool, true, false, not, Option, Some, None, List, [], ◌∷◌, refl, sym, ap, ◌∙◌}
use Rattle.std.proofs.Common.{subst, inl, inr}
use Rattle.std.specs.Prelude.{◌||◌, ◌+ℤ◌, map, int_le, is_some}
use Rattle.std.specs.List.{list_any, filter}
use Rattle.std.proofs.lemmas.Bool.{not-false, cases_Bool, and_right}
use Rattle.tap_rows.specs.declared.rows.Doc.{Doc}
use Rattle.tap_rows.proofs.Tests.{agree}
use Rattle.tql_tree.specs.declared.table.Table.TheVariants.{Docs}
use Rattle.tql_core.specs.declared.atom.Atom.{Atom}
use Rattle.tql_core.specs.declared.term.Term.{Term}
use Rattle.tql_core.specs.Condition.{Condition, Never}
use Rattle.tql_core.specs.Row.{Row, arrival}
use Rattle.tap_rows.specs.declared.tables.Tables.{Tables}
use Rattle.tap_rows.specs.Results.{hits_in_order}
use Rattle.tql_core.specs.Values.{Env, bind, lookup, base_value, plus_to, value, true_atom}
use Rattle.tql_core.specs.Holds.{truth}
use Rattle.tql_core.specs.Scope.{IsQuery}
use Rattle.tap_rows.specs.Kept.{In}
use Rattle.time_marks.specs.declared.mark.Step.{Step}
use Rattle.time_marks.specs.Marks.{copy_base, copy_term, step_of, under_step, document_var, marks_from, rising_from}
use Rattle.monotone_rewrite.specs.Folding.{known, is_no, fold}
use Rattle.time_marks.specs.Found.{base_vars, IsProbe}
use Rattle.time_marks.specs.Probes.{Probe, least, choices, some_rows, is_satisfied, finds, found}
use Rattle.time_marks.specs.Distinct.{same_probe, distinct_probes}
use Rattle.time_marks.proofs.Repeats.{probe_is, distinct_found}
use Rattle.monotone_rewrite.specs.Query.{fold_probe, can_find, probe_of, unfolded, window}
use Rattle.time_marks.proofs.Lists.{map_in}
use Rattle.time_marks.proofs.Orders.{body_in, finds_rows, rows_find}
use Rattle.monotone_rewrite.proofs.Finding.{fine_from}
use Rattle.monotone_rewrite.proofs.Folds.{Bounds, fold_truth, no_is, is_no_is}
use Rattle.monotone_rewrite.proofs.Scopes.{is_probe, folded_probe}
use Rattle.monotone_rewrite.specs.Laws.{IsUnionOf, WindowIsUnion, DistinctIsUnion}
use Rattle.time_marks.proofs.Asked.{first, count_between}
use Rattle.monotone_rewrite.proofs.Union.{unfolded_is_union, hits_same}
use Rattle.tap_rows.specs.Seconds.{first_from}

base_there : (o : Option ℤ) (n b : ℤ) → plus_to o n ≡ Some b → (z : ℤ) × (o ≡ Some z)
base_there None n b e = absurd cc
base_there (Some z) n b e = (z, refl)

module _ (T : Tables) (d : Doc) where
  some_never : (path : List Step) (env : Env) (test : Env → Bool) → ((final : Env) → test final ≡ false)
      → some_rows T d path env test ≡ false
  some_never [] env test h = h env
  some_never (step ∷ path) env test h = any_never _ (choices T d step) (λ r. some_never path (bind step.var r env) test h)
    where
      any_never : (p : Row → Bool) (rs : List Row) → ((r : Row) → p r ≡ false) → list_any p rs ≡ false
      any_never p [] h = refl
      any_never p (r ∷ rs) h = rw (h r) (any_never p rs h)

pub filter_found : (test keep : Probe → Bool) → (X : List Probe) → ((p : Probe) → keep p ≡ false → test p ≡ false)
    → list_any test (filter keep X) ≡ list_any test X
filter_found test keep [] h = refl
filter_found test keep (p ∷ ps) h =
    elim (cases_Bool (keep p)) [
      | inl y ↦ rw y (ap (λ z. test p || z) (filter_found test keep ps h))
      | inr n ↦ rw (n, h p n) (filter_found test keep ps h)
    ]

pub map_found : (test : Probe → Bool) (f : Probe → Probe) (X : List Probe) → ((p : Probe) → In p X → test (f p) ≡ test p)
    → list_any test (map f X) ≡ list_any test X
map_found test f [] h = refl
map_found test f (p ∷ ps) h = rw (h p (inl refl), map_found test f ps (λ p i. h p (inr i)))

-- rows for each step of a path, with its guards and its mark
pub record Walked (T : Tables) (d : Doc) (b : ℤ) (p : Probe) (env : Env) : Type 0 where
  pub rows : (step : Step) → In step p.path
      → (r : Row) × In r (choices T d step) × (lookup step.var.0 env ≡ Some r) × (int_le (arrival r) b ≡ true)
  pub guards : (step : Step) → In step p.path → (a : Atom) → In a step.guards → true_atom a env ≡ true
  pub at : value p.at env ≡ Some b

module _ (T : Tables) (d : Doc) (b : ℤ) where
  -- a probe finds the same with another body that is as true wherever the probe's rows are
  pub other_body : (p : Probe) (y : Condition) → IsProbe p → IsProbe (record { path = p.path; at = p.at; body = y })
      → ((env : Env) → Walked T d b p env → truth T (pos 0) y env ≡ truth T (pos 0) p.body env)
      → finds T d b (record { path = p.path; at = p.at; body = y }) ≡ finds T d b p
  other_body p y k l same =
      agree _ _ (λ h.
      let f = finds_rows T d b (record { path = p.path; at = p.at; body = y }) l h in
      rows_find T d b p k (record {
        env = f.env;
        rows = f.rows;
        guards = f.guards;
        at = f.at;
        body = sym (same f.env (record { rows = f.rows; guards = f.guards; at = f.at })) ∙ f.body;
      })) (λ h.
      let f = finds_rows T d b p k h in
      rows_find T d b (record { path = p.path; at = p.at; body = y }) l (record {
        env = f.env;
        rows = f.rows;
        guards = f.guards;
        at = f.at;
        body = same f.env (record { rows = f.rows; guards = f.guards; at = f.at }) ∙ f.body;
      }))

  -- a probe finds the same after folding
  pub fold_finds : (p : Probe) → IsProbe p → (e : Term) → p.at ≡ copy_term e → finds T d b (fold_probe p) ≡ finds T d b p
  fold_finds p k e is_copy =
      other_body p (fold p.at p.body) k (folded_probe p k) (λ env w.
      let v = subst (λ t. value t env ≡ Some b) is_copy w.at in
      let z = base_there (base_value (copy_base e.base) env) e.plus b v in
      let bounds : Bounds (0 ∷ base_vars p.at.base) env = λ j i.
      let s = map_in (λ (s : Step). s.var.0) p.path j (body_in p k j i) in
      let r = w.rows s.0 s.1 in
      (r.0, subst (λ n. lookup n env ≡ Some r.0) (sym s.2) r.2) in
      subst (λ t. truth T (pos 0) (fold t p.body) env ≡ truth T (pos 0) p.body env) (sym is_copy)
      (fold_truth T (pos 0) e p.body (0 ∷ base_vars p.at.base) env k.body bounds z))

  -- a probe whose body is False finds nothing
  pub never_finds : (p : Probe) → can_find p ≡ false → finds T d b p ≡ false
  never_finds p h =
      let never : p.body ≡ Never = no_is p.body (is_no_is (known p.body) (not-false (is_no (known p.body)) h)) in
      some_never T d p.path [] (is_satisfied p T b) (λ final. and_right _ _ (ap (λ x. truth T (pos 0) x final) never))

  pub window_found : (c : Condition) (a : ℤ) → IsQuery c → found (window c a) T d b ≡ found (unfolded c a) T d b
  window_found c a q =
      filter_found (finds T d b) can_find (map fold_probe (unfolded c a)) never_finds
      ∙ map_found (finds T d b) fold_probe (unfolded c a) (λ p i.
      let k = map_in (probe_of c) (rising_from c a) p i in
      let l = map_in (under_step (step_of document_var Docs c)) (marks_from c a) k.0 k.1 in
      let f = fine_from c a q l.0 l.1 in
      fold_finds p (is_probe c a q p i) f.term (ap (λ z. z.at) (k.2 ∙ ap (probe_of c) l.2) ∙ f.is_copy))

first_from_same : (p q : ℤ → Bool) (n : ℕ) (a : ℤ) → ((x : ℤ) → p x ≡ q x) → first_from p n a ≡ first_from q n a
first_from_same p q zero a h = refl
first_from_same p q (suc n) a h = rw (h a, first_from_same p q n (a +ℤ pos 1) h)

-- queries that find the same have the same meaning
pub same_union : (c : Condition) (a : ℤ) (X Y : List Probe) → ((T : Tables) (d : Doc) (b : ℤ) → found X T d b ≡ found Y T d b)
    → IsUnionOf c a Y → IsUnionOf c a X
same_union c a X Y h u = record {
  whole = λ T t from.
      ap hits_in_order (hits_same (λ d. least X T d (record { low = a; high = t })) (λ d. least Y T d (record { low = a; high = t }))
      T.docs (λ d i. first_from_same (found X T d) (found Y T d) (count_between a t) a (h T d))) ∙ u.whole T t from;
  since = λ T tau t from g b. ap hits_in_order (hits_same (λ d. least X T d (record { low = tau; high = t }))
      (λ d. least Y T d (record { low = tau; high = t })) (filter (λ d. not (is_some (first c T d a tau))) T.docs)
      (λ d i. first_from_same (found X T d) (found Y T d) (count_between tau t) tau (h T d))) ∙ u.since T tau t from g b;
}

pub window_is_union : WindowIsUnion
window_is_union c a q st = same_union c a (window c a) (unfolded c a) (λ T d b. window_found T d b c a q) (unfolded_is_union c a q st)

-- repeats don't matter
pub distinct_union : (c : Condition) (a : ℤ) (X : List Probe) → IsUnionOf c a X → IsUnionOf c a (distinct_probes X)
distinct_union c a X u =
    same_union c a (distinct_probes X) X (λ T d b. distinct_found same_probe probe_is (finds T d b) [] X) u

pub distinct_is_union : DistinctIsUnion
distinct_is_union c a q st = distinct_union c a (window c a) (window_is_union c a q st)
