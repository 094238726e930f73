-- Probes that equal earlier ones find nothing new.
use Rattle.std.proofs.Common.{◌≡◌, ◌∙◌, refl, sym, ap, subst, ℤ, Bool, true, false, List, [], ◌∷◌, ◌++◌, inl, inr, if◌then◌else◌}
use Rattle.std.specs.Prelude.{◌⊎◌, ◌||◌, not}
use Rattle.std.specs.List.{list_any, filter}
use Rattle.std.specs.Cmp.Lexicographic.{pointwise, lists_equiv}
use Rattle.std.proofs.lemmas.Bool.{cases_Bool, and_parts, and_from, false≢true}
use Rattle.std.proofs.lemmas.List.Folds.{list_any-append}
use Rattle.tap_rows.specs.declared.rows.Doc.{Doc}
use Rattle.tap_rows.specs.declared.tables.Tables.{Tables}
use Rattle.tap_rows.specs.Results.{hits_by}
use Rattle.tap_rows.specs.Seconds.{least_second}
use Rattle.tql_core.specs.contracts.term.TermEq.TheImpl.Laws as term_laws
use Rattle.tql_core.specs.contracts.atom.AtomPartialEq.TheImpl as atom
use Rattle.tql_core.specs.Exact.{var_is, table_is, term_is, atom_is}
use Rattle.tap_rows.specs.Kept.{In}
use Rattle.tql_core.proofs.Equal.{condition_is, itself}
use Rattle.time_marks.specs.declared.mark.Step.{Step}
use Rattle.time_marks.specs.contracts.mark.StepPartialEq.TheImpl as step
use Rattle.time_marks.specs.contracts.mark.StepEq.TheImpl.Laws as step_laws
use Rattle.time_marks.specs.Probes.{Probe, finds, found}
use Rattle.time_marks.specs.Distinct.{kept_with, distinct_onto, same_probe, SameProbeIsEqual, distinct_probes, RepeatsFindNothingNew}
use Rattle.time_marks.specs.Distinct.{DistinctAreAmong}
use Rattle.time_marks.proofs.Lists.{any_in, in_any, append_in}

list_is : {A : Type 0} (eq : A → A → Bool) → ((x y : A) → eq x y ≡ true → x ≡ y) → (xs ys : List A) → pointwise eq xs ys ≡ true → xs ≡ ys
list_is eq exact [] [] h = refl
list_is eq exact (x ∷ xs) (y ∷ ys) h = let p = and_parts _ _ h in let a = exact x y p.0 in let b = list_is eq exact xs ys p.1 in cc
list_is eq exact [] (y ∷ ys) h = absurd (false≢true h)
list_is eq exact (x ∷ xs) [] h = absurd (false≢true h)

step_is : (a b : Step) → step.ghosts.eq a b ≡ true → a ≡ b
step_is a b h =
    let p = and_parts _ _ h in
    let q = and_parts _ _ p.1 in
    let x = var_is a.var b.var p.0 in
    let y = table_is a.table b.table q.0 in
    let z = list_is atom.ghosts.eq atom_is a.guards b.guards q.1 in
    ap (λ k. record { var = k; table = a.table; guards = a.guards }) x ∙ ap (λ k. record { var = b.var; table = k; guards = a.guards }) y
    ∙ ap (λ k. record { var = b.var; table = b.table; guards = k }) z

pub probe_is : (p q : Probe) → same_probe p q ≡ true → p ≡ q
probe_is a b h =
    let p = and_parts _ _ h in
    let q = and_parts _ _ p.1 in
    let x = list_is step.ghosts.eq step_is a.path b.path p.0 in
    let y = term_is a.at b.at q.0 in
    let z = condition_is a.body b.body q.1 in
    ap (λ k. record { path = k; at = a.at; body = a.body }) x ∙ ap (λ k. record { path = b.path; at = k; body = a.body }) y
    ∙ ap (λ k. record { path = b.path; at = b.at; body = k }) z

probe_itself : (p : Probe) → same_probe p p ≡ true
probe_itself p = and_from _ _ ((lists_equiv step_laws.laws-law).refl p.path) (and_from _ _ (term_laws.laws-law.refl p.at) (itself p.body))

pub same_probe_is_equal : SameProbeIsEqual
same_probe_is_equal p q = (probe_is p q, λ e. subst (λ z. same_probe p z ≡ true) e (probe_itself p))

module _ (same : Probe → Probe → Bool) (sound : (p q : Probe) → same p q ≡ true → p ≡ q) (test : Probe → Bool) where
  seen_found : (p : Probe) (seen : List Probe) → list_any (same p) seen ≡ true → test p ≡ true → list_any test seen ≡ true
  seen_found p seen h y = let k = any_in (same p) seen h in in_any test seen k.0 k.1 (ap test (sym (sound p k.0 k.2)) ∙ y)

  pub distinct_found : (kept X : List Probe) → list_any test (distinct_onto same kept X) ≡ (list_any test kept || list_any test X)
  distinct_found kept [] = sym (or_false (list_any test kept))
    where
      or_false : (x : Bool) → (x || false) ≡ x
      or_false true = refl
      or_false false = refl
  distinct_found kept (p ∷ ps) =
      elim (cases_Bool (list_any (same p) kept)) [
        | inl y ↦ rw y (distinct_found kept ps ∙ dropped (list_any test kept) (test p) (list_any test ps) (seen_found p kept y))
        | inr n ↦ rw n (distinct_found (kept ++ p ∷ []) ps ∙ ap (λ z. z || list_any test ps) (list_any-append test kept (p ∷ []))
            ∙ grouped (list_any test kept) (test p) (list_any test ps))
      ]
    where
      dropped : (s t x : Bool) → (t ≡ true → s ≡ true) → (s || x) ≡ (s || (t || x))
      dropped true t x h = refl
      dropped false true x h = absurd (false≢true (h refl))
      dropped false false x h = refl

      grouped : (s t x : Bool) → ((s || (t || false)) || x) ≡ (s || (t || x))
      grouped true t x = refl
      grouped false true x = refl
      grouped false false x = refl

same_found : (X : List Probe) (T : Tables) (d : Doc) (b : ℤ) → found (distinct_probes X) T d b ≡ found X T d b
same_found X T d b = distinct_found same_probe probe_is (finds T d b) [] X

pub repeats_find_nothing : RepeatsFindNothingNew
repeats_find_nothing X = record {
  whole = λ T w i. hits_by (λ d. least_second (λ b. same_found X T d b i) w.low w.high) T.docs;
  without = λ seen T w i. hits_by (λ d. least_second (λ b. same_found X T d b i) w.low w.high) (filter (λ d. not (seen d)) T.docs);
}

onto_among : (kept X : List Probe) (p : Probe) → In p (distinct_onto same_probe kept X) → In p kept ⊎ In p X
onto_among kept [] p i = inl i
onto_among kept (x ∷ xs) p i = go (list_any (same_probe x) kept) (onto_among (kept_with same_probe kept x) xs p i) where
  go : (b : Bool) → In p (if b then kept else kept ++ x ∷ []) ⊎ In p xs → In p kept ⊎ In p (x ∷ xs)
  go b (inr j) = inr (inr j)
  go true (inl j) = inl j
  go false (inl j) = elim (append_in kept (x ∷ []) p j) [
    | inl k ↦ inl k
    | inr (inl e) ↦ inr (inl e)
    | inr (inr n) ↦ absurd n
  ]

pub distinct_among : DistinctAreAmong
distinct_among X p i = elim (onto_among [] X p i) [ inl n ↦ absurd n | inr j ↦ j ]
