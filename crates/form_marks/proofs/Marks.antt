-- The probes by which the form of a condition is evaluated have no mark that the condition hasn't.
use Rattle.std.proofs.Common.{◌≡◌, ℕ, ℤ, pos, Bool, true, false, List, [], ◌∷◌, ◌++◌, refl, sym, ap, ◌∙◌, subst, inl, inr, map}
use Rattle.std.specs.Prelude.{◌⊎◌, ◌&&◌, not, nat_le, nat_eq, int_lt, if◌then◌else◌}
use Rattle.std.specs.List.{list_any}
use Rattle.std.proofs.lemmas.Bool.{eqb-false, ne_eqb, or_parts, or_cases, false≢true}
use Rattle.tap_rows.specs.declared.tables.Tables.{Tables}
use Rattle.tap_rows.specs.Kept.{In}
use Rattle.tql_tree.specs.declared.table.Table.{Table}
use Rattle.tql_tree.specs.declared.table.Table.TheVariants.{Docs}
use Rattle.tql_core.specs.declared.term.Var.{Var}
use Rattle.tql_core.specs.declared.term.Base.{Base}
use Rattle.tql_core.specs.declared.term.Base.TheVariants.{Arrival, Date, Fixed, ArrivalDay, DateDay}
use Rattle.tql_core.specs.declared.term.Term.{Term}
use Rattle.tql_core.specs.Condition.{Condition, Always, Never, Plain, NowAtLeast, NowBefore, All, Either, Not, Exists}
use Rattle.tql_core.specs.Row.{rows_of}
use Rattle.tql_core.specs.Scope.{IsQuery, Scoped}
use Rattle.tql_core.specs.Values.{bind, value}
use Rattle.time_marks.specs.declared.mark.Step.{Step}
use Rattle.time_marks.specs.declared.mark.Mark.{Mark}
use Rattle.time_marks.specs.declared.window.Window.{Window}
use Rattle.time_marks.specs.Distinct.{same_probe, kept_with, distinct_onto, distinct_probes}
use Rattle.time_marks.specs.Found.{base_vars}
use Rattle.time_marks.specs.Marks.{copied, copy, copy_base, copy_term, arrival_term, step_of, under_step, mark_if, marks, document_var}
use Rattle.time_marks.specs.Marks.{marks_from, rising_from, body}
use Rattle.time_marks.specs.Probes.{Probe}
use Rattle.time_marks.specs.Seeks.{lies_in}
use Rattle.time_marks.proofs.Envs.{copied_back}
use Rattle.time_marks.proofs.Lists.{in_map, map_in}
use Rattle.time_marks.proofs.Repeats.{distinct_among, probe_is}
use Rattle.monotone_rewrite.specs.Folding.{known, is_no, fold}
use Rattle.monotone_rewrite.specs.Query.{can_find, fold_probe, probe_of, unfolded, window}
use Rattle.delta_rewrite.specs.Delta.{delta_window}
use Rattle.delta_rewrite.proofs.SameMarks.{no_other_mark}
use Rattle.probe_eval.proofs.Members.{in_filter, to_filter}
use Rattle.probe_eval.specs.Runs.{starts, HasNoMark}
use Rattle.probe_eval.specs.Tables.{table_in}
use Rattle.query_form.specs.declared.place.Place.{Place}
use Rattle.query_form.specs.declared.place.Place.TheVariants.{Before, Inside, After}
use Rattle.query_form.specs.Form.{names, base_names, has_key, may_split, conjoined, place_of, same_place, only_if, conjuncts, beside}
use Rattle.query_form.specs.Form.{narrowed, cross_right, cross, distributed, exists_each, split, formed, node_count, form_of}
use Rattle.query_form.proofs.Equivalent.{conjuncts_apart}
use Rattle.query_form.proofs.Scopes.{conjuncts_in, distributed_in, formed_in, forms_are_queries}
use Rattle.form_marks.specs.Laws.{FormsHaveNoOtherMark}
use Rattle.form_marks.proofs.Verdicts.{form_known}

module _ {A : Type 0} where
  -- each of the first is one of the second
  abbrev Sub : List A → List A → Type 0
  Sub xs ys = (x : A) → In x xs → In x ys

  left_in : (xs ys : List A) → Sub xs (xs ++ ys)
  left_in [] ys z i = absurd i
  left_in (x ∷ xs) ys z (inl e) = inl e
  left_in (x ∷ xs) ys z (inr i) = inr (left_in xs ys z i)

  right_in : (xs ys : List A) → Sub ys (xs ++ ys)
  right_in [] ys z i = i
  right_in (x ∷ xs) ys z i = inr (right_in xs ys z i)

  one_of : (xs ys : List A) (z : A) → In z (xs ++ ys) → In z xs ⊎ In z ys
  one_of [] ys z i = inr i
  one_of (x ∷ xs) ys z (inl e) = inl (inl e)
  one_of (x ∷ xs) ys z (inr i) = elim (one_of xs ys z i) [ inl j ↦ inl (inr j) | inr j ↦ inr j ]

  both_in : (xs ys zs : List A) → Sub xs zs → Sub ys zs → Sub (xs ++ ys) zs
  both_in xs ys zs f g z i = elim (one_of xs ys z i) [ inl j ↦ f z j | inr j ↦ g z j ]

-- each of some probes is among the distinct ones
onto_stay : (kept X : List Probe) (p : Probe) → In p kept → In p (distinct_onto same_probe kept X)
onto_stay kept [] p i = i
onto_stay kept (x ∷ X) p i = onto_stay (kept_with same_probe kept x) X p (go (list_any (same_probe x) kept))
  where
    go : (b : Bool) → In p (if b then kept else kept ++ x ∷ [])
    go true = i
    go false = left_in kept (x ∷ []) p i

equal_in : (x : Probe) (kept : List Probe) → list_any (same_probe x) kept ≡ true → In x kept
equal_in x [] h = absurd (false≢true h)
equal_in x (y ∷ kept) h =
    elim (or_cases (same_probe x y) (list_any (same_probe x) kept) h) [ inl e ↦ inl (probe_is x y e) | inr e ↦ inr (equal_in x kept e) ]

among_distinct : (kept X : List Probe) (p : Probe) → In p X → In p (distinct_onto same_probe kept X)
among_distinct kept [] p i = absurd i
among_distinct kept (x ∷ X) p (inl e) = onto_stay (kept_with same_probe kept x) X p
    (subst (λ q. In q (kept_with same_probe kept x)) (sym e) (go (list_any (same_probe x) kept) refl))
  where
    go : (b : Bool) → list_any (same_probe x) kept ≡ b → In x (if b then kept else kept ++ x ∷ [])
    go true h = equal_in x kept h
    go false h = right_in kept (x ∷ []) x (inl refl)
among_distinct kept (x ∷ X) p (inr i) = among_distinct (kept_with same_probe kept x) X p i

-- both marks have one time, of a row of one table
record SameTime (m n : Mark) : Type 0 where
  pub at : m.at ≡ n.at
  pub table : (k : ℕ) → In k (base_vars m.at.base) → table_in m.path k ≡ table_in n.path k

-- each of the first marks is like one of the second
abbrev Among : List Mark → List Mark → Type 0
Among xs ys = (m : Mark) → In m xs → (n : Mark) × In n ys × SameTime m n

sub_among : (xs ys : List Mark) → Sub xs ys → Among xs ys
sub_among xs ys f m i = (m, f m i, record { at = refl; table = λ k j. refl })

among_then : (xs ys zs : List Mark) → Among xs ys → Among ys zs → Among xs zs
among_then xs ys zs f g m i =
    let a = f m i in
    let b = g a.0 a.1 in (
      b.0,
      b.1,
      record {
        at = a.2.at ∙ b.2.at;
        table = λ k j. a.2.table k j ∙ b.2.table k (subst (λ (t : Term). In k (base_vars t.base)) a.2.at j);
      },
    )

among_both : (xs ys zs : List Mark) → Among xs zs → Among ys zs → Among (xs ++ ys) zs
among_both xs ys zs f g m i = elim (one_of xs ys m i) [ inl j ↦ f m j | inr j ↦ g m j ]

among_left : (xs ys zs : List Mark) → Among xs ys → Among xs (ys ++ zs)
among_left xs ys zs f m i = let a = f m i in (a.0, left_in ys zs a.0 a.1, a.2)

among_right : (xs ys zs : List Mark) → Among xs zs → Among xs (ys ++ zs)
among_right xs ys zs f m i = let a = f m i in (a.0, right_in ys zs a.0 a.1, a.2)

among_under : (v : Var) (t : Table) (x y : Condition) (xs ys : List Mark) → Among xs ys
    → Among (map (under_step (step_of v t x)) xs) (map (under_step (step_of v t y)) ys)
among_under v t x y xs ys f m i =
    let r = map_in (under_step (step_of v t x)) xs m i in
    let a = f r.0 r.1 in
    let e : under_step (step_of v t x) r.0 ≡ m = sym r.2 in (
      under_step (step_of v t y) a.0,
      in_map (under_step (step_of v t y)) ys a.0 a.1,
      subst (λ z. SameTime z (under_step (step_of v t y) a.0)) e (record {
        at = a.2.at;
        table = λ k j. ap (λ z. if nat_eq (copied v.0) k then t else z) (a.2.table k j);
      }),
    )

module _ (up : Bool) where
  conjoined_marks : (l r : Condition) → Sub (marks (conjoined l r) up) (marks l up ++ marks r up)
  conjoined_marks Always r m i = i
  conjoined_marks l Always m i = left_in (marks l up) [] m i
  conjoined_marks l r m i = i

  chosen_sub : (b : Bool) (x y : Condition) (zs : List Mark) → Sub (marks x up) zs → Sub (marks y up) zs
      → Sub (marks (if b then x else y) up) zs
  chosen_sub true x y zs f g = f
  chosen_sub false x y zs f g = g

  chosen_among : (b : Bool) (x y : Condition) (zs : List Mark) → Among (marks x up) zs → Among (marks y up) zs
      → Among (marks (if b then x else y) up) zs
  chosen_among true x y zs f g = f
  chosen_among false x y zs f g = g

  only_marks : (b : Bool) (x : Condition) → Sub (marks (only_if b x) up) (marks x up)
  only_marks true x m i = i
  only_marks false x m i = absurd i

  conjuncts_marks : (v : Var) (p : Place) (x : Condition) → Sub (marks (conjuncts v p x) up) (marks x up)
  conjuncts_marks v p (All l r) m i =
      both_in (marks (conjuncts v p l) up) (marks (conjuncts v p r) up) (marks l up ++ marks r up)
      (λ z j. left_in (marks l up) (marks r up) z (conjuncts_marks v p l z j))
      (λ z j. right_in (marks l up) (marks r up) z (conjuncts_marks v p r z j))
      m (conjoined_marks (conjuncts v p l) (conjuncts v p r) m i)
  conjuncts_marks v p x m i = only_marks (same_place p (place_of v x)) x m i

  cross_right_marks : (v : Var) (l r : Condition) → Sub (marks (cross_right v l r) up) (marks l up ++ marks r up)
  cross_right_marks v l (Either a b) =
      let to = marks l up ++ (marks a up ++ marks b up) in
      chosen_sub (has_key v a && has_key v b) (Either (cross_right v l a) (cross_right v l b)) (All l (Either a b)) to
      (both_in (marks (cross_right v l a) up) (marks (cross_right v l b) up) to
      (λ z j. both_in (marks l up) (marks a up) to (left_in (marks l up) (marks a up ++ marks b up))
      (λ y k. right_in (marks l up) (marks a up ++ marks b up) y (left_in (marks a up) (marks b up) y k)) z (cross_right_marks v l a z j))
      (λ z j. both_in (marks l up) (marks b up) to (left_in (marks l up) (marks a up ++ marks b up))
      (λ y k. right_in (marks l up) (marks a up ++ marks b up) y (right_in (marks a up) (marks b up) y k)) z (cross_right_marks v l b z j)))
      (λ z j. j)
  cross_right_marks v l r = λ z j. j

  cross_marks : (v : Var) (l r : Condition) → Sub (marks (cross v l r) up) (marks l up ++ marks r up)
  cross_marks v (Either a b) r =
      let to = (marks a up ++ marks b up) ++ marks r up in
      chosen_sub (has_key v a && has_key v b) (Either (cross v a r) (cross v b r)) (cross_right v (Either a b) r) to
      (both_in (marks (cross v a r) up) (marks (cross v b r) up) to
      (λ z j. both_in (marks a up) (marks r up) to
      (λ y k. left_in (marks a up ++ marks b up) (marks r up) y (left_in (marks a up) (marks b up) y k))
      (right_in (marks a up ++ marks b up) (marks r up)) z (cross_marks v a r z j))
      (λ z j. both_in (marks b up) (marks r up) to
      (λ y k. left_in (marks a up ++ marks b up) (marks r up) y (right_in (marks a up) (marks b up) y k))
      (right_in (marks a up ++ marks b up) (marks r up)) z (cross_marks v b r z j)))
      (cross_right_marks v (Either a b) r)
  cross_marks v l r = cross_right_marks v l r

  distributed_marks : (v : Var) (x : Condition) → Sub (marks (distributed v x) up) (marks x up)
  distributed_marks v (All l r) m i =
      both_in (marks (distributed v l) up) (marks (distributed v r) up) (marks l up ++ marks r up)
      (λ z j. left_in (marks l up) (marks r up) z (distributed_marks v l z j))
      (λ z j. right_in (marks l up) (marks r up) z (distributed_marks v r z j)) m (cross_marks v (distributed v l) (distributed v r) m i)
  distributed_marks v (Either l r) m i =
      both_in (marks (distributed v l) up) (marks (distributed v r) up) (marks l up ++ marks r up)
      (λ z j. left_in (marks l up) (marks r up) z (distributed_marks v l z j))
      (λ z j. right_in (marks l up) (marks r up) z (distributed_marks v r z j)) m i
  distributed_marks v x m i = i

-- the time of a mark isn't that of a variable that isn't named
foreign_base : (v : Var) (b : Base) (k : ℕ) → base_names v b ≡ false → In k (base_vars (copy_base b)) → k ≡ copied v.0 → ⊥
foreign_base v (Arrival w) k e (inr i) j = absurd i
foreign_base v (Arrival w) k e (inl i) j = eqb-false w.0 v.0 e (copied_back w.0 v.0 (sym i ∙ j))
foreign_base v (Date w) k e (inr i) j = absurd i
foreign_base v (Date w) k e (inl i) j = eqb-false w.0 v.0 e (copied_back w.0 v.0 (sym i ∙ j))
foreign_base v Fixed k e i j = absurd i
foreign_base v (ArrivalDay w n) k e (inr i) j = absurd i
foreign_base v (ArrivalDay w n) k e (inl i) j = eqb-false w.0 v.0 e (copied_back w.0 v.0 (sym i ∙ j))
foreign_base v (DateDay w n) k e (inr i) j = absurd i
foreign_base v (DateDay w n) k e (inl i) j = eqb-false w.0 v.0 e (copied_back w.0 v.0 (sym i ∙ j))

one_mark : (v : Var) (up : Bool) (t : Term) (m : Mark) (k : ℕ) → In m (mark_if up t)
    → ((k : ℕ) → In k (base_vars t.base) → k ≡ copied v.0 → ⊥) → In k (base_vars m.at.base) → k ≡ copied v.0 → ⊥
one_mark v true t m k (inl i) h j = h k (subst (λ (n : Mark). In k (base_vars n.at.base)) i j)
one_mark v true t m k (inr i) h j = absurd i
one_mark v false t m k i h j = absurd i

foreign : (up : Bool) (v : Var) (scope : List ℕ) (z : Condition) (m : Mark) (k : ℕ) → In v.0 scope → Scoped scope z → names v z ≡ false
    → In m (marks z up) → In k (base_vars m.at.base) → k ≡ copied v.0 → ⊥
foreign up v scope (NowAtLeast e) m k b s n i = one_mark v up (copy_term e) m k i (λ k. foreign_base v e.base k n)
foreign up v scope (NowBefore e) m k b s n i = one_mark v (not up) (copy_term e) m k i (λ k. foreign_base v e.base k n)
foreign up v scope (All l r) m k b s n i =
    let p = or_parts (names v l) (names v r) n in
    elim (one_of (marks l up) (marks r up) m i)
    [ inl j ↦ foreign up v scope l m k b s.0 p.0 j | inr j ↦ foreign up v scope r m k b s.1 p.1 j ]
foreign up v scope (Either l r) m k b s n i =
    let p = or_parts (names v l) (names v r) n in
    elim (one_of (marks l up) (marks r up) m i)
    [ inl j ↦ foreign up v scope l m k b s.0 p.0 j | inr j ↦ foreign up v scope r m k b s.1 p.1 j ]
foreign up v scope (Not x) m k b s n i = foreign (not up) v scope x m k b s n i
foreign up v scope (Exists w t x) m k b (low, high, new, inner) n i =
    let r = map_in (under_step (step_of w t x)) (mark_if up (arrival_term (copy w)) ++ marks x up) m i in
    λ j. elim (one_of (mark_if up (arrival_term (copy w))) (marks x up) r.0 r.1) [
      | inl a ↦ one_mark v up (arrival_term (copy w)) r.0 k a (at_w) (subst (λ (n : Mark). In k (base_vars n.at.base)) r.2 j)
      | inr a ↦ foreign up v (w.0 ∷ scope) x r.0 k (inr b) inner n a (subst (λ (n : Mark). In k (base_vars n.at.base)) r.2 j)
    ]
  where
    at_w : (k : ℕ) → In k (copied w.0 ∷ []) → k ≡ copied v.0 → ⊥
    at_w k (inl e) f = new (subst (λ z. In z scope) (sym (copied_back w.0 v.0 (sym e ∙ f))) b)
    at_w k (inr e) f = absurd e
foreign up v scope Always m k b s n i = absurd i
foreign up v scope Never m k b s n i = absurd i
foreign up v scope (Plain a) m k b s n i = absurd i

module _ (up : Bool) (scope : List ℕ) (v : Var) (t : Table) where
  -- the marks of an EXISTS around x
  abbrev within : Condition → List Mark
  within x = marks (Exists v t x) up

  lifted : (x y : Condition) → Sub (marks x up) (marks y up) → Among (within x) (within y)
  lifted x y f =
      among_under v t x y (mark_if up (arrival_term (copy v)) ++ marks x up) (mark_if up (arrival_term (copy v)) ++ marks y up)
      (among_both (mark_if up (arrival_term (copy v))) (marks x up) (mark_if up (arrival_term (copy v)) ++ marks y up)
      (sub_among (mark_if up (arrival_term (copy v))) (mark_if up (arrival_term (copy v)) ++ marks y up)
      (left_in (mark_if up (arrival_term (copy v))) (marks y up)))
      (sub_among (marks x up) (mark_if up (arrival_term (copy v)) ++ marks y up)
      (λ z j. right_in (mark_if up (arrival_term (copy v))) (marks y up) z (f z j))))

  -- a part that doesn't name the variable has the same marks inside the EXISTS
  apart : (p : Place) (x : Condition) → same_place p Inside ≡ false → Scoped (v.0 ∷ scope) x → Among (marks (conjuncts v p x) up) (within x)
  apart p x e s m i = (
    under_step (step_of v t x) m,
    in_map (under_step (step_of v t x)) (mark_if up (arrival_term (copy v)) ++ marks x up) m
        (right_in (mark_if up (arrival_term (copy v))) (marks x up) m (conjuncts_marks up v p x m i)),
    record { at = refl; table = table },
  )
    where
      table : (k : ℕ) → In k (base_vars m.at.base) → table_in m.path k ≡ (if nat_eq (copied v.0) k then t else table_in m.path k)
      table k j =
          let n : nat_eq (copied v.0) k ≡ false = ne_eqb (copied v.0) k
          (λ f. foreign up v (v.0 ∷ scope) (conjuncts v p x) m k (inl refl) (conjuncts_in (v.0 ∷ scope) v p x s)
          (conjuncts_apart v p x e) i j (sym f)) in
          rw n refl

  beside_marks : (x made : Condition) → Scoped (v.0 ∷ scope) x → Among (marks made up) (within x)
      → Among (marks (beside v x made) up) (within x)
  beside_marks x made s f m i =
      among_both (marks (conjuncts v Before x) up) (marks (conjoined made (conjuncts v After x)) up) (within x) (apart Before x refl s)
      (λ n j. among_both (marks made up) (marks (conjuncts v After x) up) (within x) f (apart After x refl s) n
      (conjoined_marks up made (conjuncts v After x) n j))
      m (conjoined_marks up (conjuncts v Before x) (conjoined made (conjuncts v After x)) m i)

  narrowed_marks : (x : Condition) → Scoped (v.0 ∷ scope) x → Among (marks (narrowed v t x) up) (within x)
  narrowed_marks x s = beside_marks x (Exists v t (conjuncts v Inside x)) s
      (lifted (conjuncts v Inside x) x (conjuncts_marks up v Inside x))

  exists_each_marks : (x : Condition) → Scoped (v.0 ∷ scope) x → Among (marks (exists_each v t x) up) (within x)
  exists_each_marks (Either l r) s =
      chosen_among up (has_key v l && has_key v r) (Either (exists_each v t l) (exists_each v t r)) (narrowed v t (Either l r))
      (within (Either l r))
      (among_both (marks (exists_each v t l) up) (marks (exists_each v t r) up) (within (Either l r))
      (among_then (marks (exists_each v t l) up) (within l) (within (Either l r)) (exists_each_marks l s.0)
      (lifted l (Either l r) (left_in (marks l up) (marks r up))))
      (among_then (marks (exists_each v t r) up) (within r) (within (Either l r)) (exists_each_marks r s.1)
      (lifted r (Either l r) (right_in (marks l up) (marks r up)))))
      (narrowed_marks (Either l r) s)
  exists_each_marks x s = narrowed_marks x s

  split_marks : (x : Condition) → Scoped (v.0 ∷ scope) x → Among (marks (split v t x) up) (within x)
  split_marks x s =
      chosen_among up (may_split v t x) (exists_each v t (distributed v x)) (Exists v t x) (within x)
      (among_then (marks (exists_each v t (distributed v x)) up) (within (distributed v x)) (within x)
      (exists_each_marks (distributed v x) (distributed_in (v.0 ∷ scope) v x s)) (lifted (distributed v x) x (distributed_marks up v x)))
      (sub_among (within x) (within x) (λ z j. j))

formed_marks : (up : Bool) (scope : List ℕ) (c : Condition) → Scoped scope c → Among (marks (formed c) up) (marks c up)
formed_marks up scope (All l r) s =
    among_both (marks (formed l) up) (marks (formed r) up) (marks l up ++ marks r up)
    (among_left (marks (formed l) up) (marks l up) (marks r up) (formed_marks up scope l s.0))
    (among_right (marks (formed r) up) (marks l up) (marks r up) (formed_marks up scope r s.1))
formed_marks up scope (Either l r) s =
    among_both (marks (formed l) up) (marks (formed r) up) (marks l up ++ marks r up)
    (among_left (marks (formed l) up) (marks l up) (marks r up) (formed_marks up scope l s.0))
    (among_right (marks (formed r) up) (marks l up) (marks r up) (formed_marks up scope r s.1))
formed_marks up scope (Not x) s = formed_marks (not up) scope x s
formed_marks up scope (Exists v t x) (low, high, new, inner) =
    let y = formed x in
    let here = mark_if up (arrival_term (copy v)) in
    let s = formed_in (v.0 ∷ scope) x inner in
    among_then (marks (formed (Exists v t x)) up) (marks (Exists v t y) up) (marks (Exists v t x) up)
    (beside_marks up scope v t y (split v t (conjuncts v Inside y)) s
    (among_then (marks (split v t (conjuncts v Inside y)) up) (marks (Exists v t (conjuncts v Inside y)) up) (marks (Exists v t y) up)
    (split_marks up scope v t (conjuncts v Inside y) (conjuncts_in (v.0 ∷ scope) v Inside y s))
    (lifted up scope v t (conjuncts v Inside y) y (conjuncts_marks up v Inside y))))
    (among_under v t y x (here ++ marks y up) (here ++ marks x up)
    (among_both here (marks y up) (here ++ marks x up) (sub_among here (here ++ marks x up) (left_in here (marks x up)))
    (among_right (marks y up) here (marks x up) (formed_marks up (v.0 ∷ scope) x inner))))
formed_marks up scope Always s = sub_among [] [] (λ z j. j)
formed_marks up scope Never s = sub_among [] [] (λ z j. j)
formed_marks up scope (Plain a) s = sub_among [] [] (λ z j. j)
formed_marks up scope (NowAtLeast e) s = sub_among (marks (NowAtLeast e) up) (marks (NowAtLeast e) up) (λ z j. j)
formed_marks up scope (NowBefore e) s = sub_among (marks (NowBefore e) up) (marks (NowBefore e) up) (λ z j. j)

rising_marks : (c : Condition) (start : ℤ) → IsQuery c → Among (rising_from (form_of c) start) (rising_from c start)
rising_marks c start q =
    let first = mark_if true (arrival_term document_var) in
    let last = mark_if (int_lt (pos 0) start) (record { base = Fixed; plus = start }) in
    among_under document_var Docs (form_of c) c (marks_from (form_of c) start) (marks_from c start)
    (among_both (first ++ marks (form_of c) true) last (marks_from c start)
    (among_left (first ++ marks (form_of c) true) (first ++ marks c true) last
    (among_both first (marks (form_of c) true) (first ++ marks c true)
    (sub_among first (first ++ marks c true) (left_in first (marks c true)))
    (among_right (marks (form_of c) true) first (marks c true)
    (chosen_among true (nat_le (node_count (formed c)) 128) (formed c) c (marks c true) (formed_marks true (0 ∷ []) c q)
    (sub_among (marks c true) (marks c true) (λ z j. j))))))
    (sub_among last (marks_from c start) (right_in (first ++ marks c true) last)))

starts_same : (T : Tables) (p q : List Step) (b : Base) (n : ℤ) (x y : Condition)
    → ((k : ℕ) → In k (base_vars b) → table_in p k ≡ table_in q k)
    → starts T (record { path = p; at = record { base = b; plus = n }; body = x })
    ≡ starts T (record { path = q; at = record { base = b; plus = n }; body = y })
starts_same T p q (Arrival v) n x y h = ap (λ t. map (λ row. bind v row []) (rows_of t T)) (h v.0 (inl refl))
starts_same T p q (Date v) n x y h = ap (λ t. map (λ row. bind v row []) (rows_of t T)) (h v.0 (inl refl))
starts_same T p q Fixed n x y h = refl
starts_same T p q (ArrivalDay v m) n x y h = ap (λ t. map (λ row. bind v row []) (rows_of t T)) (h v.0 (inl refl))
starts_same T p q (DateDay v m) n x y h = ap (λ t. map (λ row. bind v row []) (rows_of t T)) (h v.0 (inl refl))

no_mark : (T : Tables) (w : Window) (p q : List Step) (a b : Term) (x y : Condition) → a ≡ b
    → ((k : ℕ) → In k (base_vars a.base) → table_in p k ≡ table_in q k)
    → HasNoMark T w (record { path = q; at = b; body = y }) → HasNoMark T w (record { path = p; at = a; body = x })
no_mark T w p q a b x y e h none env i =
    subst (λ (z : Term). lies_in w (value z env) ≡ false) (sym e)
    (none env (subst (λ (z : Term). In env (starts T (record { path = q; at = z; body = y }))) e
    (subst (In env) (starts_same T p q a.base a.plus x y h) i)))

-- the window query of the form has none
window_has_none : (c : Condition) (start : ℤ) → IsQuery c → (T : Tables) (w : Window)
    → ((p : Probe) → In p (distinct_probes (window c start)) → HasNoMark T w p)
    → (p : Probe) → In p (window (form_of c) start) → HasNoMark T w p
window_has_none c start query T w none p i =
    let c' = form_of c in
    let f = in_filter can_find (map fold_probe (unfolded c' start)) p i in
    let g = map_in fold_probe (unfolded c' start) p f.0 in
    let h = map_in (probe_of c') (rising_from c' start) g.0 g.1 in
    let m = h.0 in
    let a = rising_marks c start query m h.1 in
    let n = a.0 in
    let is : p ≡ fold_probe (probe_of c' m) = g.2 ∙ ap fold_probe h.2 in
    let q = fold_probe (probe_of c n) in
    let found : can_find q ≡ true =
    ap (λ k. not (is_no k)) (sym (form_known n.at c)) ∙ ap (λ (z : Term). not (is_no (known (fold z (body c' z))))) (sym a.2.at)
    ∙ ap can_find (sym is) ∙ f.1 in
    let here : In q (distinct_probes (window c start)) =
    among_distinct [] (window c start) q (to_filter can_find (map fold_probe (unfolded c start)) q
    (in_map fold_probe (unfolded c start) (probe_of c n) (in_map (probe_of c) (rising_from c start) n a.1)) found) in
    subst (HasNoMark T w) (sym is) (no_mark T w m.path n.path m.at n.at (fold m.at (body c' m.at)) (fold n.at (body c n.at)) a.2.at
    a.2.table (none q here))

pub forms_have_no_other_mark : FormsHaveNoOtherMark
forms_have_no_other_mark c start query T w none p i =
    let c' = form_of c in
    let k = no_other_mark c' start (forms_are_queries c query) p (distinct_among (delta_window c' start) p i) in
    no_mark T w p.path k.0.path p.at k.0.at p.body k.0.body (sym k.3) (λ n j. ap (λ (path : List Step). table_in path n) (sym k.2))
    (window_has_none c start query T w none k.0 k.1)
