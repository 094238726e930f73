-- What a probe finds, and when a document is given.
use Rattle.std.proofs.Common.{◌≡◌, ℕ, ℤ, pos, Bool, true, false, not, Some, List, [], ◌∷◌, ◌++◌, refl, sym, ap, ◌∙◌, subst, inl, inr, arith}
use Rattle.std.specs.Prelude.{◌+ℤ◌, ◌<ℤ◌, int_le, int_lt}
use Rattle.std.proofs.lemmas.Bool.{cases_Bool, and_parts, and_from, or_cases, false≢true, ne_eqb, or_left}
use Rattle.std.proofs.lemmas.Int.{ints}
use Rattle.tap_rows.specs.declared.rows.Doc.{Doc}
use Rattle.tql_tree.specs.declared.table.Table.TheVariants.{Docs}
use Rattle.tql_core.specs.declared.term.Term.{Term}
use Rattle.tql_core.specs.Condition.{Condition, Always, Never, Plain, NowAtLeast, NowBefore, All, Either, Not, Exists}
use Rattle.tql_core.specs.Row.{OfDoc, rows_of}
use Rattle.tap_rows.specs.declared.tables.Tables.{Tables}
use Rattle.tap_rows.specs.Results.{visible}
use Rattle.tql_core.specs.Values.{Env, bind, lookup, value}
use Rattle.tql_core.specs.Holds.{truth, asked_of}
use Rattle.time_marks.proofs.Asked.{given}
use Rattle.tql_core.specs.Scope.{Scoped, IsQuery}
use Rattle.tql_core.proofs.Bound.{bind_other}
use Rattle.tap_rows.specs.Kept.{In}
use Rattle.time_marks.specs.declared.mark.Step.{Step}
use Rattle.time_marks.specs.declared.mark.Mark.{Mark}
use Rattle.time_marks.specs.Marks.{copied, copy, copy_term, arrival_term, step_of, under_step, mark_if, marks, document_var, fixed_term}
use Rattle.time_marks.specs.Marks.{marks_from, rising_from, body}
use Rattle.time_marks.specs.Probes.{choices, some_rows, come_by, is_satisfied, finds, found}
use Rattle.monotone_rewrite.specs.Query.{probe_of, unfolded}
use Rattle.time_marks.specs.Laws.{Keeps, Same, Along, Crossed}
use Rattle.time_marks.proofs.Orders.{is_value_of, value_is}
use Rattle.time_marks.proofs.Lists.{any_in, in_any, in_map, map_in, append_in}
use Rattle.time_marks.proofs.Seconds.{reached}
use Rattle.time_marks.proofs.Envs.{copied_pos, guards_hold}
use Rattle.time_marks.proofs.Crossing.{crossing, crossed_here, crossed_left, crossed_right, plus_none}
use Rattle.time_marks.proofs.Bodies.{body_truth}

-- no step binds m
abbrev pub Apart : List Step → Type 0
Apart [] = Unit {0}
Apart (step ∷ path) = (step.var.0 ≡ 0 → ⊥) × Apart path

-- what holds of every mark below the first step
pub record Fine (mark : Mark) : Type 0 where
  pub apart : Apart mark.path
  pub term : Term
  pub is_copy : mark.at ≡ copy_term term

pub fine_if : (up : Bool) (e : Term) (mark : Mark) → In mark (mark_if up (copy_term e)) → Fine mark
fine_if true e mark (inl h) = record { apart = subst (λ k. Apart k.path) (sym h) tt; term = e; is_copy = ap (λ k. k.at) h }
fine_if true e mark (inr h) = absurd h
fine_if false e mark h = absurd h

pub fine : (c : Condition) (up : Bool) (scope : List ℕ) → Scoped scope c → (mark : Mark) → In mark (marks c up) → Fine mark
fine Always up scope sc mark i = absurd i
fine Never up scope sc mark i = absurd i
fine (Plain a) up scope sc mark i = absurd i
fine (NowAtLeast e) up scope sc mark i = fine_if up e mark i
fine (NowBefore e) up scope sc mark i = fine_if (not up) e mark i
fine (All l r) up scope sc mark i =
    elim (append_in (marks l up) (marks r up) mark i) [ inl j ↦ fine l up scope sc.0 mark j | inr j ↦ fine r up scope sc.1 mark j ]
fine (Either l r) up scope sc mark i =
    elim (append_in (marks l up) (marks r up) mark i) [ inl j ↦ fine l up scope sc.0 mark j | inr j ↦ fine r up scope sc.1 mark j ]
fine (Not x) up scope sc mark i = fine x (not up) scope sc mark i
fine (Exists v t x) up scope sc mark i =
    let k = map_in (under_step (step_of v t x)) (mark_if up (arrival_term (copy v)) ++ marks x up) mark i in
    let f : Fine k.0 = elim (append_in (mark_if up (arrival_term (copy v))) (marks x up) k.0 k.1) [
      | inl j ↦
          fine_if up (arrival_term v) k.0 j
      | inr j ↦ fine x up (v.0 ∷ scope) sc.3 k.0 j
    ] in
    record {
      apart = subst (λ z. Apart z.path) (sym k.2) (copied_pos v.0 sc.0, f.apart);
      term = f.term;
      is_copy = ap (λ z. z.at) k.2
          ∙ f.is_copy;
    }

pub fine_from : (c : Condition) (a : ℤ) → IsQuery c → (mark : Mark) → In mark (marks_from c a) → Fine mark
fine_from c a q mark i =
    elim (append_in (mark_if true (arrival_term document_var) ++ marks c true) (mark_if (int_lt (pos 0) a) (fixed_term a)) mark i) [
      | inl j ↦ elim (append_in (mark_if true (arrival_term document_var)) (marks c true) mark j) [
        | inl k ↦
            fine_if true (arrival_term document_var) mark k
        | inr k ↦ fine c true (0 ∷ []) q mark k
      ]
      | inr j ↦ fine_if (int_lt (pos 0) a) (fixed_term a) mark j
    ]

module _ (T : Tables) (d : Doc) where
  pub choices_other : (step : Step) → (step.var.0 ≡ 0 → ⊥) → choices T d step ≡ rows_of step.table T
  choices_other step h = rw (ne_eqb step.var.0 0 h)

  -- rows along a path that pass the test
  pub rows_pass : (s : ℤ) (path : List Step) (env final : Env) (test : Env → Bool) → Apart path → Along T s path env final
      → test final ≡ true → some_rows T d path env test ≡ true
  rows_pass s [] env final test a e h = subst (λ x. test x ≡ true) e h
  rows_pass s (step ∷ path) env final test a (r, i, c, along) h =
      rw (choices_other step a.0) (in_any _ (rows_of step.table T) r i (rows_pass s path (bind step.var r env) final test a.1 along h))

  -- the other way round: some rows that do
  pub some_pass : (b : ℤ) (path : List Step) (env : Env) (test : Env → Bool) → Apart path → some_rows T d path env test ≡ true
      → (final : Env) × (test final ≡ true) × (lookup 0 final ≡ lookup 0 env) × (come_by b final ≡ true → come_by b env ≡ true)
  some_pass b [] env test a h = (env, h, refl, λ k. k)
  some_pass b (step ∷ path) env test a h =
      let k = any_in (λ r. some_rows T d path (bind step.var r env) test) (choices T d step) h in
      let n = some_pass b path (bind step.var k.0 env) test a.1 k.2 in
      (n.0, n.1, n.2 ∙ bind_other 0 step.var k.0 env (λ e. a.0 (sym e)), λ y. (and_parts _ _ (n.3 y)).1)

  pub along_come : (s : ℤ) (path : List Step) (env final : Env) → Along T s path env final → come_by s env ≡ true → come_by s final ≡ true
  along_come s [] env final e h = subst (λ x. come_by s x ≡ true) (sym e) h
  along_come s (step ∷ path) env final (r, i, c, along) h = along_come s path (bind step.var r env) final along (and_from _ _ c h)

module _ (c : Condition) (a : ℤ) (q : IsQuery c) (T : Tables) (d : Doc) where
  pub only_m : (env : Env) → lookup 0 env ≡ Some (OfDoc d) → Same (0 ∷ []) (asked_of d) env
  only_m env h k (inl e) = subst (λ j. lookup j env ≡ lookup j (asked_of d)) (sym e) h
  only_m env h k (inr i) = absurd i

  pub keeps_m : Keeps (0 ∷ []) (asked_of d) (asked_of d)
  keeps_m k (inl e) = subst (λ j. lookup (copied j) (asked_of d) ≡ lookup j (asked_of d)) (sym e) refl
  keeps_m k (inr i) = absurd i

  crossed_found : (s : ℤ) → int_le d.arrival s ≡ true → truth (visible T s) s c (asked_of d) ≡ true
      → Crossed T s (0 ∷ []) (asked_of d) (asked_of d) (marks_from c a) → found (unfolded c a) T d s ≡ true
  crossed_found s come y k =
      let f = fine_from c a q k.mark k.is_mark in
      let mark = under_step (step_of document_var Docs c) k.mark in
      let here = subst (λ t. value t k.final ≡ Some s) f.is_copy k.reaches in
      let true_body = subst (λ t. truth T (pos 0) (body c t) k.final ≡ true) (sym f.is_copy)
      (body_truth T (pos 0) s f.term c (0 ∷ []) (asked_of d) k.final q (only_m k.final (k.keeps 0 (inl refl))) here ∙ y) in
      let guards = and_from _ _ (guards_hold (0 ∷ []) (asked_of d) k.final k.keeps (visible T s) s c q y) k.guards in
      let come' = along_come T d s k.mark.path (asked_of d) k.final k.along (and_from _ _ come refl) in
      let fit : is_satisfied (probe_of c mark) T s k.final ≡ true =
      and_from _ _ (and_from _ _ (and_from _ _ guards (value_is _ s k.reaches)) come') true_body in
      in_any (finds T d s) (unfolded c a) (probe_of c mark)
      (in_map (probe_of c) (rising_from c a) mark (in_map (under_step (step_of document_var Docs c)) (marks_from c a) k.mark k.is_mark))
      (or_left _ false (rows_pass T d s k.mark.path (asked_of d) k.final (is_satisfied (probe_of c mark) T s) f.apart k.along fit))

  -- a document that begins to be given is found in that second
  pub begins : (u s : ℤ) → s ≡ u +ℤ pos 1 → given c T d u ≡ false → given c T d s ≡ true → found (unfolded c a) T d s ≡ true
  begins u s n h b =
      let p = and_parts (int_le d.arrival s) (truth (visible T s) s c (asked_of d)) b in
      crossed_found s p.0 p.1 (crossed_left T s (0 ∷ []) (asked_of d) (asked_of d)
      (mark_if true (arrival_term document_var) ++ marks c true) (mark_if (int_lt (pos 0) a) (fixed_term a)) (
      elim (cases_Bool (int_le d.arrival u)) [
        | inl was ↦
            let a' : truth (visible T u) u c (asked_of d) ≡ false = rw was at h in
            crossed_right T s (0 ∷ []) (asked_of d) (asked_of d) (mark_if true (arrival_term document_var)) (marks c true)
            (crossing T u s n c true (0 ∷ []) (asked_of d) (asked_of d) q keeps_m a' p.1)
        | inr new ↦
            crossed_left T s (0 ∷ []) (asked_of d) (asked_of d) (mark_if true (arrival_term document_var)) (marks c true)
            (crossed_here T s (0 ∷ []) (asked_of d) (asked_of d) true (arrival_term document_var) refl
            (ap Some (plus_none d.arrival ∙ reached u s d.arrival n new p.0)) keeps_m)
      ]))

  -- and so is one that is given at the start, if that is above 0
  pub starts : pos 0 <ℤ a → given c T d a ≡ true → found (unfolded c a) T d a ≡ true
  starts h b =
      let p = and_parts (int_le d.arrival a) (truth (visible T a) a c (asked_of d)) b in
      let late : int_lt (pos 0) a ≡ true = grind (arith, ints) in
      let sum : pos 0 +ℤ a ≡ a = omega (arith, ints) in
      crossed_found a p.0 p.1 (crossed_right T a (0 ∷ []) (asked_of d) (asked_of d)
      (mark_if true (arrival_term document_var) ++ marks c true) (mark_if (int_lt (pos 0) a) (fixed_term a))
      (crossed_here T a (0 ∷ []) (asked_of d) (asked_of d) (int_lt (pos 0) a) (fixed_term a) late (ap Some sum) keeps_m))

  -- and whatever is found is given then
  pub found_given : (b : ℤ) → found (unfolded c a) T d b ≡ true → given c T d b ≡ true
  found_given b h =
      let step = step_of document_var Docs c in
      let p = any_in (finds T d b) (unfolded c a) h in
      let k = map_in (probe_of c) (rising_from c a) p.0 p.1 in
      let l = map_in (under_step step) (marks_from c a) k.0 k.1 in
      let f = fine_from c a q l.0 l.1 in
      let finds' : finds T d b (probe_of c (under_step step l.0)) ≡ true =
      subst (λ z. finds T d b z ≡ true) (k.2 ∙ ap (probe_of c) l.2) p.2 in
      let some : some_rows T d l.0.path (asked_of d) (is_satisfied (probe_of c (under_step step l.0)) T b) ≡ true =
      elim (or_cases _ false finds') [ inl y ↦ y | inr n ↦ absurd (false≢true n) ] in
      let e = some_pass T d b l.0.path (asked_of d) (is_satisfied (probe_of c (under_step step l.0)) T b) f.apart some in
      let w = and_parts _ _ e.1 in
      let x = and_parts _ _ w.0 in
      let v = and_parts _ _ x.0 in
      let here = subst (λ t. value t e.0 ≡ Some b) f.is_copy (is_value_of _ b v.1) in
      let y = subst (λ t. truth T (pos 0) (body c t) e.0 ≡ true) f.is_copy w.1 in
      and_from _ _ (and_parts _ _ (e.3 x.1)).0 (sym (body_truth T (pos 0) b f.term c (0 ∷ []) (asked_of d) e.0 q (only_m e.0 e.2) here) ∙ y)
