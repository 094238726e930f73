-- The documents that a posting list has under a guard's literal are those of which the guard is true.
use Rattle.std.proofs.Common.{◌≡◌, ◌∙◌, ℕ, ℤ, pos, Bool, true, false, List, [], ◌∷◌, Option, Some, None, refl, sym, ap, inl, inr, arith}
use Rattle.std.proofs.Common.{map}
use Rattle.std.specs.Prelude.{◌⊎◌, ◌&&◌, ◌≤ℤ◌, ◌<ℤ◌, int_le, int_lt, filter, fold, is_some, nat_eq, nat_lt, option_to_list}
use Rattle.std.specs.List.{list_any}
use Rattle.std.specs.Str.{bytes_eq}
use Rattle.std.proofs.lemmas.Bool.{cases_Bool, and_from}
use Rattle.std.proofs.lemmas.Int.{ints}
use Rattle.std.proofs.lemmas.Option.{none-some}
use Rattle.std.proofs.lemmas.Map.Text.{is_eq-slice_cmp}
use Rattle.tap_base.specs.declared.numbers.Op.TheVariants.{Eq}
use Rattle.tap_rows.specs.declared.rows.Doc.{Doc}
use Rattle.tap_rows.specs.declared.tables.Tables.{Tables}
use Rattle.tap_rows.specs.Kept.{In, Each}
use Rattle.tap_rows.proofs.Tests.{or_end, some_same}
use Rattle.tql_tree.specs.declared.table.Table.{Table}
use Rattle.tql_tree.specs.declared.table.Table.TheVariants.{Docs}
use Rattle.tql_core.specs.declared.term.Var.{Var}
use Rattle.tql_core.specs.declared.atom.TextExpr.TheVariants.{Literal, Field}
use Rattle.tql_core.specs.declared.atom.Atom.{Atom}
use Rattle.tql_core.specs.declared.atom.Atom.TheVariants.{Texts, Has}
use Rattle.tql_core.specs.Row.{OfDoc}
use Rattle.tql_core.specs.Values.{bind, text_field, both_texts, true_atom}
use Rattle.row_index.specs.declared.text_kind.TextKind.{TextKind}
use Rattle.row_index.specs.Orders.{in_window, doc_arrival}
use Rattle.row_index.specs.Texts.{texts_of, with_text}
use Rattle.time_marks.specs.declared.mark.Step.{Step}
use Rattle.time_marks.specs.declared.seek.Seek.{Seek}
use Rattle.time_marks.specs.declared.seek.Seek.TheVariants.{Arrived, ArrivedDay}
use Rattle.time_marks.specs.declared.window.Window.{Window}
use Rattle.probe_eval.specs.Drivers.{stored_rows}
use Rattle.probe_eval.specs.Kinds.{field_kind, of_docs, list_kind}
use Rattle.probe_eval.specs.Literals.{kind_if, literal_kind, literal_of, list_length, shorter, rarer, rarest, chosen}
use Rattle.probe_eval.proofs.AccessLists.{picked, doc_asked, of_docs_texts, entry_asked}
use Rattle.probe_eval.proofs.Costs.{filter_same, filter_both}
use Rattle.tap_base.specs.Numbers.{IsMoment}

-- a kind is given of a field of the variable alone
pub kind_parts : (v u : Var) (o : Option TextKind) (kind : TextKind) → kind_if v u o ≡ Some kind → (nat_eq u.0 v.0 ≡ true) × (o ≡ Some kind)
kind_parts v u o kind h = elim (cases_Bool (nat_eq u.0 v.0)) [
  | inl e ↦ (e, rw e at h)
  | inr e ↦ absurd (none-some kind (rw e at h))
]

-- a text that may be absent, with the literal on the left
turned_asked : (o : Option (List ℕ)) (t : List ℕ) → list_any (λ other. bytes_eq t other) (option_to_list o) ≡ both_texts Eq (Some t) o
turned_asked None t = refl
turned_asked (Some x) t = or_end (bytes_eq t x) ∙ sym (is_eq-slice_cmp t x)

-- a document has the literal if and only if the guard is true of it
same_truth : (v : Var) (a : Atom) (kind : TextKind) → literal_kind v a ≡ Some kind → (d : Doc)
    → list_any (λ other. bytes_eq (literal_of a) other) (texts_of kind d) ≡ true_atom a (bind v (OfDoc d) [])
same_truth v (Texts (Field u f) Eq (Literal t)) kind h d =
    let k = kind_parts v u (of_docs (field_kind f)) kind h in
    rw k.0 (doc_asked f kind k.1 d t)
same_truth v (Texts (Literal t) Eq (Field u f)) kind h d =
    let k = kind_parts v u (of_docs (field_kind f)) kind h in
    rw k.0 (ap (list_any (λ other. bytes_eq t other)) (of_docs_texts f kind k.1 d) ∙ turned_asked (text_field f (OfDoc d)) t)
same_truth v (Has u l (Literal t)) kind h d =
    let k = kind_parts v u (Some (list_kind l)) kind h in
    rw k.0 (ap (λ z. list_any (λ other. bytes_eq t other) (texts_of z d)) (sym (some_same k.1)) ∙ entry_asked l d t)
same_truth v _ kind h d = absurd (none-some kind h)

and_turned : (a b : Bool) → (a && b) ≡ (b && a)
and_turned true true = refl
and_turned true false = refl
and_turned false true = refl
and_turned false false = refl

-- two filters may be exchanged
pub filter_swap : {A : Type 0} (p q : A → Bool) (xs : List A) → filter p (filter q xs) ≡ filter q (filter p xs)
filter_swap p q xs = filter_both q p xs ∙ filter_same (λ x. q x && p x) (λ x. p x && q x) xs (λ x. and_turned (q x) (p x))
    ∙ sym (filter_both p q xs)

-- the documents under the literal that arrived in a window
pub under_literal : (v : Var) (a : Atom) (kind : TextKind) (low high : ℤ) (docs : List Doc) → literal_kind v a ≡ Some kind
    → map OfDoc (in_window doc_arrival low high (with_text (texts_of kind) (literal_of a) docs))
    ≡ filter (λ row. true_atom a (bind v row [])) (map OfDoc (in_window doc_arrival low high docs))
under_literal v a kind low high docs h =
    ap (map OfDoc) (filter_swap _ (λ d. list_any (λ other. bytes_eq (literal_of a) other) (texts_of kind d)) docs)
    ∙ picked OfDoc (λ d. list_any (λ other. bytes_eq (literal_of a) other) (texts_of kind d)) (λ row. true_atom a (bind v row []))
    (in_window doc_arrival low high docs) (same_truth v a kind h)

-- all documents arrived at moments of the clock
module _ (P : Doc → Bool) (high : ℤ) (late : pos 250000000000 <ℤ high) where
  in_clock : (s : ℤ) → IsMoment s → (int_le (pos 0) s && int_lt s high) ≡ true
  in_clock s m = and_from (int_le (pos 0) s) (int_lt s high) (early s m.0) (before s m.1)
    where
      early : (s : ℤ) → pos 0 ≤ℤ s → int_le (pos 0) s ≡ true
      early s h = grind (arith, ints)

      before : (s : ℤ) → s ≤ℤ pos 250000000000 → int_lt s high ≡ true
      before s h = grind (arith, ints)

  pub all_in_clock : (docs : List Doc) → Each (λ doc. IsMoment (doc_arrival doc)) docs
      → in_window doc_arrival (pos 0) high (filter P docs) ≡ filter P docs
  all_in_clock [] m = refl
  all_in_clock (d ∷ ds) m = elim (cases_Bool (P d)) [
    | inl e ↦ rw (e, in_clock (doc_arrival d) m.0) (ap (λ z. d ∷ z) (all_in_clock ds m.1))
    | inr e ↦ rw e (all_in_clock ds m.1)
  ]

-- the guard that is chosen is one of the path, and names a posting list
module _ (T : Tables) (v : Var) (a : Atom) where
  shorter_is : (best : Option Atom) (x : Atom) → shorter T v best x ≡ Some a → (best ≡ Some a) ⊎ (a ≡ x)
  shorter_is None x h = inr (sym (some_same h))
  shorter_is (Some b) x h = elim (cases_Bool (nat_lt (list_length T v x) (list_length T v b))) [
    | inl k ↦ inr (sym (some_same (rw k at h)))
    | inr k ↦ inl (rw k at h)
  ]

  rarer_is : (best : Option Atom) (x : Atom) → rarer T v best x ≡ Some a → (best ≡ Some a) ⊎ ((a ≡ x) × (is_some (literal_kind v a) ≡ true))
  rarer_is best x h = elim (cases_Bool (is_some (literal_kind v x))) [
    | inl k ↦ elim (shorter_is best x (rw k at h)) [ inl e ↦ inl e | inr e ↦ inr (e, ap (λ z. is_some (literal_kind v z)) e ∙ k) ]
    | inr k ↦ inl (rw k at h)
  ]

  of_guards : (best : Option Atom) (xs : List Atom) → fold (rarer T v) best xs ≡ Some a
      → (best ≡ Some a) ⊎ (In a xs × (is_some (literal_kind v a) ≡ true))
  of_guards best [] h = inl h
  of_guards best (x ∷ xs) h = elim (of_guards (rarer T v best x) xs h) [
    | inl e ↦ elim (rarer_is best x e) [ inl q ↦ inl q | inr q ↦ inr (inl q.0, q.1) ]
    | inr i ↦ inr (inr i.0, i.1)
  ]

  of_steps : (best : Option Atom) (path : List Step) → fold (λ best step. fold (rarer T v) best step.guards) best path ≡ Some a
      → (best ≡ Some a) ⊎ ((step : Step) × In step path × In a step.guards × (is_some (literal_kind v a) ≡ true))
  of_steps best [] h = inl h
  of_steps best (s ∷ path) h = elim (of_steps (fold (rarer T v) best s.guards) path h) [
    | inl e ↦ elim (of_guards best s.guards e) [ inl q ↦ inl q | inr q ↦ inr (s, inl refl, q.0, q.1) ]
    | inr i ↦ inr (i.0, inr i.1, i.2, i.3)
  ]

  pub rarest_is : (path : List Step) → rarest T v path ≡ Some a
      → (step : Step) × In step path × In a step.guards × (is_some (literal_kind v a) ≡ true)
  rarest_is path h = elim (of_steps None path h) [ inl e ↦ absurd (none-some a e) | inr i ↦ i ]

  pub chosen_is : (path : List Step) (seek : Seek) (t : Table) → chosen T v path seek t ≡ Some a
      → (step : Step) × In step path × In a step.guards × (is_some (literal_kind v a) ≡ true)
  chosen_is path (Arrived u n) Docs h = rarest_is path h
  chosen_is path (ArrivedDay u n) Docs h = rarest_is path h
  chosen_is path _ _ h = absurd (none-some a h)

  -- and documents drive by their arrival
  pub chosen_rows : (path : List Step) (seek : Seek) (t : Table) (w : Window) → chosen T v path seek t ≡ Some a
      → stored_rows seek t w T ≡ map OfDoc (in_window doc_arrival w.low w.high T.docs)
  chosen_rows path (Arrived u n) Docs w h = refl
  chosen_rows path (ArrivedDay u n) Docs w h = refl
  chosen_rows path _ _ w h = absurd (none-some a h)
