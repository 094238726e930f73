-- The rows of sqlite_schema fix the list of objects that they were read as.
use Rattle.std.proofs.Common.{◌≡◌, ◌≢◌, ◌⊎◌, ℕ, zero, suc, ◌+◌, ◌-◌, ◌<◌, pos, Bool, false, List, [], ◌∷◌, map, length}
use Rattle.std.proofs.Common.{get_or, codes, All, Some, if◌then◌else◌, inl, inr, refl, sym, ap, ap₂, subst, ◌∙◌, arith}
use Rattle.sqlite_value.specs.declared.value.Value.{Value}
use Rattle.sqlite_value.specs.declared.value.Value.TheVariants.{Int, Text}
use Rattle.sqlite_value.specs.Order.{Row, column, bytes}
use Rattle.sqlite_trees.specs.declared.store.Shape.{Shape}
use Rattle.sqlite_trees.specs.View.{View}
use Rattle.sqlite_trees.specs.Objects.{number_in, shape_code}
use Rattle.sqlite_schema.specs.declared.schema.Schema.{Schema}
use Rattle.sqlite_schema.specs.declared.schema.Table.{Table}
use Rattle.sqlite_schema.specs.Rules.{index_reals, table_reals}
use Rattle.sqlite_rules.specs.Lists.{Has}
use Rattle.sqlite_rules.proofs.ListLemmas.{all_has}
use Rattle.sqlite_catalog.specs.Listing.{unordered}
use Rattle.sqlite_catalog.specs.Reading.{AreRead, AreShaped, IsTableShaped, IsIndexShaped, IsViewShaped, coded_by}
use Rattle.sqlite_catalog.proofs.ReadLemmas.{read_once}
use Rattle.sqlite_store.specs.declared.catalog.Wanted.{Wanted}
use Rattle.sqlite_store.specs.Listing.{listed_from}
use Rattle.sqlite_store.specs.Joined.{joined}
use Rattle.sqlite.specs.Opening.{HasTree, IsListedIn, Meets, Suits, layout_at, layout_of, shape_of, unsorted}
use Rattle.sqlite.proofs.OpenLemmas.{unsorted_code, unsorted_plain}

-- a value is one text
no_two : (x : Value) (a b : List ℕ) (k : ℕ) → get_or a k 0 ≢ get_or b k 0 → x ≡ Text a → x ≡ Text b → ⊥
no_two x a b k other p q = other (ap (λ v. get_or (bytes v) k 0) (sym p ∙ q))

module _ (rows : List Row) (row : Row) (flag : Bool) where
  abbrev Aside : Type 0
  Aside = (column row 1 ≡ Text (codes "view")) ⊎ (column row 1 ≡ Text (codes "trigger"))

  aside_index : Aside → column row 1 ≡ Text (codes "index") → ⊥
  aside_index (inl view) = no_two _ _ _ 1 (omega arith) view
  aside_index (inr trigger) = no_two _ _ _ 1 (omega arith) trigger

  aside_table : Aside → column row 1 ≡ Text (codes "table") → ⊥
  aside_table (inl view) = no_two _ _ _ 1 (omega arith) view
  aside_table (inr trigger) = no_two _ _ _ 1 (omega arith) trigger

  index_table : column row 1 ≡ Text (codes "index") → column row 1 ≡ Text (codes "table") → ⊥
  index_table = no_two _ _ _ 1 (omega arith)

  either_once : (P : Type 0) (x y s t : Shape) → (P × (s ≡ x)) ⊎ ((¬ P) × (s ≡ y)) → (P × (t ≡ x)) ⊎ ((¬ P) × (t ≡ y)) → s ≡ t
  either_once P x y s t (inl a) (inl b) = a.1 ∙ sym b.1
  either_once P x y s t (inl a) (inr b) = absurd (b.0 a.0)
  either_once P x y s t (inr a) (inl b) = absurd (a.0 b.0)
  either_once P x y s t (inr a) (inr b) = a.1 ∙ sym b.1

  suits_once : (s t : Shape) → Suits rows row flag s → Suits rows row flag t → s ≡ t
  suits_once s t (inl a) (inl b) = a.1 ∙ sym b.1
  suits_once s t (inl a) (inr (inl b)) = absurd (aside_index a.0 b.0)
  suits_once s t (inl a) (inr (inr b)) = absurd (aside_table a.0 b.0)
  suits_once s t (inr (inl a)) (inl b) = absurd (aside_index b.0 a.0)
  suits_once s t (inr (inl a)) (inr (inl b)) = either_once _ _ _ s t a.1 b.1
  suits_once s t (inr (inl a)) (inr (inr b)) = absurd (index_table a.0 b.0)
  suits_once s t (inr (inr a)) (inl b) = absurd (aside_table b.0 a.0)
  suits_once s t (inr (inr a)) (inr (inl b)) = absurd (index_table b.0 a.0)
  suits_once s t (inr (inr a)) (inr (inr b)) = either_once _ _ _ s t a.1 b.1

same_map : {X : Type 0} (rows : List Row) (f g : Row → X)
    → ((at : ℕ) (d : Row) → at < length rows → f (get_or rows at d) ≡ g (get_or rows at d)) → map f rows ≡ map g rows
same_map [] f g same = refl
same_map (r ∷ rows) f g same = ap₂ (λ x xs. x ∷ xs) (same 0 r (omega arith)) (same_map rows f g (λ at d low. same (suc at) d (omega arith)))

-- the schema fixes the shape and the REAL columns of each of its trees, but for an aside's shape
module _ (v w : View) (schema : Schema) (p : AreShaped v schema) (q : AreShaped w schema) where
  layouts_same : (tree : ℕ) → unsorted (v.shape tree) ≡ unsorted (w.shape tree) → IsListedIn schema tree
      → layout_at v tree ≡ layout_at w tree
  layouts_same tree alike (inl (inl t)) =
      let a = all_has (IsTableShaped v) schema.tables t.0 p.tables t.1 in
      let b = all_has (IsTableShaped w) schema.tables t.0 q.tables t.1 in
      subst (λ n. layout_at v n ≡ layout_at w n) t.2 (ap₂ (λ x y. (x, y)) (a.0 ∙ sym b.0) (a.1 ∙ sym b.1))
  layouts_same tree alike (inl (inr i)) =
      let a = all_has (IsIndexShaped v schema.tables) schema.indexes i.0 p.indexes i.1 in
      let b = all_has (IsIndexShaped w schema.tables) schema.indexes i.0 q.indexes i.1 in
      let both : Some a.1.0 ≡ Some b.1.0 = sym a.1.1 ∙ b.1.1 in
      let owner : a.1.0 ≡ b.1.0 = cc in
      subst (λ n. layout_at v n ≡ layout_at w n) i.2
      (ap₂ (λ x y. (x, y)) (a.0 ∙ sym b.0) (a.1.2 ∙ ap (λ (t : Table). index_reals (table_reals t) i.0.columns) owner ∙ sym b.1.2))
  layouts_same tree alike (inr x) =
      let a = all_has (IsViewShaped v) schema.views x.0 p.views x.1 in
      let b = all_has (IsViewShaped w) schema.views x.0 q.views x.1 in
      let alike_too = subst (λ n. unsorted (v.shape n) ≡ unsorted (w.shape n)) (sym x.2) alike in
      subst (λ n. layout_at v n ≡ layout_at w n) x.2
      (ap₂ (λ x y. (x, y)) (sym (unsorted_plain _ a.1) ∙ alike_too ∙ unsorted_plain _ b.1) (a.0 ∙ sym b.0))

module _ (s t : Schema) (a b : List Wanted) (rows : List Row) (roots : List Bool) (m : Meets s a rows roots)
    (n : Meets t b rows roots) where
  shapes_same : (at : ℕ) (d : Row) → at < length rows → shape_of m.shown (get_or rows at d) ≡ shape_of n.shown (get_or rows at d)
  shapes_same at d low = suits_once rows (get_or rows at d) (get_or roots at false) _ _ (m.suit at d low) (n.suit at d low)

  codes_same : (x y : Shape) → unsorted x ≡ unsorted y → unordered (shape_code x) ≡ unordered (shape_code y)
  codes_same x y same = sym (unsorted_code x) ∙ ap (λ z. unordered (shape_code z)) same ∙ unsorted_code y

  coded_same : map (coded_by m.shown.shape) rows ≡ map (coded_by n.shown.shape) rows
  coded_same = same_map rows _ _ (λ at d low. let row = get_or rows at d in
      ap (λ code. column row 0 ∷ column row 1 ∷ column row 2 ∷ column row 3 ∷ column row 4 ∷ Int (pos code) ∷ [])
      (codes_same _ _ (shapes_same at d low)))

  schemas_same : s ≡ t
  schemas_same =
      let read = subst (λ xs. AreRead xs s) coded_same m.read in
      read_once _ s t read.tables read.indexes read.views n.read

  layout_same : (at : ℕ) (d : Row) → at < length rows → layout_of m.shown (get_or rows at d) ≡ layout_of n.shown (get_or rows at d)
  layout_same at d low =
      let named = n.named at d low in
      let place : number_in (column (get_or rows at d) 0) - 1 ≡ named.0 = omega (arith, ap number_in named.2) in
      let knows = subst (AreShaped m.shown) schemas_same m.knows in
      let alike = subst (λ k. unsorted (m.shown.shape k) ≡ unsorted (n.shown.shape k)) place (shapes_same at d low) in
      subst (λ k. layout_at m.shown k ≡ layout_at n.shown k) (sym place)
      (layouts_same m.shown n.shown t knows n.knows named.0 alike named.3)

  pub listed_once : listed_from 0 a ≡ listed_from 0 b
  listed_once = sym m.whole ∙ ap (joined rows) (same_map rows _ _ layout_same) ∙ n.whole
