-- A guard that is true admits the row by the access that it gives.
use Rattle.std.proofs.Common.{◌≡◌, ◌∙◌, refl, ap, subst, inl, inr, ℕ, Bool, true, Option, Some, None}
use Rattle.std.specs.Prelude.{◌⊎◌, ◌&&◌, nat_eq, option_map}
use Rattle.std.specs.Option.{option_or}
use Rattle.std.proofs.lemmas.Bool.{and_parts, eqb-true, false≢true}
use Rattle.std.proofs.lemmas.Option.{none-some, cond_some}
use Rattle.tap_base.specs.declared.numbers.Op.TheVariants.{Eq}
use Rattle.tql_tree.specs.declared.table.Table.{Table}
use Rattle.tql_tree.specs.declared.table.Table.TheVariants.{Docs, Notes}
use Rattle.tql_tree.specs.contracts.table.TablePartialEq.TheImpl as table
use Rattle.tql_core.specs.declared.term.Var.{Var}
use Rattle.tql_core.specs.declared.atom.ListField.{ListField}
use Rattle.tql_core.specs.declared.atom.ListField.TheVariants.{To, Cc, Newsgroups, References, Words}
use Rattle.tql_core.specs.declared.atom.NumExpr.{NumExpr}
use Rattle.tql_core.specs.declared.atom.NumExpr.TheVariants.{Literal, Field}
use Rattle.tql_core.specs.declared.atom.TextExpr.{TextExpr}
use Rattle.tql_core.specs.declared.atom.TextExpr.TheVariants as X
use Rattle.tql_core.specs.declared.atom.Atom.{Atom}
use Rattle.tql_core.specs.declared.atom.Atom.TheVariants.{Numbers, Texts, Has}
use Rattle.tql_core.specs.Row.{Row}
use Rattle.tql_core.specs.Values.{Env, lookup, on_row, field, number, text_field, text, list_field, both, both_texts, has, true_atom}
use Rattle.access_plan.specs.declared.access.Access.{Access}
use Rattle.access_plan.specs.declared.access.Access.TheVariants.{ByNumber, ByText, ByEntry, ByEach}
use Rattle.access_plan.specs.Accesses.{admits, table_of, number_table, text_table, is_known_number, is_known_text, is_own, is_walked_list}
use Rattle.access_plan.specs.Accesses.{walked_list}
use Rattle.access_plan.specs.Accesses.{by_number, by_text, by_entry, by_each, access_by}
use Rattle.access_plan.specs.Laws.{AreSame}
use Rattle.access_plan.proofs.Fields.{both_round, texts_round}

pub one_of : {A : Type 0} (x y : Option A) (e : A) → option_or x y ≡ Some e → (x ≡ Some e) ⊎ (y ≡ Some e)
one_of None y e h = inr h
one_of (Some x) y e h = inl h

-- what an answer was made of
pub made_of : {A B : Type 0} (f : A → B) (x : Option A) (b : B) → option_map f x ≡ Some b → (a : A) × (x ≡ Some a) × (f a ≡ b)
made_of f None b h = absurd (none-some b h)
made_of f (Some a) b h = (a, refl, (cond_some true (f a) b h).1)

-- what is one's own is of one's variable and table
pub own_var : (v : Var) (t : Table) (u : Var) (by : Table) → is_own v t u by ≡ true → u.0 ≡ v.0
own_var v t u by h = eqb-true u.0 v.0 (and_parts (nat_eq u.0 v.0) (table.ghosts.eq by t) h).0

pub own_table : (v : Var) (t : Table) (u : Var) (by : Table) → is_own v t u by ≡ true → by ≡ t
own_table v t u by h = same by t (and_parts (nat_eq u.0 v.0) (table.ghosts.eq by t) h).1
  where
    same : (x y : Table) → table.ghosts.eq x y ≡ true → x ≡ y
    same Docs Docs e = refl
    same Docs Notes e = absurd (false≢true e)
    same Notes Docs e = absurd (false≢true e)
    same Notes Notes e = refl

-- a list of a row whose texts are looked up one after the other
walked_is : (l : ListField) (o : Option Row) → is_walked_list l ≡ true → on_row o (list_field l) ≡ on_row o (walked_list l)
walked_is Words o h = absurd (false≢true h)
walked_is To o h = refl
walked_is Cc o h = refl
walked_is Newsgroups o h = refl
walked_is References o h = refl

module _ (known : ℕ → Bool) (v : Var) (t : Table) (env final : Env) (row : Row) (same : AreSame known env final)
    (here : lookup v.0 final ≡ Some row) where
  number_stays : (e : NumExpr) → is_known_number known e ≡ true → number e final ≡ number e env
  number_stays (Literal n) k = refl
  number_stays (Field w f) k = ap (λ o. on_row o (field f)) (same w.0 k)

  text_stays : (e : TextExpr) → is_known_text known e ≡ true → text e final ≡ text e env
  text_stays (X.Literal n) k = refl
  text_stays (X.Field w f) k = ap (λ o. on_row o (text_field f)) (same w.0 k)

  own_row : (u : Var) (by : Table) → is_own v t u by ≡ true → lookup u.0 final ≡ Some row
  own_row u by h = ap (λ k. lookup k final) (own_var v t u by h) ∙ here

  -- by the sides of an equation
  number_here : (x y : NumExpr) (access : Access) → by_number known v t x y ≡ Some access → both Eq (number x final) (number y final) ≡ true
      → admits access env row ≡ true
  number_here (Literal n) y access h i = absurd (none-some access h)
  number_here (Field u f) y access h i =
      let c = cond_some (is_own v t u (number_table f) && is_known_number known y) (ByNumber f y) access h in
      let p = and_parts _ _ c.0 in
      let left : number (Field u f) final ≡ field f row = ap (λ o. on_row o (field f)) (own_row u (number_table f) p.0) in
      subst (λ z. admits z env row ≡ true) c.1
      (subst (λ z. both Eq (field f row) z ≡ true) (number_stays y p.1) (subst (λ z. both Eq z (number y final) ≡ true) left i))

  text_here : (x y : TextExpr) (access : Access) → by_text known v t x y ≡ Some access
      → both_texts Eq (text x final) (text y final) ≡ true → admits access env row ≡ true
  text_here (X.Literal n) y access h i = absurd (none-some access h)
  text_here (X.Field u f) y access h i =
      let c = cond_some (is_own v t u (text_table f) && is_known_text known y) (ByText f y) access h in
      let p = and_parts _ _ c.0 in
      let left : text (X.Field u f) final ≡ text_field f row = ap (λ o. on_row o (text_field f)) (own_row u (text_table f) p.0) in
      subst (λ z. admits z env row ≡ true) c.1
      (subst (λ z. both_texts Eq (text_field f row) z ≡ true) (text_stays y p.1)
      (subst (λ z. both_texts Eq z (text y final) ≡ true) left i))

  -- by a text that a list has
  entry_here : (u : Var) (l : ListField) (y : TextExpr) (access : Access) → by_entry known v t u l y ≡ Some access
      → has (on_row (lookup u.0 final) (list_field l)) (text y final) ≡ true → admits access env row ≡ true
  entry_here u l y access h i =
      let c = cond_some (is_own v t u Docs && is_known_text known y) (ByEntry l y) access h in
      let p = and_parts _ _ c.0 in
      let left : on_row (lookup u.0 final) (list_field l) ≡ list_field l row = ap (λ o. on_row o (list_field l)) (own_row u Docs p.0) in
      subst (λ z. admits z env row ≡ true) c.1
      (subst (λ z. has (list_field l row) z ≡ true) (text_stays y p.1) (subst (λ z. has z (text y final) ≡ true) left i))

  each_here : (w : Var) (l : ListField) (y : TextExpr) (access : Access) → by_each known v t w l y ≡ Some access
      → has (on_row (lookup w.0 final) (list_field l)) (text y final) ≡ true → admits access env row ≡ true
  each_here w l (X.Literal n) access h i = absurd (none-some access h)
  each_here w l (X.Field u f) access h i =
      let c = cond_some ((is_own v t u (text_table f) && known w.0) && is_walked_list l) (ByEach w l f) access h in
      let q = and_parts _ _ c.0 in
      let p = and_parts _ _ q.0 in
      let left : on_row (lookup w.0 final) (list_field l) ≡ on_row (lookup w.0 env) (walked_list l) =
      ap (λ o. on_row o (list_field l)) (same w.0 p.1) ∙ walked_is l (lookup w.0 env) q.1 in
      let right : text (X.Field u f) final ≡ text_field f row = ap (λ o. on_row o (text_field f)) (own_row u (text_table f) p.0) in
      subst (λ z. admits z env row ≡ true) c.1
      (subst (λ z. has (on_row (lookup w.0 env) (walked_list l)) z ≡ true) right
      (subst (λ z. has z (text (X.Field u f) final) ≡ true) left i))

  -- a guard that gives an access admits by it every row of which it is true
  pub guard_admits : (a : Atom) (access : Access) → access_by known v t a ≡ Some access → true_atom a final ≡ true
      → admits access env row ≡ true
  guard_admits (Numbers x Eq y) access h i =
      elim (one_of (by_number known v t x y) (by_number known v t y x) access h) [
        | inl j ↦ number_here x y access j i
        | inr j ↦ number_here y x access j (both_round (number x final) (number y final) i)
      ]
  guard_admits (Texts x Eq y) access h i =
      elim (one_of (by_text known v t x y) (by_text known v t y x) access h) [
        | inl j ↦ text_here x y access j i
        | inr j ↦ text_here y x access j (texts_round (text x final) (text y final) i)
      ]
  guard_admits (Has u l y) access h i =
      elim (one_of (by_entry known v t u l y) (by_each known v t u l y) access h) [
        | inl j ↦ entry_here u l y access j i
        | inr j ↦ each_here u l y access j i
      ]
  guard_admits _ access h i = absurd (none-some access h)

-- and it is of rows of the variable's table
module _ (known : ℕ → Bool) (v : Var) (t : Table) where
  number_is_of : (x y : NumExpr) (access : Access) → by_number known v t x y ≡ Some access → table_of access ≡ t
  number_is_of (Literal n) y access h = absurd (none-some access h)
  number_is_of (Field u f) y access h =
      let c = cond_some (is_own v t u (number_table f) && is_known_number known y) (ByNumber f y) access h in
      subst (λ z. table_of z ≡ t) c.1 (own_table v t u (number_table f) (and_parts _ _ c.0).0)

  text_is_of : (x y : TextExpr) (access : Access) → by_text known v t x y ≡ Some access → table_of access ≡ t
  text_is_of (X.Literal n) y access h = absurd (none-some access h)
  text_is_of (X.Field u f) y access h =
      let c = cond_some (is_own v t u (text_table f) && is_known_text known y) (ByText f y) access h in
      subst (λ z. table_of z ≡ t) c.1 (own_table v t u (text_table f) (and_parts _ _ c.0).0)

  entry_is_of : (u : Var) (l : ListField) (y : TextExpr) (access : Access) → by_entry known v t u l y ≡ Some access → table_of access ≡ t
  entry_is_of u l y access h =
      let c = cond_some (is_own v t u Docs && is_known_text known y) (ByEntry l y) access h in
      subst (λ z. table_of z ≡ t) c.1 (own_table v t u Docs (and_parts _ _ c.0).0)

  each_is_of : (w : Var) (l : ListField) (y : TextExpr) (access : Access) → by_each known v t w l y ≡ Some access → table_of access ≡ t
  each_is_of w l (X.Literal n) access h = absurd (none-some access h)
  each_is_of w l (X.Field u f) access h =
      let c = cond_some ((is_own v t u (text_table f) && known w.0) && is_walked_list l) (ByEach w l f) access h in
      subst (λ z. table_of z ≡ t) c.1 (own_table v t u (text_table f) (and_parts _ _ (and_parts _ _ c.0).0).0)

  pub guard_table : (a : Atom) (access : Access) → access_by known v t a ≡ Some access → table_of access ≡ t
  guard_table (Numbers x Eq y) access h =
      elim (one_of (by_number known v t x y) (by_number known v t y x) access h) [
        | inl j ↦ number_is_of x y access j
        | inr j ↦ number_is_of y x access j
      ]
  guard_table (Texts x Eq y) access h =
      elim (one_of (by_text known v t x y) (by_text known v t y x) access h) [
        | inl j ↦ text_is_of x y access j
        | inr j ↦ text_is_of y x access j
      ]
  guard_table (Has u l y) access h =
      elim (one_of (by_entry known v t u l y) (by_each known v t u l y) access h) [
        | inl j ↦ entry_is_of u l y access j
        | inr j ↦ each_is_of u l y access j
      ]
  guard_table _ access h = absurd (none-some access h)
