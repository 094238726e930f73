-- Lists, tests over them, and the visible rows.
use Rattle.std.proofs.Common.{◌≡◌, ℤ, Bool, true, false, List, [], ◌∷◌, ◌++◌, refl, sym, ap, ◌∙◌, inl, inr}
use Rattle.std.specs.Prelude.{◌⊎◌, ◌&&◌, ◌||◌, map, int_le}
use Rattle.std.specs.List.{list_any, list_all, filter}
use Rattle.std.proofs.lemmas.Bool.{or_cases, cases_Bool, false≢true, and_parts, both_ways, or_left, or_right}
use Rattle.tql_tree.specs.declared.table.Table.{Table}
use Rattle.tql_tree.specs.declared.table.Table.TheVariants.{Docs, Notes}
use Rattle.tql_core.specs.Row.{Row, OfDoc, OfNote, arrival, rows_of}
use Rattle.tap_rows.specs.declared.tables.Tables.{Tables}
use Rattle.tap_rows.specs.Results.{visible}
use Rattle.tap_rows.specs.Kept.{In}

-- an element that passes
pub any_in : {A : Type 0} (p : A → Bool) (xs : List A) → list_any p xs ≡ true → (x : A) × In x xs × (p x ≡ true)
any_in p [] h = absurd (false≢true h)
any_in p (x ∷ xs) h =
    elim (or_cases (p x) (list_any p xs) h) [
      | inl e ↦ (x, inl refl, e)
      | inr e ↦ let r = any_in p xs e in (r.0, inr r.1, r.2)
    ]

pub in_any : {A : Type 0} (p : A → Bool) (xs : List A) (x : A) → In x xs → p x ≡ true → list_any p xs ≡ true
in_any p [] x i h = absurd i
in_any p (y ∷ ys) x (inl e) h = or_left (p y) (list_any p ys) (ap p (sym e) ∙ h)
in_any p (y ∷ ys) x (inr i) h = or_right (p y) (list_any p ys) (in_any p ys x i h)

-- if none passes, each element fails
pub none_in : {A : Type 0} (p : A → Bool) (xs : List A) (x : A) → list_any p xs ≡ false → In x xs → p x ≡ false
none_in p xs x h i =
    elim (cases_Bool (p x)) [ inl e ↦ absurd (both_ways _ h (in_any p xs x i e)) | inr e ↦ e ]

pub all_in : {A : Type 0} (p : A → Bool) (xs : List A) (x : A) → list_all p xs ≡ true → In x xs → p x ≡ true
all_in p [] x h i = absurd i
all_in p (y ∷ ys) x h (inl e) = ap p e ∙ (and_parts (p y) (list_all p ys) h).0
all_in p (y ∷ ys) x h (inr i) = all_in p ys x (and_parts (p y) (list_all p ys) h).1 i

pub all_append : {A : Type 0} (p : A → Bool) (xs ys : List A) → list_all p xs ≡ true → list_all p ys ≡ true → list_all p (xs ++ ys) ≡ true
all_append p [] ys h k = k
all_append p (x ∷ xs) ys h k =
    let a = and_parts (p x) (list_all p xs) h in
    rw a.0 (all_append p xs ys a.1 k)

pub any_same : {A : Type 0} (p q : A → Bool) (xs : List A) → ((x : A) → p x ≡ q x) → list_any p xs ≡ list_any q xs
any_same p q [] h = refl
any_same p q (x ∷ xs) h = rw (h x, any_same p q xs h)

pub in_map : {A B : Type 0} (f : A → B) (xs : List A) (x : A) → In x xs → In (f x) (map f xs)
in_map f [] x i = i
in_map f (y ∷ ys) x (inl e) = inl (ap f e)
in_map f (y ∷ ys) x (inr i) = inr (in_map f ys x i)

pub map_in : {A B : Type 0} (f : A → B) (xs : List A) (y : B) → In y (map f xs) → (x : A) × In x xs × (y ≡ f x)
map_in f [] y i = absurd i
map_in f (x ∷ xs) y (inl e) = (x, inl refl, e)
map_in f (x ∷ xs) y (inr i) = let r = map_in f xs y i in (r.0, inr r.1, r.2)

pub in_left : {A : Type 0} (xs ys : List A) (x : A) → In x xs → In x (xs ++ ys)
in_left [] ys x i = absurd i
in_left (z ∷ xs) ys x (inl e) = inl e
in_left (z ∷ xs) ys x (inr i) = inr (in_left xs ys x i)

pub in_right : {A : Type 0} (xs ys : List A) (x : A) → In x ys → In x (xs ++ ys)
in_right [] ys x i = i
in_right (z ∷ xs) ys x i = inr (in_right xs ys x i)

pub append_in : {A : Type 0} (xs ys : List A) (x : A) → In x (xs ++ ys) → In x xs ⊎ In x ys
append_in [] ys x i = inr i
append_in (z ∷ xs) ys x (inl e) = inl (inl e)
append_in (z ∷ xs) ys x (inr i) = elim (append_in xs ys x i) [ inl j ↦ inl (inr j) | inr j ↦ inr j ]

any_filter : {A : Type 0} (p q : A → Bool) (xs : List A) → list_any p (filter q xs) ≡ list_any (λ x. q x && p x) xs
any_filter p q [] = refl
any_filter p q (x ∷ xs) =
    elim (cases_Bool (q x)) [
      | inl e ↦ rw e (ap (λ b. p x || b) (any_filter p q xs))
      | inr e ↦ rw e (any_filter p q xs)
    ]

pub any_map : {A B : Type 0} (p : B → Bool) (f : A → B) (xs : List A) → list_any p (map f xs) ≡ list_any (λ x. p (f x)) xs
any_map p f [] = refl
any_map p f (x ∷ xs) = ap (λ b. p (f x) || b) (any_map p f xs)

-- a test over the visible rows of a table
pub any_visible : (t : Table) (T : Tables) (s : ℤ) (p : Row → Bool)
    → list_any p (rows_of t (visible T s)) ≡ list_any (λ r. int_le (arrival r) s && p r) (rows_of t T)
any_visible Docs T s p = any_map p OfDoc (filter (λ d. int_le d.arrival s) T.docs)
    ∙ any_filter (λ d. p (OfDoc d)) (λ d. int_le d.arrival s) T.docs ∙ sym (any_map (λ r. int_le (arrival r) s && p r) OfDoc T.docs)
any_visible Notes T s p = any_map p OfNote (filter (λ d. int_le d.arrival s) T.notes)
    ∙ any_filter (λ d. p (OfNote d)) (λ d. int_le d.arrival s) T.notes ∙ sym (any_map (λ r. int_le (arrival r) s && p r) OfNote T.notes)

-- a visible row that passes
pub visible_in : (t : Table) (T : Tables) (s : ℤ) (p : Row → Bool) → list_any p (rows_of t (visible T s)) ≡ true
    → (r : Row) × In r (rows_of t T) × (int_le (arrival r) s ≡ true) × (p r ≡ true)
visible_in t T s p h =
    let a = any_in (λ r. int_le (arrival r) s && p r) (rows_of t T) (sym (any_visible t T s p) ∙ h) in
    let b = and_parts (int_le (arrival a.0) s) (p a.0) a.2 in
    (a.0, a.1, b.0, b.1)

-- if none passes, each visible row fails
pub visible_none : (t : Table) (T : Tables) (s : ℤ) (p : Row → Bool) → list_any p (rows_of t (visible T s)) ≡ false → (r : Row)
    → In r (rows_of t T) → int_le (arrival r) s ≡ true → p r ≡ false
visible_none t T s p h r i e =
    let n = none_in (λ r. int_le (arrival r) s && p r) (rows_of t T) r (sym (any_visible t T s p) ∙ h) i in
    rw e at n
