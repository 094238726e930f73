-- Rows that come later, and the union as the least growing family.
use Rattle.std.proofs.Common.{◌≡◌, ℕ, ℤ, pos, Bool, true, Option, Some, None, List, [], ◌∷◌, refl, sym, ap, ◌∙◌, subst, inl, inr}
use Rattle.std.proofs.Common.{arith}
use Rattle.std.specs.Prelude.{◌⊎◌, ◌+ℤ◌, ◌≤ℤ◌, ◌<ℤ◌, nat_eq}
use Rattle.std.specs.List.{filter, filter_map, cons_option}
use Rattle.std.proofs.lemmas.Bool.{cases_Bool, both_ways, eqb-true, eq-eqb}
use Rattle.std.proofs.lemmas.Int.{ints}
use Rattle.tap_rows.specs.declared.rows.Doc.{Doc}
use Rattle.tql_core.specs.Condition.{Condition}
use Rattle.tap_rows.specs.declared.tables.Tables.{Tables}
use Rattle.tap_rows.specs.Results.{is_before, put_in, hit_of, hits_in_order, at_least}
use Rattle.tql_core.specs.Holds.{truth_of}
use Rattle.time_marks.proofs.Asked.{given, gives, first, count_between, union}
use Rattle.tap_rows.specs.Seconds.{first_from}
use Rattle.tap_rows.specs.Kept.{In}
use Rattle.tap_rows.specs.declared.results.Hit.{Hit}
use Rattle.monotone_rewrite.specs.Laws.{LaterRowsKeepFirst, union_docs, in_union, IsLeastGrowing, UnionIsLeast}
use Rattle.tap_rows.proofs.LaterLaws.{first-later}
use Rattle.tql_core.proofs.OfTheSecond.{of-the-second}
use Rattle.time_marks.proofs.Lists.{any_in, in_any, in_map, map_in}
use Rattle.tap_rows.proofs.SecondsLaws.{first_from-none, first_from-within, gap-end, gap-is, first_from-passes}
use Rattle.monotone_rewrite.proofs.Union.{keep_all}

pub later_keeps_first : LaterRowsKeepFirst
later_keeps_first c t tables later doc start until grown le =
    first-later (truth_of c) t tables later doc start until (of-the-second c) grown le

-- the first of the numbers tried is found if one of them passes
first_there : (p : ℤ → Bool) (n : ℕ) (a x : ℤ) → a ≤ℤ x → x <ℤ (a +ℤ pos n) → p x ≡ true → (f : ℤ) × (first_from p n a ≡ Some f)
first_there p n a x lo hi y = go (first_from p n a) refl
  where
    go : (o : Option ℤ) → first_from p n a ≡ o → (f : ℤ) × (first_from p n a ≡ Some f)
    go None e = absurd (both_ways (p x) (first_from-none p n a x e lo hi) y)
    go (Some f) e = (f, e)

in_put : (a : Hit) (bs : List Hit) (h : Hit) → In h (a ∷ bs) → In h (put_in a bs)
in_put a [] h i = i
in_put a (b ∷ bs) h i =
    elim (cases_Bool (is_before a b)) [
      | inl y ↦ rw y i
      | inr n ↦
          rw n (elim i [ inl e ↦ inr (in_put a bs h (inl e)) | inr j ↦ elim j [ inl e ↦ inl e | inr k ↦ inr (in_put a bs h (inr k)) ] ])
    ]

put_out : (a : Hit) (bs : List Hit) (h : Hit) → In h (put_in a bs) → In h (a ∷ bs)
put_out a [] h i = i
put_out a (b ∷ bs) h i =
    elim (cases_Bool (is_before a b)) [
      | inl y ↦ rw y at i
      | inr n ↦ let j : (h ≡ b) ⊎ In h (put_in a bs) = rw n at i in
          elim j [ inl e ↦ inr (inl e) | inr k ↦ elim (put_out a bs h k) [ inl e ↦ inl e | inr l ↦ inr (inr l) ] ]
    ]

in_ordered : (hs : List Hit) (h : Hit) → In h hs → In h (hits_in_order hs)
in_ordered [] h i = i
in_ordered (a ∷ hs) h (inl e) = in_put a (hits_in_order hs) h (inl e)
in_ordered (a ∷ hs) h (inr i) = in_put a (hits_in_order hs) h (inr (in_ordered hs h i))

ordered_in : (hs : List Hit) (h : Hit) → In h (hits_in_order hs) → In h hs
ordered_in [] h i = i
ordered_in (a ∷ hs) h i = elim (put_out a (hits_in_order hs) h i) [ inl e ↦ inl e | inr j ↦ inr (ordered_in hs h j) ]

cons_in : (o : Option Hit) (hs : List Hit) (h : Hit) → In h hs → In h (cons_option o hs)
cons_in None hs h i = i
cons_in (Some x) hs h i = inr i

cons_out : (o : Option Hit) (hs : List Hit) (h : Hit) → In h (cons_option o hs) → (o ≡ Some h) ⊎ In h hs
cons_out None hs h i = inr i
cons_out (Some x) hs h (inl e) = inl (ap Some (sym e))
cons_out (Some x) hs h (inr i) = inr i

-- a document with a second is among the hits
in_hits : (second : Doc → Option ℤ) (docs : List Doc) (d : Doc) (s : ℤ) → In d docs → second d ≡ Some s
    → In (record { doc = d.num; first = s }) (filter_map (λ d. hit_of d (second d)) docs)
in_hits second [] d s i h = absurd i
in_hits second (x ∷ docs) d s (inl e) h =
    let h' : second x ≡ Some s = ap second (sym e) ∙ h in
    rw h' (inl (ap (λ (z : Doc). record { doc = z.num; first = s }) e))
in_hits second (x ∷ docs) d s (inr i) h =
    cons_in (hit_of x (second x)) (filter_map (λ d. hit_of d (second d)) docs) _ (in_hits second docs d s i h)

hit_is : (x : Doc) (o : Option ℤ) (h : Hit) → hit_of x o ≡ Some h → (o ≡ Some h.first) × (h.doc ≡ x.num)
hit_is x None h e = absurd cc
hit_is x (Some s) h e =
    let k : record { doc = x.num; first = s } ≡ h = some_same e in
    (ap (λ z. Some z.first) k, sym (ap (λ z. z.doc) k))
  where
    some_same : {a b : Hit} → Some a ≡ Some b → a ≡ b
    some_same e = cc

hits_in : (second : Doc → Option ℤ) (docs : List Doc) (h : Hit) → In h (filter_map (λ d. hit_of d (second d)) docs)
    → (d : Doc) × In d docs × (second d ≡ Some h.first) × (h.doc ≡ d.num)
hits_in second [] h i = absurd i
hits_in second (x ∷ docs) h i =
    elim (cons_out (hit_of x (second x)) (filter_map (λ d. hit_of d (second d)) docs) h i) [
      | inl e ↦ let k = hit_is x (second x) h e in (x, inl refl, k.0, k.1)
      | inr j ↦ let r = hits_in second docs h j in (r.0, inr r.1, r.2, r.3)
    ]

pub in_filter : {A : Type 0} (p : A → Bool) (xs : List A) (x : A) → In x xs → p x ≡ true → In x (filter p xs)
in_filter p [] x i h = i
in_filter p (y ∷ ys) x (inl e) h = let h' : p y ≡ true = ap p (sym e) ∙ h in rw h' (inl e)
in_filter p (y ∷ ys) x (inr i) h =
    elim (cases_Bool (p y)) [ inl z ↦ rw z (inr (in_filter p ys x i h)) | inr n ↦ rw n (in_filter p ys x i h) ]

pub filter_in : {A : Type 0} (p : A → Bool) (xs : List A) (x : A) → In x (filter p xs) → In x xs × (p x ≡ true)
filter_in p [] x i = absurd i
filter_in p (y ∷ ys) x i =
    elim (cases_Bool (p y)) [
      | inl z ↦ let j : (x ≡ y) ⊎ In x (filter p ys) = rw z at i in
          elim j [ inl e ↦ (inl e, ap p e ∙ z) | inr k ↦ let r = filter_in p ys x k in (inr r.0, r.1) ]
      | inr n ↦ let j : In x (filter p ys) = rw n at i in let r = filter_in p ys x j in (inr r.0, r.1)
    ]

module _ (c : Condition) (T : Tables) (a : ℤ) where
  zero_on : (t : ℤ) (d : Doc) → at_least a (first c T d a t) ≡ first c T d a t
  zero_on t d = keep_all a (first c T d a t) (λ f y. (first_from-within (given c T d) (count_between a t) a f y).0)

  -- a document that was given at a second below t is in the union
  given_in : (s t : ℤ) (d : Doc) → a ≤ℤ s → s <ℤ t → In d T.docs → given c T d s ≡ true → in_union c T a t d.num.0 ≡ true
  given_in s t d lo hi i y =
      let z = gap-is a t (omega (arith, ints)) in
      let f = first_there (given c T d) (count_between a t) a s lo (omega (arith, ints, z)) y in
      let hit = in_ordered _ _ (in_hits (λ d. at_least a (first c T d a t)) T.docs d f.0 i (zero_on t d ∙ f.1)) in
      in_any (λ k. nat_eq k d.num.0) (union_docs c T a t) d.num.0 (in_map (λ (h : Hit). h.doc.0) (union c T a t) _ hit)
      (eq-eqb d.num.0 d.num.0 refl)

  -- and the other way round
  in_given : (t : ℤ) (n : ℕ) → in_union c T a t n ≡ true
      → (d : Doc) × (s : ℤ) × In d T.docs × (n ≡ d.num.0) × (a ≤ℤ s) × (s <ℤ t) × (given c T d s ≡ true)
  in_given t n y =
      let k = any_in (λ k. nat_eq k n) (union_docs c T a t) y in
      let l = map_in (λ (h : Hit). h.doc.0) (union c T a t) k.0 k.1 in
      let r = hits_in (λ d. at_least a (first c T d a t)) T.docs l.0 (ordered_in _ l.0 l.1) in
      let e : first c T r.0 a t ≡ Some l.0.first = sym (zero_on t r.0) ∙ r.2 in
      let b = first_from-within (given c T r.0) (count_between a t) a l.0.first e in (
        r.0,
        l.0.first,
        r.1,
        sym (eqb-true k.0 n k.2) ∙ l.2
            ∙ ap (λ z. z.0) r.3,
        b.0,
        gap-end a t l.0.first b.0 b.1,
        first_from-passes (given c T r.0) (count_between a t) a l.0.first e,
      )

  gives_in : (d : Doc) (s : ℤ) → In d (gives c T s) → In d T.docs × (given c T d s ≡ true)
  gives_in d s i = filter_in (λ d. given c T d s) T.docs d i

  in_gives : (d : Doc) (s : ℤ) → In d T.docs → given c T d s ≡ true → In d (gives c T s)
  in_gives d s i y = in_filter (λ d. given c T d s) T.docs d i y

  pub union_is_least_at : IsLeastGrowing c T a
  union_is_least_at = record {
    growing = record {
      includes = λ s t lo hi d i. let g = gives_in d s i in given_in s t d lo hi g.0 g.1;
      grows = λ t u n h y. let g = in_given t n y in
          subst (λ k. in_union c T a u k ≡ true) (sym g.3) (given_in g.1 u g.0 g.4 (omega (arith, ints, g.5)) g.2 g.6);
    };
    least = λ family grow t n y. let g = in_given t n y in
        subst (λ k. family t k ≡ true) (sym g.3) (grow.includes g.1 t g.4 g.5 g.0 (in_gives g.0 g.1 g.2 g.6));
  }

pub union_is_least : UnionIsLeast
union_is_least c T a = union_is_least_at c T a
