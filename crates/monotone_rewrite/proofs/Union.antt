-- The meaning of probes is the union over past seconds: of a window query's before folding, and of any that find as these do.
use Rattle.std.proofs.Common.{◌≡◌, ℕ, ℤ, pos, negsuc, Bool, true, false, not, Option, Some, None, List, [], ◌∷◌, refl, sym, ap, ◌∙◌}
use Rattle.std.proofs.Common.{subst, inl, inr, arith}
use Rattle.std.specs.Prelude.{◌+ℤ◌, ◌-ℤ◌, ◌≤ℤ◌, ◌<ℤ◌, int_le, is_some}
use Rattle.std.specs.List.{filter, filter_map}
use Rattle.std.proofs.lemmas.Bool.{cases_Bool}
use Rattle.std.proofs.lemmas.Int.{ints, by_lt_z}
use Rattle.tap_rows.specs.declared.rows.Doc.{Doc}
use Rattle.tql_core.specs.Condition.{Condition}
use Rattle.tap_rows.specs.declared.tables.Tables.{Tables}
use Rattle.time_marks.proofs.Asked.{given, first, count_between}
use Rattle.tap_rows.specs.Seconds.{first_from}
use Rattle.tap_rows.proofs.SecondsLaws.{first_from-none, first_from-within, first_from-more, gap-is, gap-more}
use Rattle.std.specs.Option.{option_or}
use Rattle.tql_core.specs.Scope.{IsQuery}
use Rattle.tap_rows.specs.Kept.{In}
use Rattle.time_marks.specs.Probes.{Probe, found, least}
use Rattle.monotone_rewrite.specs.Query.{unfolded}
use Rattle.tap_rows.specs.Results.{hit_of, hits_in_order, at_least}
use Rattle.monotone_rewrite.specs.Laws.{IsUnionOf}
use Rattle.time_marks.proofs.Seconds.{first_same}
use Rattle.monotone_rewrite.proofs.Finding.{begins, starts, found_given}

pub hits_same : (f g : Doc → Option ℤ) (docs : List Doc) → ((d : Doc) → In d docs → f d ≡ g d)
    → filter_map (λ d. hit_of d (f d)) docs ≡ filter_map (λ d. hit_of d (g d)) docs
hits_same f g [] h = refl
hits_same f g (d ∷ ds) h = rw (h d (inl refl), hits_same f g ds (λ e i. h e (inr i)))

abbrev none_if : Bool → Option ℤ → Option ℤ
none_if true o = None
none_if false o = o

hits_without : (seen : Doc → Bool) (f : Doc → Option ℤ) (docs : List Doc)
    → filter_map (λ d. hit_of d (f d)) (filter (λ d. not (seen d)) docs) ≡ filter_map (λ d. hit_of d (none_if (seen d) (f d))) docs
hits_without seen f [] = refl
hits_without seen f (d ∷ ds) =
    elim (cases_Bool (seen d)) [
      | inl y ↦ rw (y, hits_without seen f ds)
      | inr z ↦ rw (z, hits_without seen f ds)
    ]

pub keep_all : (tau : ℤ) (o : Option ℤ) → ((f : ℤ) → o ≡ Some f → tau ≤ℤ f) → at_least tau o ≡ o
keep_all tau None h = refl
keep_all tau (Some f) h =
    let k = h f refl in
    let e : int_le tau f ≡ true = grind (arith, ints) in
    rw e

-- the probes find a document only when it is given, and find it when it begins to be given, and when it is given at a start above 0
pub record Follows (c : Condition) (a : ℤ) (X : List Probe) (T : Tables) (d : Doc) : Type 0 where
  pub sound : (b : ℤ) → found X T d b ≡ true → given c T d b ≡ true
  pub begins : (u s : ℤ) → s ≡ u +ℤ pos 1 → given c T d u ≡ false → given c T d s ≡ true → found X T d s ≡ true
  pub starts : pos 0 <ℤ a → given c T d a ≡ true → found X T d a ≡ true

module _ (c : Condition) (a : ℤ) (start : pos 0 ≤ℤ a) (X : List Probe) (T : Tables) (d : Doc) (from : pos 0 ≤ℤ d.arrival)
    (follows : Follows c a X T d) where
  not_yet : given c T d (negsuc 0) ≡ false
  not_yet =
      let late : int_le d.arrival (negsuc 0) ≡ false = grind (arith, ints) in
      rw late

  -- what is given at the start is found there
  at_start : given c T d a ≡ true → found X T d a ≡ true
  at_start y =
      by_lt_z (pos 0) a
      (λ w. follows.starts w y)
      (λ w. let z : a ≡ negsuc 0 +ℤ pos 1 = omega (arith, ints) in follows.begins (negsuc 0) a z not_yet y)

  -- the first second is the least mark
  least_first : (n : ℕ) (x : ℤ) → (given c T d x ≡ true → found X T d x ≡ true)
      → first_from (given c T d) n x ≡ first_from (found X T d) n x
  least_first n x st = first_same (given c T d) (found X T d) n x st follows.sound follows.begins

  pub first_whole : (t : ℤ) → least X T d (record { low = a; high = t }) ≡ first c T d a t
  first_whole t = sym (least_first (count_between a t) a at_start)

  -- what is given at tau, and at no second before, is found there
  at_tau : (tau : ℤ) → a ≤ℤ tau → first c T d a tau ≡ None → given c T d tau ≡ true → found X T d tau ≡ true
  at_tau tau h n y =
      by_lt_z a tau
      (λ w.
      let b = tau -ℤ pos 1 in
      let next : tau ≡ b +ℤ pos 1 = omega (arith, ints) in
      let z = gap-is a tau h in
      follows.begins b tau next (first_from-none (given c T d) (count_between a tau) a b n (omega (arith, ints)) (omega (arith, ints, z)))
      y)
      (λ w. let z : a ≡ tau = omega (arith, ints) in
      subst (λ x. given c T d x ≡ true → found X T d x ≡ true) z at_start y)

  first_since : (tau t : ℤ) → a ≤ℤ tau → tau ≤ℤ t
      → none_if (is_some (first c T d a tau)) (least X T d (record { low = tau; high = t })) ≡ at_least tau (first c T d a t)
  first_since tau t h k = go (first c T d a tau) refl
    where
      parts : first c T d a t ≡ option_or (first c T d a tau) (first c T d tau t)
      parts = ap (λ n. first_from (given c T d) n a) (gap-more a tau t h k)
          ∙ first_from-more (given c T d) (count_between a tau) (count_between tau t) a tau (gap-is a tau h)

      go : (o : Option ℤ) → first c T d a tau ≡ o → none_if (is_some (first c T d a tau))
          (least X T d (record { low = tau; high = t })) ≡ at_least tau (first c T d a t)
      go None e =
          rw (parts, e) (sym (least_first (count_between tau t) tau (at_tau tau h e))
          ∙ sym (keep_all tau (first c T d tau t) (λ f y. (first_from-within (given c T d) (count_between tau t) tau f y).0)))
      go (Some f) e =
          let hi = (first_from-within (given c T d) (count_between a tau) a f e).1 in
          let z = gap-is a tau h in
          let late : int_le tau f ≡ false = grind (arith, ints) in
          rw (parts, e) (rw late)

-- such probes give the union
pub is_union : (c : Condition) (a : ℤ) → pos 0 ≤ℤ a → (X : List Probe) → ((T : Tables) (d : Doc) → Follows c a X T d) → IsUnionOf c a X
is_union c a st X follows = record {
  whole = λ T t from.
      ap hits_in_order (hits_same (λ d. least X T d (record { low = a; high = t })) (λ d. at_least a (first c T d a t)) T.docs
      (λ d i. first_whole c a st X T d (from d i) (follows T d) t
      ∙ sym (keep_all a (first c T d a t) (λ f y. (first_from-within (given c T d) (count_between a t) a f y).0))));
  since = λ T tau t from h k. ap hits_in_order
      (hits_without (λ d. is_some (first c T d a tau)) (λ d. least X T d (record { low = tau; high = t })) T.docs
      ∙ hits_same (λ d. none_if (is_some (first c T d a tau)) (least X T d (record { low = tau; high = t })))
      (λ d. at_least tau (first c T d a t)) T.docs
      (λ d i. first_since c a st X T d (from d i) (follows T d) tau t h k));
}

pub unfolded_is_union : (c : Condition) (a : ℤ) → IsQuery c → pos 0 ≤ℤ a → IsUnionOf c a (unfolded c a)
unfolded_is_union c a q st = is_union c a st (unfolded c a) (λ T d. record {
  sound = found_given c a q T d;
  begins = begins c a q T d;
  starts = starts c a q T d;
})
