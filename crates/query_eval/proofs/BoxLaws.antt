-- Fronts that boxes hold: what they say, and what it means to add some.
use Rattle.std.proofs.Common.{◌≡◌, ◌∙◌, ℕ, List, [], ◌∷◌, ◌++◌, refl, sym, ap, subst, inl, inr, arith}
use Rattle.std.specs.Prelude.{◌⊎◌, slice_set}
use Rattle.tap_base.specs.declared.numbers.QueryNum.{QueryNum}
use Rattle.tap_rows.specs.declared.rows.Doc.{Doc}
use Rattle.tap_rows.specs.declared.results.Hit.{Hit}
use Rattle.tap_rows.specs.declared.results.Entry.{Entry}
use Rattle.tap_rows.specs.Kept.{Each, In}
use Rattle.tap_rows.proofs.LaterLaws.{each-map, each-append}
use Rattle.probe_eval.specs.declared.list_kind.ListKind.{ListKind}
use Rattle.probe_eval.specs.SingleLists.{kind_of, docs_under}
use Rattle.query_eval.specs.declared.box_front.BoxFront.{BoxFront}
use Rattle.query_eval.specs.declared.box_fronts.BoxFronts.{BoxFronts}
use Rattle.query_eval.specs.declared.fronts.Front.{Front}
use Rattle.query_eval.specs.Fronts.{BeginsWith}
use Rattle.query_eval.specs.BoxFronts.{IsInBox, AreInBox, AddsFronts, AddsFront, IsBoxed, IsBoxFrontOf}
use Rattle.query_eval.specs.RunFronts.{ArePassed}
use Rattle.query_eval.proofs.FrontLaws.{each_one, each_in, each_put, passed_in_box}

-- what boxes hold, if they are the same
pub boxes_alike : (entries : List Entry) (docs : List Doc) (boxes same : BoxFronts) → same ≡ boxes
    → AreInBox boxes.query entries docs boxes.fronts.items → AreInBox same.query entries docs same.fronts.items
boxes_alike entries docs boxes same e a = subst (λ (z : BoxFronts). AreInBox z.query entries docs z.fronts.items) (sym e) a

-- queries of one number are one
pub query_is : (a b : QueryNum) → a.0 ≡ b.0 → a ≡ b
query_is a b e = ap numbered e
  where
    numbered : ℕ → QueryNum
    numbered n = record { 0 = n }

module _ (query : QueryNum) (entries : List Entry) (docs : List Doc) where
  -- what a front of a box says of its list
  pub box_known : (fronts : List BoxFront) (front : BoxFront) (kind : ListKind) (first : ℕ) → AreInBox query entries docs fronts
      → In front fronts → IsBoxFrontOf query kind first front → IsBoxed entries docs kind first front.len
  box_known fronts front kind first a i o =
      let h = each_one (λ (f : BoxFront). f.query ≡ query → IsInBox entries docs f) fronts front a i o.query_is in
      record {
        lists = λ key own begins.
            let k : kind_of key ≡ front.kind = own ∙ sym o.kind_is in
            let f : BeginsWith front.first.0 (docs_under key docs) =
            subst (λ z. BeginsWith z (docs_under key docs)) (sym o.first_is) begins in
            record { there = h.there key k f; boxed = h.boxed key k f };
      }

  -- nothing is known of no documents
  pub box_none : (kind : ListKind) (first : ℕ) → IsBoxed entries docs kind first 0
  box_none kind first = record { lists = λ key own begins. record { there = omega arith; boxed = tt } }

  -- no front is added
  pub adds_none : (fronts : List BoxFront) → AddsFronts query entries docs fronts fronts
  adds_none fronts =
      each-map (λ front. In front fronts) (λ front. In front fronts ⊎ ((front.query ≡ query) × IsInBox entries docs front)) fronts
      (λ front i. inl i) (each_in fronts)

  -- fronts are added to those that were added before
  pub adds_more : (old mid new : List BoxFront) → AddsFronts query entries docs old mid → AddsFronts query entries docs mid new
      → AddsFronts query entries docs old new
  adds_more old mid new a b =
      each-map (λ front. In front mid ⊎ ((front.query ≡ query) × IsInBox entries docs front))
      (λ front. In front old ⊎ ((front.query ≡ query) × IsInBox entries docs front)) new step b
    where
      step : (front : BoxFront) → In front mid ⊎ ((front.query ≡ query) × IsInBox entries docs front)
          → In front old ⊎ ((front.query ≡ query) × IsInBox entries docs front)
      step front (inl i) = each_one (λ front. In front old ⊎ ((front.query ≡ query) × IsInBox entries docs front)) mid front a i
      step front (inr h) = inr h

  -- a front of the box is added
  pub adds_one : (added : BoxFront) (old new : List BoxFront) → AddsFront added old new → added.query ≡ query → IsInBox entries docs added
      → AddsFronts query entries docs old new
  adds_one added old new a q h =
      each-map (λ front. In front old ⊎ (front ≡ added)) (λ front. In front old ⊎ ((front.query ≡ query) × IsInBox entries docs front)) new
      step a
    where
      step : (front : BoxFront) → In front old ⊎ (front ≡ added) → In front old ⊎ ((front.query ≡ query) × IsInBox entries docs front)
      step front (inl i) = inl i
      step front (inr e) = inr (subst (λ (z : BoxFront). (z.query ≡ query) × IsInBox entries docs z) (sym e) (q, h))

  -- the fronts with those that were added are in the box
  pub added_in_box : (old new : List BoxFront) → AddsFronts query entries docs old new → AreInBox query entries docs old
      → AreInBox query entries docs new
  added_in_box old new a h =
      each-map (λ front. In front old ⊎ ((front.query ≡ query) × IsInBox entries docs front))
      (λ front. front.query ≡ query → IsInBox entries docs front) new step a
    where
      step : (front : BoxFront) → In front old ⊎ ((front.query ≡ query) × IsInBox entries docs front) → front.query ≡ query
          → IsInBox entries docs front
      step front (inl i) = each_one (λ front. front.query ≡ query → IsInBox entries docs front) old front h i
      step front (inr k) = λ e. k.1

-- what boxes hold that are as those to which fronts were added
pub added_alike : (entries : List Entry) (docs : List Doc) (old mid new : BoxFronts) → new ≡ mid → mid.query ≡ old.query
    → AddsFronts old.query entries docs old.fronts.items mid.fronts.items → AreInBox old.query entries docs old.fronts.items
    → AreInBox new.query entries docs new.fronts.items
added_alike entries docs old mid new e q a h =
    boxes_alike entries docs mid new e
    (subst (λ z. AreInBox z entries docs mid.fronts.items) (sym q)
    (added_in_box old.query entries docs old.fronts.items mid.fronts.items a h))

-- the fronts of a search are added to those that were added before it
pub stored_more : (entries : List Entry) (docs : List Doc) (old mid same : BoxFronts) (new : List BoxFront) → same ≡ mid
    → mid.query ≡ old.query → AddsFronts old.query entries docs old.fronts.items mid.fronts.items
    → AddsFronts same.query entries docs same.fronts.items new → AddsFronts old.query entries docs old.fronts.items new
stored_more entries docs old mid same new e q a b =
    adds_more old.query entries docs old.fronts.items mid.fronts.items new a
    (subst (λ z. AddsFronts z entries docs mid.fronts.items new) q
    (subst (λ (z : BoxFronts). AddsFronts z.query entries docs z.fronts.items new) e b))

-- boxes of this query, with these fronts
module _ (query : QueryNum) (entries : List Entry) (docs : List Doc) (boxes : BoxFronts) (old : List BoxFront) (q : boxes.query ≡ query)
    (f : boxes.fronts.items ≡ old) where
  pub in_box_from : AreInBox query entries docs old → AreInBox boxes.query entries docs boxes.fronts.items
  in_box_from a = subst (λ z. AreInBox z entries docs boxes.fronts.items) (sym q) (subst (AreInBox query entries docs) (sym f) a)

  pub adds_from : (new : List BoxFront) → AddsFronts boxes.query entries docs boxes.fronts.items new → AddsFronts query entries docs old new
  adds_from new a = subst (λ z. AddsFronts query entries docs z new) f (subst (λ z. AddsFronts z entries docs boxes.fronts.items new) q a)

-- what a front of a search says of the box is stored, beside what was stored before
pub box_stored : (entries : List Entry) (docs : List Doc) (n : ℕ) (kept : List Hit) (fronts : List Front) (front : Front)
    (query : QueryNum) (old mid new : List BoxFront) → ArePassed entries docs n kept fronts → In front fronts
    → AddsFronts query entries docs old mid
    → AddsFront (record { query = query; kind = front.kind; first = front.first; len = front.boxed }) mid new
    → AddsFronts query entries docs old new
box_stored entries docs n kept fronts front query old mid new p i a b =
    let boxed = passed_in_box entries docs n kept query fronts front p i in
    adds_more query entries docs old mid new a (adds_one query entries docs _ mid new b refl boxed)

-- one front stored in place of another, or behind all
module _ (added : BoxFront) (old : List BoxFront) where
  abbrev IsOld : BoxFront → Type 0
  IsOld front = In front old ⊎ (front ≡ added)

  all_old : Each IsOld old
  all_old = each-map (λ front. In front old) IsOld old (λ front i. inl i) (each_in old)

  pub added_none : (new : List BoxFront) → new ≡ old → AddsFront added old new
  added_none new e = subst (Each IsOld) (sym e) all_old

  pub added_at : (new : List BoxFront) (k : ℕ) → new ≡ slice_set old k added → AddsFront added old new
  added_at new k e = subst (Each IsOld) (sym e) (each_put IsOld old k added all_old (inr refl))

  pub added_behind : (new : List BoxFront) → new ≡ old ++ added ∷ [] → AddsFront added old new
  added_behind new e = subst (Each IsOld) (sym e) (each-append IsOld old (added ∷ []) all_old (inr refl, tt))
