-- Fronts of posting lists, and what a walk behind them leaves out.
use Rattle.std.proofs.Common.{◌≡◌, ◌∙◌, ◌+◌, ◌≤◌, ◌<◌, ℕ, ℤ, zero, suc, Bool, true, Option, Some, None, List, [], ◌∷◌, ◌++◌, map, take}
use Rattle.std.proofs.Common.{drop, refl, sym, ap, subst, inl, inr, arith}
use Rattle.std.specs.Prelude.{◌≤ℤ◌, ◌⊎◌, IfSome, filter, length, slice_get, slice_set, slice_index_or, option_to_list}
use Rattle.std.specs.List.{flat_map}
use Rattle.std.proofs.lemmas.Int.{ints}
use Rattle.std.proofs.lemmas.Bool.{cases_Bool, false≢true}
use Rattle.tap_base.specs.declared.numbers.DocNum.{DocNum}
use Rattle.tap_base.specs.declared.numbers.QueryNum.{QueryNum}
use Rattle.tap_rows.specs.declared.rows.Doc.{Doc}
use Rattle.tap_rows.specs.declared.results.Hit.{Hit}
use Rattle.tap_rows.specs.declared.results.Entry.{Entry}
use Rattle.tap_rows.specs.Kept.{Each, In}
use Rattle.tap_rows.proofs.LaterLaws.{each-map}
use Rattle.tql_core.specs.declared.term.Var.{Var}
use Rattle.tql_core.specs.Row.{Row, OfDoc}
use Rattle.tql_core.specs.Values.{Env, bind, lookup}
use Rattle.tql_core.proofs.Bound.{bind_same}
use Rattle.access_plan.specs.declared.reach.Reach.{Reach}
use Rattle.row_index.specs.declared.text_kind.TextKind.{TextKind}
use Rattle.row_index.specs.declared.text_kind.TextKind.TheVariants.{MsgId, Parent, Sender, Subject, Reference, To, Cc, Newsgroups, Word}
use Rattle.row_index.specs.contracts.text_kind.TextKindPartialEq.TheImpl as text_kind
use Rattle.little_box.specs.Boxes.{is_in}
use Rattle.row_index.specs.Orders.{IsRisingBy, InPlace, Numbered, doc_number, doc_arrival, doc_rank, doc_num}
use Rattle.probe_eval.specs.declared.list_kind.ListKind.{ListKind}
use Rattle.probe_eval.specs.declared.list_kind.ListKind.TheVariants as L
use Rattle.probe_eval.specs.contracts.list_kind.ListKindPartialEq.TheImpl as kind
use Rattle.probe_eval.specs.declared.search.Search.{Search}
use Rattle.probe_eval.specs.Searches.{searched}
use Rattle.probe_eval.specs.SingleLists.{ListKey, kind_of, is_single_kind, is_under_key, docs_under, IsSorted}
use Rattle.probe_eval.specs.Nested.{new_doc, hit_if, holds_here, hits_over}
use Rattle.probe_eval.specs.Work.{total}
use Rattle.probe_eval.proofs.HitSteps.{doc_hits}
use Rattle.probe_eval.proofs.SingleListLaws.{lists_are_apart}
use Rattle.query_eval.specs.declared.least_hits.LeastHits.{LeastHits}
use Rattle.query_eval.specs.declared.fronts.Front.{Front}
use Rattle.query_eval.specs.declared.fronts.Fronts.{Fronts}
use Rattle.query_eval.specs.Lowest.{keeping}
use Rattle.query_eval.specs.Fronts.{IsDone, BeginsWith, IsPassed, AreDoneDocs, AreDocsBehind, AreBehind}
use Rattle.query_eval.specs.BoxFronts.{IsInBox, IsBoxedFront, IsBoxed}
use Rattle.query_eval.specs.RunFronts.{IsFrontOf, IsKnownFront, IsFrontPassed, ArePassed, AreDone}
use Rattle.query_eval.proofs.StableHits.{done_stays, done_later, done_by_box}
use Rattle.query_eval.proofs.Steps.{keeping_append}

-- kinds of texts that compare as equal are equal
text_kind_is : (a b : TextKind) → text_kind.ghosts.eq a b ≡ true → a ≡ b
text_kind_is MsgId MsgId h = refl
text_kind_is Parent Parent h = refl
text_kind_is Sender Sender h = refl
text_kind_is Subject Subject h = refl
text_kind_is Reference Reference h = refl
text_kind_is To To h = refl
text_kind_is Cc Cc h = refl
text_kind_is Newsgroups Newsgroups h = refl
text_kind_is Word Word h = refl
text_kind_is _ _ h = absurd (false≢true h)

-- kinds of lists that compare as equal are equal
pub kind_is : (a b : ListKind) → kind.ghosts.eq a b ≡ true → a ≡ b
kind_is (L.Text a) (L.Text b) h = ap L.Text (text_kind_is a b h)
kind_is L.Size L.Size h = refl
kind_is _ _ h = absurd (false≢true h)

module _ {A : Type 0} where
  some_is : {x y : A} → Some x ≡ Some y → x ≡ y
  some_is e = cc

  -- what stands at a place is one of the items
  pub got_in : (xs : List A) (k : ℕ) (r : Option A) → r ≡ slice_get xs k → IfSome r (λ x. In x xs)
  got_in xs k None e = tt
  got_in [] k (Some x) e = absurd cc
  got_in (y ∷ ys) zero (Some x) e = inl (some_is e)
  got_in (y ∷ ys) (suc k) (Some x) e = inr (got_in ys k (Some x) e)

  -- an item at a place that there is is one of the items
  pub item_in : (xs : List A) (k : ℕ) (d : A) → k < length xs → In (slice_index_or xs k d) xs
  item_in [] k d l = absurd (omega (arith, l))
  item_in (y ∷ ys) zero d l = inl refl
  item_in (y ∷ ys) (suc k) d l = inr (item_in ys k d (less l))
    where
      less : suc k < suc (length ys) → k < length ys
      less h = omega (arith, h)

  pub each_one : (P : A → Type 0) (xs : List A) (x : A) → Each P xs → In x xs → P x
  each_one P [] x h i = absurd i
  each_one P (y ∷ ys) x h (inl e) = subst P (sym e) h.0
  each_one P (y ∷ ys) x h (inr i) = each_one P ys x h.1 i

  -- each of the items is one of them
  pub each_in : (xs : List A) → Each (λ x. In x xs) xs
  each_in [] = tt
  each_in (y ∷ ys) = (inl refl, each-map (λ x. In x ys) (λ x. In x (y ∷ ys)) ys (λ x i. inr i) (each_in ys))

  pub each_put : (P : A → Type 0) (xs : List A) (k : ℕ) (x : A) → Each P xs → P x → Each P (slice_set xs k x)
  each_put P [] k x h p = h
  each_put P (y ∷ ys) zero x h p = (p, h.1)
  each_put P (y ∷ ys) (suc k) x h p = (h.0, each_put P ys k x h.1 p)

  each_suc : (P : A → Type 0) (xs : List A) (n : ℕ) → Each P (take n xs) → ((x : A) → slice_get xs n ≡ Some x → P x)
      → Each P (take (suc n) xs)
  each_suc P [] n h f = tt
  each_suc P (x ∷ xs) zero h f = (f x refl, tt)
  each_suc P (x ∷ xs) (suc n) h f = (h.0, each_suc P xs n h.1 f)

  -- one more at the end of a front
  pub each_longer : (P : A → Type 0) (xs : List A) (n : ℕ) → Each P (take n xs) → ((x : A) → slice_get xs n ≡ Some x → P x)
      → Each P (take (n + 1) xs)
  each_longer P xs n h f = subst (λ k. Each P (take k xs)) (one_more n) (each_suc P xs n h f)
    where
      one_more : (k : ℕ) → suc k ≡ k + 1
      one_more k = omega arith

  pub front_and_rest : (n : ℕ) (xs : List A) → xs ≡ take n xs ++ drop n xs
  front_and_rest zero xs = refl
  front_and_rest (suc n) [] = refl
  front_and_rest (suc n) (x ∷ xs) = ap (λ ys. x ∷ ys) (front_and_rest n xs)

  -- what never falls doesn't fall behind a front
  rising_behind : (f : A → ℤ) (n : ℕ) (xs : List A) → IsRisingBy f xs → IsRisingBy f (drop n xs)
  rising_behind f zero xs h = h
  rising_behind f (suc n) [] h = h
  rising_behind f (suc n) (x ∷ xs) h = rising_behind f n xs h.1

-- documents in order are so behind a front
pub sorted_behind : (n : ℕ) (docs : List Doc) → IsSorted docs → IsSorted (drop n docs)
sorted_behind n docs s =
    record { arrivals = rising_behind doc_arrival n docs s.arrivals; numbers = rising_behind doc_rank n docs s.numbers }

-- as many documents as are in the box are done at each mark
pub boxed_done : (entries : List Entry) (n : ℕ) (kept : List Hit) (b : ℤ) (len : ℕ) (list : List Doc) → IsBoxedFront entries len list
    → Each (IsDone entries n kept b) (take len list)
boxed_done entries n kept b len list h =
    each-map (λ (d : Doc). is_in d.num.0 entries ≡ true) (IsDone entries n kept b) (take len list)
    (λ d i. done_by_box entries n kept b d d.num refl i)
    h.boxed

-- one more at the end of a front that is in the box
pub boxed_more : (entries : List Entry) (list : List Doc) (len : ℕ) → IsBoxedFront entries len list → len < length list
    → ((d : Doc) → slice_get list len ≡ Some d → is_in d.num.0 entries ≡ true) → IsBoxedFront entries (len + 1) list
boxed_more entries list len h l f = record {
  there = omega (arith, l);
  boxed = each_longer (λ (d : Doc). is_in d.num.0 entries ≡ true) list len h.boxed f;
}

module _ (entries : List Entry) (docs : List Doc) (n : ℕ) (kept : List Hit) where
  -- so a front that the box holds is passed over at each mark
  pub boxed_passed : (kind : ListKind) (first : ℕ) (b : ℤ) (len : ℕ) → IsBoxed entries docs kind first len
      → IsPassed entries docs n kept kind first b len
  boxed_passed kind first b len h = record {
    done = λ key own begins. boxed_done entries n kept b len (docs_under key docs) (h.lists key own begins);
  }

  -- and any front at a later mark
  pub passed_later : (kind : ListKind) (first : ℕ) (b c : ℤ) (len : ℕ) → b ≤ℤ c → IsPassed entries docs n kept kind first b len
      → IsPassed entries docs n kept kind first c len
  passed_later kind first b c len l p = record {
    done = λ key own begins.
        each-map (IsDone entries n kept b) (IsDone entries n kept c) (take len (docs_under key docs))
        (λ d k. done_later entries n kept b c d l k)
        (p.done key own begins);
  }

  -- a known front is passed over
  pub known_passed : (fronts : List Front) (kind : ListKind) (first : ℕ) (front : Front) → ArePassed entries docs n kept fronts
      → IsKnownFront kind first fronts front → IsFrontPassed entries docs n kept front
  known_passed fronts kind first front a k = each_one (IsFrontPassed entries docs n kept) fronts front a.each k.known

  -- what a front says of a list
  pub passed_of : (front : Front) (kind : ListKind) (first : ℕ) (b : ℤ) (len : ℕ) → IsFrontOf kind first front
      → IsPassed entries docs n kept front.kind front.first.0 b len → IsPassed entries docs n kept kind first b len
  passed_of front kind first b len o p =
      subst (λ f. IsPassed entries docs n kept kind f b len) o.first_is
      (subst (λ k. IsPassed entries docs n kept k front.first.0 b len) o.kind_is p)

  -- a front of this list, of which more is done
  pub front_more : (front : Front) (kind : ListKind) (first : DocNum) (b : ℤ) (len : ℕ) → IsFrontOf kind first.0 front
      → IsFrontPassed entries docs n kept front → IsPassed entries docs n kept kind first.0 b len
      → IsFrontPassed entries docs n kept (record { kind = kind; first = first; mark = b; len = len; boxed = front.boxed })
  front_more front kind first b len o p done = record {
    stored = subst (λ f. f ≤ length docs) o.first_is p.stored;
    done = done;
    boxed = subst (λ f. IsBoxed entries docs kind f front.boxed) o.first_is
        (subst (λ k. IsBoxed entries docs k front.first.0 front.boxed) o.kind_is p.boxed);
  }

  pub passed_empty : (fronts : List Front) → fronts ≡ [] → ArePassed entries docs n kept fronts
  passed_empty fronts e = record { each = subst (λ fs. Each (IsFrontPassed entries docs n kept) fs) (sym e) tt }

  -- a front stays passed as more hits are stored
  front_stays : (hs : List Hit) (front : Front) → IsFrontPassed entries docs n kept front
      → IsFrontPassed entries docs n (keeping n kept hs) front
  front_stays hs front p = record {
    stored = p.stored;
    done = record {
      done = λ key own begins.
          each-map (IsDone entries n kept front.mark) (IsDone entries n (keeping n kept hs) front.mark)
          (take front.len (docs_under key docs))
          (λ d k. done_stays entries n kept front.mark d hs k)
          (p.done.done key own begins);
    };
    boxed = p.boxed;
  }

  pub passed_stay : (fronts : List Front) (hs : List Hit) → ArePassed entries docs n kept fronts
      → ArePassed entries docs n (keeping n kept hs) fronts
  passed_stay fronts hs a = record {
    each = each-map (IsFrontPassed entries docs n kept) (IsFrontPassed entries docs n (keeping n kept hs)) fronts (front_stays hs) a.each;
  }

  -- what a front says of the box stays for later runs of any query with this box
  pub front_in_box : (query : QueryNum) (front : Front) → IsFrontPassed entries docs n kept front
      → IsInBox entries docs (record { query = query; kind = front.kind; first = front.first; len = front.boxed })
  front_in_box query front p = record {
    stored = p.stored;
    there = λ key own begins. (p.boxed.lists key own begins).there;
    boxed = λ key own begins. (p.boxed.lists key own begins).boxed;
  }

  pub passed_in_box : (query : QueryNum) (fronts : List Front) (front : Front) → ArePassed entries docs n kept fronts → In front fronts
      → IsInBox entries docs (record { query = query; kind = front.kind; first = front.first; len = front.boxed })
  passed_in_box query fronts front a i = front_in_box query front (each_one (IsFrontPassed entries docs n kept) fronts front a.each i)

pub passed_on : (entries : List Entry) (docs : List Doc) (n m : ℕ) (kept now : List Hit) (fronts : List Front) (hs : List Hit) → m ≡ n
    → now ≡ keeping n kept hs → ArePassed entries docs n kept fronts → ArePassed entries docs m now fronts
passed_on entries docs n m kept now fronts hs q e a =
    subst (λ k. ArePassed entries docs k now fronts) (sym q)
    (subst (λ hits. ArePassed entries docs n hits fronts) (sym e) (passed_stay entries docs n kept fronts hs a))

-- fronts stay done as more hits are stored
pub done_on : (s : Search) (into now : LeastHits) (fronts : Fronts) (hs : List Hit) → length now.places.items ≡ length into.places.items
    → now.hits.items ≡ keeping (length into.places.items) into.hits.items hs → AreDone s into fronts → AreDone s now fronts
done_on s into now fronts hs q e a = record {
  passed = passed_on s.seen.now s.index.now.docs (length into.places.items) (length now.places.items) into.hits.items now.hits.items
      fronts.fronts.items hs q e a.passed;
  boxes = a.boxes;
}

num_is : {x y : DocNum} → Some x ≡ Some y → x ≡ y
num_is e = cc

none_is : {x : DocNum} → Some x ≡ None → ⊥
none_is e = cc

-- the number of the document at a place
pub number_at : (docs : List Doc) (place : ℕ) (num : DocNum) (d : Doc) → Some num ≡ doc_num (slice_get docs place)
    → slice_get docs place ≡ Some d → d.num ≡ num
number_at docs place num d e g = sym (num_is (e ∙ ap doc_num g))

module _ {A : Type 0} (keeps : A → Bool) where
  filter_append : (xs ys : List A) → filter keeps (xs ++ ys) ≡ filter keeps xs ++ filter keeps ys
  filter_append [] ys = refl
  filter_append (x ∷ xs) ys = elim (cases_Bool (keeps x)) [
    | inl e ↦ rw e (ap (λ zs. x ∷ zs) (filter_append xs ys))
    | inr e ↦ rw e (filter_append xs ys)
  ]

  each_kept : (P : A → Type 0) (xs : List A) → Each P xs → Each P (filter keeps xs)
  each_kept P [] h = tt
  each_kept P (x ∷ xs) h = elim (cases_Bool (keeps x)) [
    | inl e ↦ rw e (h.0, each_kept P xs h.1)
    | inr e ↦ rw e (each_kept P xs h.1)
  ]

-- the numbers of documents in their places are below one more than their count
numbers_below : (n : ℕ) (docs : List Doc) → Numbered doc_number n docs → Each (λ d. d.num.0 < n + length docs) docs
numbers_below n docs h = below n (n + length docs) docs h refl
  where
    below : (n m : ℕ) (docs : List Doc) → Numbered doc_number n docs → m ≡ n + length docs → Each (λ d. d.num.0 < m) docs
    below n m [] h e = tt
    below n m (d ∷ ds) h e = let k = h.0 in (omega (arith, k, e), below (n + 1) m ds h.1 (omega (arith, e)))

first_below : (m : ℕ) (ds : List Doc) → Each (λ d. d.num.0 < m) ds → (first : DocNum) → Some first ≡ doc_num (slice_get ds 0) → first.0 < m
first_below m [] h first e = absurd (none_is e)
first_below m (d ∷ ds) h first e = subst (λ (z : DocNum). z.0 < m) (sym (num_is e)) h.0

-- a posting list of a single kind, and the document that it begins with
module _ (docs : List Doc) (kind : ListKind) (key : ListKey) (list : List Doc) (first : DocNum) (own : kind ≡ kind_of key)
    (is : list ≡ docs_under key docs) (number : Some first ≡ doc_num (slice_get list 0)) where
  begins_here : (ds : List Doc) → Some first ≡ doc_num (slice_get ds 0) → BeginsWith first.0 ds
  begins_here [] e = absurd (none_is e)
  begins_here (d ∷ ds) e = ap (λ (z : DocNum). z.0) (sym (num_is e))

  -- what holds of each list of its kind that begins with this document holds of this one
  of_this_list : (P : List Doc → Type 0) → ((key : ListKey) → kind_of key ≡ kind → BeginsWith first.0 (docs_under key docs)
      → P (docs_under key docs)) → P list
  of_this_list P h = subst P (sym is) (h key (sym own) (subst (BeginsWith first.0) is (begins_here list number)))

  pub known_here : (entries : List Entry) (n : ℕ) (kept : List Hit) (b : ℤ) (len : ℕ) → IsPassed entries docs n kept kind first.0 b len
      → Each (IsDone entries n kept b) (take len list)
  known_here entries n kept b len p = of_this_list (λ ds. Each (IsDone entries n kept b) (take len ds)) p.done

  pub boxed_known : (entries : List Entry) (len : ℕ) → IsBoxed entries docs kind first.0 len → IsBoxedFront entries len list
  boxed_known entries len p = of_this_list (IsBoxedFront entries len) p.lists

  module _ (single : is_single_kind kind ≡ true) (stand : InPlace doc_number doc_arrival docs) where
    meet : (other : ListKey) (ls os : List Doc) → kind_of other ≡ kind_of key → docs_under key docs ≡ ls → docs_under other docs ≡ os
        → Some first ≡ doc_num (slice_get ls 0) → BeginsWith first.0 os → docs_under key docs ≡ docs_under other docs
    meet other ls [] k l o n begins = absurd begins
    meet other [] (e ∷ es) k l o n begins = absurd (none_is n)
    meet other (d ∷ ds) (e ∷ es) k l o n begins =
        lists_are_apart key other docs d e ds es (ap is_single_kind (sym own) ∙ single) k stand l o
        (ap (λ (z : DocNum). z.0) (sym (num_is n)) ∙ sym begins)

    same_list : (other : ListKey) → kind_of other ≡ kind_of key → BeginsWith first.0 (docs_under other docs)
        → docs_under key docs ≡ docs_under other docs
    same_list other k begins = meet other _ _ k refl refl (number ∙ ap (λ ds. doc_num (slice_get ds 0)) is) begins

    -- what holds of this list holds of each list of its kind that begins with the same document
    of_each_list : (P : List Doc → Type 0) → P list → (other : ListKey) → kind_of other ≡ kind
        → BeginsWith first.0 (docs_under other docs) → P (docs_under other docs)
    of_each_list P h other k begins = subst P (is ∙ same_list other (k ∙ own) begins) h

    pub passed_here : (entries : List Entry) (n : ℕ) (kept : List Hit) (b : ℤ) (len : ℕ) → Each (IsDone entries n kept b) (take len list)
        → IsPassed entries docs n kept kind first.0 b len
    passed_here entries n kept b len h = record { done = of_each_list (λ ds. Each (IsDone entries n kept b) (take len ds)) h }

    pub boxed_here : (entries : List Entry) (len : ℕ) → IsBoxedFront entries len list → IsBoxed entries docs kind first.0 len
    boxed_here entries len h = record { lists = of_each_list (IsBoxedFront entries len) h }

    -- its first document is stored
    stored_here : first.0 ≤ length docs
    stored_here =
        let all = each_kept (is_under_key key) (λ (d : Doc). d.num.0 < 1 + length docs) docs (numbers_below 1 docs stand.numbered) in
        let l = first_below (1 + length docs) list (subst (Each (λ (d : Doc). d.num.0 < 1 + length docs)) (sym is) all) first number in
        omega (arith, l)

    -- as much of its front as the box holds
    pub box_front_passed : (entries : List Entry) (n : ℕ) (kept : List Hit) (b : ℤ) (len : ℕ) → IsBoxedFront entries len list
        → IsFrontPassed entries docs n kept (record { kind = kind; first = first; mark = b; len = len; boxed = len })
    box_front_passed entries n kept b len h = record {
      stored = stored_here;
      done = boxed_passed entries docs n kept kind first.0 b len (boxed_here entries len h);
      boxed = boxed_here entries len h;
    }

-- documents behind a front that is done
pub front_left : (s : Search) (into : LeastHits) (b : ℤ) (keeps : Doc → Bool) (docs : List Doc) (n : ℕ) (left : List Doc)
    → AreDoneDocs s into b (take n docs) → left ≡ filter keeps (drop n docs) → AreDocsBehind s into b (filter keeps docs) left
front_left s into b keeps docs n left h e = record {
  passed = filter keeps (take n docs);
  docs_are =
      ap (filter keeps) (front_and_rest n docs) ∙ filter_append keeps (take n docs) (drop n docs)
      ∙ ap (λ ds. filter keeps (take n docs) ++ ds) (sym e);
  done = each_kept keeps (IsDone s.seen.now (length into.places.items) into.hits.items b) (take n docs) h;
}

-- all rows may be walked
pub behind_none : (s : Search) (into : LeastHits) (b : ℤ) (v : Var) (rows left : List Row) → left ≡ rows → AreBehind s into b v rows left
behind_none s into b v rows left e = record {
  passed = [];
  rows_are = sym e;
  done = tt;
  query_var = inl refl;
}

-- documents of the query that are behind others are rows that are
pub behind_docs : (s : Search) (into : LeastHits) (b : ℤ) (v : Var) (docs left : List Doc) (all rows : List Row) → v.0 ≡ 0
    → all ≡ map OfDoc docs → rows ≡ map OfDoc left → AreDocsBehind s into b docs left → AreBehind s into b v all rows
behind_docs s into b v docs left all rows z e l w = record {
  passed = w.passed;
  rows_are = e ∙ ap (map OfDoc) w.docs_are ∙ parts w.passed ∙ ap (λ rs. map OfDoc w.passed ++ rs) (sym l);
  done = w.done;
  query_var = inr z;
}
  where
    parts : (ds : List Doc) → map OfDoc (ds ++ left) ≡ map OfDoc ds ++ map OfDoc left
    parts [] = refl
    parts (d ∷ ds) = ap (λ rs. OfDoc d ∷ rs) (parts ds)

-- no row that is left out changes what is stored
module _ (s : Search) (into : LeastHits) (b : ℤ) (rest : List Reach) (env : Env) (v : Var) where
  abbrev over : Row → List Hit
  over row = hits_over s.seen.now s.index.now (searched s) b rest (bind v row env)

  abbrev here : Doc → Bool
  here d = holds_here s.index.now (searched s) b rest (bind v (OfDoc d) env)

  abbrev stored : List Hit → List Hit
  stored hits = keeping (length into.places.items) into.hits.items hits

  le_self : (x : ℤ) → x ≤ℤ x
  le_self x = omega (arith, ints)

  doc_over : v.0 ≡ 0 → (d : Doc) → over (OfDoc d) ≡ option_to_list (hit_if (here d) b (new_doc s.seen.now d))
  doc_over z d = doc_hits s.seen.now s.index.now (searched s) b rest (bind v (OfDoc d) env) d
      (subst (λ k. lookup k (bind v (OfDoc d) env) ≡ Some (OfDoc d)) z (bind_same v (OfDoc d) env))

  passed_over : v.0 ≡ 0 → (passed : List Doc) (others : List Row) → AreDoneDocs s into b passed
      → stored (flat_map over (map OfDoc passed ++ others)) ≡ stored (flat_map over others)
  passed_over z [] others h = refl
  passed_over z (d ∷ ds) others h =
      let rest_hits = flat_map over (map OfDoc ds ++ others) in
      let one : stored (over (OfDoc d)) ≡ into.hits.items = ap stored (doc_over z d) ∙ sym (h.0.same b (here d) (le_self b)) in
      keeping_append (length into.places.items) into.hits.items (over (OfDoc d)) rest_hits
      ∙ ap (λ k. keeping (length into.places.items) k rest_hits) one
      ∙ passed_over z ds others h.1

  all_passed : (passed : List Doc) (others : List Row) → (passed ≡ []) ⊎ (v.0 ≡ 0) → AreDoneDocs s into b passed
      → stored (flat_map over (map OfDoc passed ++ others)) ≡ stored (flat_map over others)
  all_passed passed others (inl e) h = ap (λ ds. stored (flat_map over (map OfDoc ds ++ others))) e
  all_passed passed others (inr z) h = passed_over z passed others h

  pub behind_hits : (rows left : List Row) → AreBehind s into b v rows left → keeping (length into.places.items)
      into.hits.items (flat_map over rows) ≡ keeping (length into.places.items) into.hits.items (flat_map over left)
  behind_hits rows left w =
      ap (λ rs. stored (flat_map over rs)) w.rows_are
      ∙ all_passed w.passed left w.query_var w.done

-- nor does leaving out rows cost more
module _ (cost : Row → ℕ) where
  fewer_passed : (passed : List Doc) (others : List Row) → total cost others ≤ total cost (map OfDoc passed ++ others)
  fewer_passed [] others = omega arith
  fewer_passed (d ∷ ds) others = let k = fewer_passed ds others in omega (arith, k)

  pub behind_cost : (s : Search) (into : LeastHits) (b : ℤ) (v : Var) (rows left : List Row) → AreBehind s into b v rows left
      → total cost left ≤ total cost rows
  behind_cost s into b v rows left w =
      let r = ap (total cost) w.rows_are in
      let g = fewer_passed w.passed left in
      omega (arith, r, g)
