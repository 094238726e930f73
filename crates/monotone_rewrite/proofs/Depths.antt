-- How many variables a probe binds at once.
use Rattle.std.proofs.Common.{◌≡◌, refl, sym, subst, arith, ℕ, zero, suc, ◌+◌, ◌≤◌, ℤ, pos, Bool, true, false, List, [], ◌∷◌, ◌++◌, length}
use Rattle.std.proofs.Common.{inl, inr, if◌then◌else◌}
use Rattle.std.specs.Prelude.{◌&&◌, not, nat_le, nat_eq, int_lt}
use Rattle.std.specs.List.{list_any}
use Rattle.std.proofs.lemmas.Bool.{cases_Bool, eqb-true}
use Rattle.tql_tree.specs.declared.table.Table.{Table}
use Rattle.tql_core.specs.declared.term.Term.{Term}
use Rattle.tql_core.specs.declared.term.Var.{Var}
use Rattle.tql_core.specs.declared.atom.Atom.TheVariants.{Numbers, Texts, Times, Has}
use Rattle.tql_core.specs.Condition.{Condition, Always, Never, Plain, NowAtLeast, NowBefore, All, Either, Not, Exists}
use Rattle.tql_core.specs.Values.{compare}
use Rattle.tql_core.specs.Scope.{Scoped, IsQuery}
use Rattle.tap_rows.specs.Kept.{In}
use Rattle.time_marks.specs.declared.mark.Mark.{Mark}
use Rattle.time_marks.specs.Marks.{copy, copy_term, arrival_term, step_of, under_step, mark_if, marks, document_var, fixed_term, marks_from}
use Rattle.time_marks.specs.Marks.{body}
use Rattle.time_marks.specs.Found.{higher, nested}
use Rattle.time_marks.proofs.Lists.{append_in, map_in}
use Rattle.time_marks.proofs.Depth.{higher_left, higher_right}
use Rattle.monotone_rewrite.specs.Folding.{KnownTruth, Yes, No, Open, known, constant, same_base, is_there, fold_all, fold_either, fold_not}
use Rattle.monotone_rewrite.specs.Folding.{fold_exists, fold}

pub high_least : (a b n : ℕ) → a ≤ n → b ≤ n → higher a b ≤ n
high_least a b n h k = go (nat_le a b) where
  go : (t : Bool) → (if t then b else a) ≤ n
  go true = k
  go false = h

-- the path of a mark is no longer than EXISTS stand in one another
empty_here : (up : Bool) (e : Term) (mark : Mark) → In mark (mark_if up e) → length mark.path ≤ 0
empty_here true e mark (inl h) = subst (λ k. length k.path ≤ 0) (sym h) (omega arith)
empty_here true e mark (inr i) = absurd i
empty_here false e mark i = absurd i

short : (c : Condition) (up : Bool) (mark : Mark) → In mark (marks c up) → length mark.path ≤ nested c
short Always up mark i = absurd i
short Never up mark i = absurd i
short (Plain a) up mark i = absurd i
short (NowAtLeast e) up mark i = empty_here up (copy_term e) mark i
short (NowBefore e) up mark i = empty_here (not up) (copy_term e) mark i
short (All l r) up mark i =
    elim (append_in (marks l up) (marks r up) mark i) [
      | inl j ↦ omega (arith, short l up mark j, higher_left (nested l) (nested r))
      | inr j ↦ omega (arith, short r up mark j, higher_right (nested l) (nested r))
    ]
short (Either l r) up mark i =
    elim (append_in (marks l up) (marks r up) mark i) [
      | inl j ↦ omega (arith, short l up mark j, higher_left (nested l) (nested r))
      | inr j ↦ omega (arith, short r up mark j, higher_right (nested l) (nested r))
    ]
short (Not x) up mark i = short x (not up) mark i
short (Exists v t x) up mark i =
    let k = map_in (under_step (step_of v t x)) (mark_if up (arrival_term (copy v)) ++ marks x up) mark i in
    subst (λ z. length z.path ≤ suc (nested x)) (sym k.2) (longer k.0 (inner (λ z h. short x up z h) k.0 k.1))
  where
    inner : ((z : Mark) → In z (marks x up) → length z.path ≤ nested x) → (z : Mark)
        → In z (mark_if up (arrival_term (copy v)) ++ marks x up) → length z.path ≤ nested x
    inner rest z j = elim (append_in (mark_if up (arrival_term (copy v))) (marks x up) z j) [
      | inl h ↦ omega (arith, empty_here up (arrival_term (copy v)) z h)
      | inr h ↦ rest z h
    ]

    longer : (z : Mark) → length z.path ≤ nested x → suc (length z.path) ≤ suc (nested x)
    longer z h = omega arith

-- is the number in the list?
abbrev has : ℕ → List ℕ → Bool
has k scope = list_any (nat_eq k) scope

has_not : (k : ℕ) (scope : List ℕ) → (In k scope → ⊥) → has k scope ≡ false
has_not k [] n = refl
has_not k (j ∷ scope) n = go (nat_eq k j) refl (has_not k scope (λ i. n (inr i))) where
  go : (b : Bool) → nat_eq k j ≡ b → has k scope ≡ false → has k (j ∷ scope) ≡ false
  go true e h = absurd (n (inl (eqb-true k j e)))
  go false e h = rw (e, h) refl

abbrev free : List ℕ → ℕ → ℕ
free scope k = if has k scope then 0 else 1

-- how many of 1 to 5 aren't in the list
abbrev count : List ℕ → ℕ
count scope = free scope 1 + (free scope 2 + (free scope 3 + (free scope 4 + free scope 5)))

one_less : (v : ℕ) (scope : List ℕ) → 1 ≤ v → v ≤ 5 → (In v scope → ⊥) → suc (count (v ∷ scope)) ≤ count scope
one_less zero scope a b n = absurd (omega arith)
one_less (suc zero) scope a b n = rw (has_not 1 scope n) (omega arith)
one_less (suc (suc zero)) scope a b n = rw (has_not 2 scope n) (omega arith)
one_less (suc (suc (suc zero))) scope a b n = rw (has_not 3 scope n) (omega arith)
one_less (suc (suc (suc (suc zero)))) scope a b n = rw (has_not 4 scope n) (omega arith)
one_less (suc (suc (suc (suc (suc zero))))) scope a b n = rw (has_not 5 scope n) (omega arith)
one_less (suc (suc (suc (suc (suc (suc v)))))) scope a b n = absurd (omega arith)

nested_count : (c : Condition) (scope : List ℕ) → Scoped scope c → nested c ≤ count scope
nested_count Always scope s = omega arith
nested_count Never scope s = omega arith
nested_count (Plain a) scope s = omega arith
nested_count (NowAtLeast e) scope s = omega arith
nested_count (NowBefore e) scope s = omega arith
nested_count (All l r) scope s = high_least (nested l) (nested r) (count scope) (nested_count l scope s.0) (nested_count r scope s.1)
nested_count (Either l r) scope s = high_least (nested l) (nested r) (count scope) (nested_count l scope s.0) (nested_count r scope s.1)
nested_count (Not x) scope s = nested_count x scope s
nested_count (Exists v t x) scope s = omega (arith, one_less v.0 scope s.0 s.1 s.2, nested_count x (v.0 ∷ scope) s.3)

free_few : (b : Bool) → (if b then 0 else 1) ≤ 1
free_few true = omega arith
free_few false = omega arith

-- a query's EXISTS stand in one another five times at most
pub nested_few : (c : Condition) (scope : List ℕ) → Scoped scope c → nested c ≤ 5
nested_few c scope s = omega (
  arith,
  nested_count c scope s,
  free_few (has 1 scope),
  free_few (has 2 scope),
  free_few (has 3 scope),
  free_few (has 4 scope),
  free_few (has 5 scope),
)

pub short_from : (c : Condition) (a : ℤ) → IsQuery c → (mark : Mark) → In mark (marks_from c a) → length mark.path ≤ 5
short_from c a q mark i =
    elim (append_in (mark_if true (arrival_term document_var) ++ marks c true) (mark_if (int_lt (pos 0) a) (fixed_term a)) mark i) [
      | inl j ↦ elim (append_in (mark_if true (arrival_term document_var)) (marks c true) mark j) [
        | inl k ↦ omega (arith, empty_here true (arrival_term document_var) mark k)
        | inr k ↦ omega (arith, short c true mark k, nested_few c (0 ∷ []) q)
      ]
      | inr j ↦ omega (arith, empty_here (int_lt (pos 0) a) (fixed_term a) mark j)
    ]

pub nested_body : (c : Condition) (at : Term) → nested (body c at) ≤ nested c
nested_body Always at = omega arith
nested_body Never at = omega arith
nested_body (Plain a) at = omega arith
nested_body (NowAtLeast e) at = omega arith
nested_body (NowBefore e) at = omega arith
nested_body (All l r) at = high_least (nested (body l at)) (nested (body r at)) (higher (nested l) (nested r))
    (omega (arith, nested_body l at, higher_left (nested l) (nested r)))
    (omega (arith, nested_body r at, higher_right (nested l) (nested r)))
nested_body (Either l r) at = high_least (nested (body l at)) (nested (body r at)) (higher (nested l) (nested r))
    (omega (arith, nested_body l at, higher_left (nested l) (nested r)))
    (omega (arith, nested_body r at, higher_right (nested l) (nested r)))
nested_body (Not x) at = nested_body x at
nested_body (Exists v t x) at = omega (arith, high_least 0 (nested (body x at)) (nested x) (omega arith) (nested_body x at))

constant_none : (b : Bool) → nested (constant b) ≤ 0
constant_none true = omega arith
constant_none false = omega arith

all_nested : (k k' : KnownTruth) (l r : Condition) → nested (fold_all k k' l r) ≤ higher (nested l) (nested r)
all_nested No k' l r = omega arith
all_nested Yes k' l r = higher_right (nested l) (nested r)
all_nested Open No l r = omega arith
all_nested Open Yes l r = higher_left (nested l) (nested r)
all_nested Open Open l r = omega arith

either_nested : (k k' : KnownTruth) (l r : Condition) → nested (fold_either k k' l r) ≤ higher (nested l) (nested r)
either_nested Yes k' l r = omega arith
either_nested No k' l r = higher_right (nested l) (nested r)
either_nested Open Yes l r = omega arith
either_nested Open No l r = higher_left (nested l) (nested r)
either_nested Open Open l r = omega arith

not_nested : (k : KnownTruth) (x : Condition) → nested (fold_not k x) ≤ nested x
not_nested Yes x = omega arith
not_nested No x = omega arith
not_nested Open x = omega arith

exists_nested : (k : KnownTruth) (v : Var) (t : Table) (x : Condition) → nested (fold_exists k v t x) ≤ suc (nested x)
exists_nested No v t x = omega arith
exists_nested Yes v t x = omega arith
exists_nested Open v t x = omega arith

pub higher_both : (a b c d : ℕ) → a ≤ c → b ≤ d → higher a b ≤ higher c d
higher_both a b c d h k = high_least a b (higher c d) (omega (arith, h, higher_left c d)) (omega (arith, k, higher_right c d))

pub nested_fold : (at : Term) (x : Condition) → nested (fold at x) ≤ nested x
nested_fold at Always = omega arith
nested_fold at Never = omega arith
nested_fold at (Plain (Numbers x op y)) = omega arith
nested_fold at (Plain (Texts x op y)) = omega arith
nested_fold at (Plain (Has v f y)) = omega arith
nested_fold at (Plain (Times x op y)) =
    elim (cases_Bool (same_base x.base y.base && is_there at x.base)) [
      | inl t ↦ rw t (constant_none (compare op x.plus y.plus))
      | inr f ↦ rw f (omega arith)
    ]
nested_fold at (NowAtLeast e) = omega arith
nested_fold at (NowBefore e) = omega arith
nested_fold at (All l r) = omega (
  arith,
  all_nested (known (fold at l)) (known (fold at r)) (fold at l) (fold at r),
  higher_both (nested (fold at l)) (nested (fold at r)) (nested l) (nested r) (nested_fold at l) (nested_fold at r),
)
nested_fold at (Either l r) = omega (
  arith,
  either_nested (known (fold at l)) (known (fold at r)) (fold at l) (fold at r),
  higher_both (nested (fold at l)) (nested (fold at r)) (nested l) (nested r) (nested_fold at l) (nested_fold at r),
)
nested_fold at (Not x) = omega (arith, not_nested (known (fold at x)) (fold at x), nested_fold at x)
nested_fold at (Exists v t x) = omega (arith, exists_nested (known (fold at x)) v t (fold at x), nested_fold at x)
