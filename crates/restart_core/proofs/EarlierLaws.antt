-- Sets of what earlier rows have taken: a key is among theirs just where a row of theirs has it.
use Rattle.std.proofs.Common.{◌≡◌, ◌∙◌, sym, ap, refl, ℕ, Bool, true, false, List, [], ◌∷◌, ◌++◌, map}
use Rattle.std.specs.Prelude.{◌||◌, ◌&&◌, ◌==◌, not}
use Rattle.std.specs.List.{list_any}
use Rattle.std.specs.Str.{bytes_eq}
use Rattle.std.proofs.lemmas.List.{map-append}
use Rattle.indexmap.specs.IndexSet.{insert_key}
use Rattle.tap_rows.specs.declared.rows.QueryRow.{QueryRow}
use Rattle.tap_rows.specs.declared.rows.Pick.{Pick}
use Rattle.tap_rows.specs.WellFormed.{is_query_of}
use Rattle.tap_rows.proofs.Tests.{bytes_flip, nat_flip}
use Rattle.restart_core.specs.declared.picked.Pair.{Pair}
use Rattle.restart_core.specs.declared.names.Named.{Named}
use Rattle.restart_core.specs.contracts.picked.PairPartialEq.TheImpl as pair
use Rattle.restart_core.specs.contracts.names.NamedPartialEq.TheImpl as named
use Rattle.restart_core.specs.Damages.{is_same_pick}
use Rattle.restart_core.specs.Earlier.{pair_of, named_of}

-- a key among those of some rows
among : {A B : Type 0} (eq : B → B → Bool) (key : A → B) (test : A → Bool) (k : B) → ((y : A) → eq k (key y) ≡ test y) → (xs : List A)
    → list_any (eq k) (map key xs) ≡ list_any test xs
among eq key test k same [] = refl
among eq key test k same (x ∷ xs) = ap (λ b. b || list_any (eq k) (map key xs)) (same x)
    ∙ ap (λ b. test x || b) (among eq key test k same xs)

-- a new key goes behind those of the rows
added : {A B : Type 0} (eq : B → B → Bool) (key : A → B) (keys : List B) (xs : List A) (x : A) → keys ≡ map key xs
    → not (list_any (eq (key x)) keys) ≡ true → insert_key eq keys (key x) ≡ map key (xs ++ x ∷ [])
added eq key keys xs x is new = go (list_any (eq (key x)) keys) refl new where
  go : (b : Bool) → list_any (eq (key x)) keys ≡ b → not b ≡ true → insert_key eq keys (key x) ≡ map key (xs ++ x ∷ [])
  go true e h = absurd (false-true h) where
    false-true : false ≡ true → ⊥
    false-true h = cc
  go false e h = rw e (ap (λ ks. ks ++ key x ∷ []) is ∙ sym (map-append key xs (x ∷ [])))

pair-same : (pick other : Pick) → pair.ghosts.eq (pair_of pick) (pair_of other) ≡ is_same_pick pick other
pair-same pick other = ap (λ b. b && (pick.doc.0 == other.doc.0)) (nat_flip pick.query.0 other.query.0)
    ∙ ap (λ b. (other.query.0 == pick.query.0) && b) (nat_flip pick.doc.0 other.doc.0)

named-same : (query other : QueryRow) → named.ghosts.eq (named_of query) (named_of other) ≡ is_query_of query.owner query.name other
named-same query other = ap (λ b. b && bytes_eq query.name other.name) (bytes_flip query.owner other.owner)
    ∙ ap (λ b. bytes_eq other.owner query.owner && b) (bytes_flip query.name other.name)

pub pick-among : (keys : List Pair) (pick : Pick) (picks : List Pick) → keys ≡ map pair_of picks
    → list_any (pair.ghosts.eq (pair_of pick)) keys ≡ list_any (is_same_pick pick) picks
pick-among keys pick picks is = ap (list_any (pair.ghosts.eq (pair_of pick))) is
    ∙ among pair.ghosts.eq pair_of (is_same_pick pick) (pair_of pick) (pair-same pick) picks

pub pick-added : (keys : List Pair) (pick : Pick) (picks : List Pick) → keys ≡ map pair_of picks
    → not (list_any (pair.ghosts.eq (pair_of pick)) keys) ≡ true
    → insert_key pair.ghosts.eq keys (pair_of pick) ≡ map pair_of (picks ++ pick ∷ [])
pick-added keys pick picks is new = added pair.ghosts.eq pair_of keys picks pick is new

-- where the key is made of copies
pub name-among : (keys : List Named) (key : Named) (query : QueryRow) (queries : List QueryRow) → key ≡ named_of query
    → keys ≡ map named_of queries → list_any (named.ghosts.eq key) keys ≡ list_any (is_query_of query.owner query.name) queries
name-among keys key query queries made is = ap (λ k. list_any (named.ghosts.eq k) keys) made
    ∙ ap (list_any (named.ghosts.eq (named_of query))) is
    ∙ among named.ghosts.eq named_of (is_query_of query.owner query.name) (named_of query) (named-same query) queries

pub name-added : (keys : List Named) (key : Named) (query : QueryRow) (queries : List QueryRow) → key ≡ named_of query
    → keys ≡ map named_of queries → not (list_any (named.ghosts.eq key) keys) ≡ true
    → insert_key named.ghosts.eq keys key ≡ map named_of (queries ++ query ∷ [])
name-added keys key query queries made is new = ap (insert_key named.ghosts.eq keys) made
    ∙ added named.ghosts.eq named_of keys queries query is (ap (λ k. not (list_any (named.ghosts.eq k) keys)) (sym made) ∙ new)

pub same-name : (a b : List ℕ) (query : QueryRow) → a ≡ query.owner → b ≡ query.name → (record { owner = a; name = b }) ≡ named_of query
same-name a b query e f = ap (λ x. record { owner = x; name = b }) e ∙ ap (λ x. record { owner = query.owner; name = x }) f
