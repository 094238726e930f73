-- Checks that are alike: the same, or two that refuse for want of what all users share, if they refuse.
use Rattle.std.proofs.Common.{◌≡◌, ◌∙◌, sym, ap, refl, subst, ℕ, ◌+◌, ℤ, List, [], ◌∷◌, length, true, false, Option, Some, None, inl, inr}
use Rattle.std.proofs.Common.{if◌then◌else◌}
use Rattle.std.specs.Prelude.{◌⊎◌, ◌==◌, ◌||◌, nat_le, is_none, find}
use Rattle.std.specs.Option.{option_map, option_or}
use Rattle.std.specs.Str.{bytes_eq}
use Rattle.std.proofs.lemmas.List.{length-map}
use Rattle.tap_base.specs.Numbers.{moment_of}
use Rattle.tap_rows.specs.declared.tables.Tables.{Tables}
use Rattle.tap_rows.specs.declared.rows.QueryRow.{QueryRow}
use Rattle.tap_rows.proofs.Tests.{bytes_same}
use Rattle.script_lang.specs.declared.command.Command.{Command}
use Rattle.script_lang.specs.declared.command.Command.TheVariants.{At, AsUser, Mail, Mbox, AddNote, Define, Run, BoxOf, ListOf, Filter}
use Rattle.script_lang.specs.declared.command.Command.TheVariants.{Explain, Ask, Wake, ScoresOf, DigestOf, Find, Bad}
use Rattle.script_lang.specs.declared.lookup.Lookup.{Lookup}
use Rattle.script_lang.specs.declared.lookup.Lookup.TheVariants.{ShowDoc, ListNotes, ListQueries, Count}
use Rattle.script_lang.specs.declared.refusal.Refusal.{Refusal}
use Rattle.script_lang.specs.declared.refusal.Refusal.TheVariants.{NoQuery, Taken, Limit}
use Rattle.script_lang.specs.declared.refusal.LimitName.{LimitName}
use Rattle.script_lang.specs.declared.refusal.LimitName.TheVariants.{Queries, AllQueries, Users, Filters, Runs, Picks, Store}
use Rattle.restart_core.specs.Starts.{stored_source}
use Rattle.tap_model.specs.declared.session.Session.{Session}
use Rattle.tap_model.specs.Sessions.{or_empty, user_of, last_moment, greatest_moment}
use Rattle.tap_model.specs.Queries.{query_named, owned_queries}
use Rattle.tap_model.specs.Limits.{limit_refusal, queries_of, stored_bytes, different, owners_in, new_users}
use Rattle.tap_model.specs.Verdicts.{first_refusal, verdict, checks, lookup_checks, missing, refuse_unless, is_back, taken, no_query}
use Rattle.tap_model.specs.Verdicts.{no_run, runs_found, block_text, delivers, messages_of, bytes_of_all}
use Rattle.tap_model.specs.Privacy.{is_shared, is_user, concerns}
use Rattle.tap_model.proofs.ViewLaws.{Core, core_of, cores, source_in, named-core}
use Rattle.tap_model.specs.Limits.{filter_limit, pick_limit, query_limit, run_limit, store_limit, user_limit, user_query_limit}

-- the refusal, if there is one, is shared
abbrev pub May : Option Refusal → Type 0
May None = Unit {0}
May (Some refusal) = is_shared refusal ≡ true

-- there is a refusal, and it is shared
abbrev pub IsShared : Option Refusal → Type 0
IsShared None = ⊥
IsShared (Some refusal) = is_shared refusal ≡ true

abbrev pub AreAlike : List (Option Refusal) → List (Option Refusal) → Type 0
AreAlike [] [] = Unit {0}
AreAlike (x ∷ xs) (y ∷ ys) = ((x ≡ y) ⊎ (May x × May y)) × AreAlike xs ys
AreAlike [] (y ∷ ys) = ⊥
AreAlike (x ∷ xs) [] = ⊥

none-some : (x : Refusal) → None ≡ Some x → ⊥
none-some x e = cc

some-none : (x : Refusal) → Some x ≡ None → ⊥
some-none x e = cc

-- the first refusals of alike checks are the same, or one of them is shared
pub first-alike : (xs ys : List (Option Refusal)) → AreAlike xs ys
    → IsShared (first_refusal xs) ⊎ (IsShared (first_refusal ys) ⊎ (first_refusal xs ≡ first_refusal ys))
first-alike [] [] alike = inr (inr refl)
first-alike [] (y ∷ ys) alike = absurd alike
first-alike (x ∷ xs) [] alike = absurd alike
first-alike (None ∷ xs) (None ∷ ys) alike = first-alike xs ys alike.1
first-alike (None ∷ xs) (Some y ∷ ys) alike = elim (alike.0) [ inl e ↦ absurd (none-some y e) | inr may ↦ inr (inl may.1) ]
first-alike (Some x ∷ xs) (None ∷ ys) alike = elim (alike.0) [ inl e ↦ absurd (some-none x e) | inr may ↦ inl may.0 ]
first-alike (Some x ∷ xs) (Some y ∷ ys) alike = elim (alike.0) [ inl e ↦ inr (inr e) | inr may ↦ inl may.0 ]

-- a limit over all users
may-pass : (name : LimitName) (limit count more : ℕ) → is_shared (Limit name) ≡ true → May (limit_refusal name limit count more)
may-pass name limit count more shared =
    elim ((more == 0) || nat_le (count + more) limit) as (λ b. May (if b then None else Some (Limit name))) [ true ↦ tt | false ↦ shared ]

-- the rows of other tables, with the documents and notes of these
abbrev pub twin : Tables → Tables → Tables
twin tables other = record {
  docs = tables.docs;
  notes = tables.notes;
  queries = other.queries;
  runs = other.runs;
  picks = other.picks;
  filters = other.filters;
}

both-may : (name : LimitName) (limit count count' more more' : ℕ) → is_shared (Limit name) ≡ true
    → May (limit_refusal name limit count more) × May (limit_refusal name limit count' more')
both-may name limit count count' more more' shared = (may-pass name limit count more shared, may-pass name limit count' more' shared)

store-may : (t o : Tables) (more : ℕ)
    → May (limit_refusal Store store_limit (stored_bytes t) more) × May (limit_refusal Store store_limit (stored_bytes (twin t o)) more)
store-may t o more = both-may Store store_limit (stored_bytes t) (stored_bytes (twin t o)) more more refl

users-may : (user : List ℕ) (t o : Tables) → May (limit_refusal Users user_limit (different (owners_in t)) (new_users user t))
    × May (limit_refusal Users user_limit (different (owners_in (twin t o))) (new_users user (twin t o)))
users-may user t o = both-may Users user_limit (different (owners_in t)) (different (owners_in (twin t o))) (new_users user t)
    (new_users user (twin t o)) refl

-- what the user sees of two tables with the same documents and notes is the same
pub record AreTwins (user : List ℕ) (tables other : Tables) : Type 0 where
  pub queries : cores user tables.runs tables.queries ≡ cores user other.runs other.queries
  pub filter : source_in tables user ≡ source_in other user

-- the user who gives a command that only concerns one
pub own-user : (user : List ℕ) (giver : Option (List ℕ)) → is_user user giver ≡ true → giver ≡ Some user
own-user user None by = absurd (no by) where
  no : false ≡ true → ⊥
  no e = cc
own-user user (Some name) by = ap Some (bytes_same name user by)

pub user-is : (user : List ℕ) (s : Session) → is_user user s.user ≡ true → user_of s ≡ user
user-is user s by = ap or_empty (own-user user s.user by)

pub own-twins : (user : List ℕ) (s : Session) (t o : Tables) → is_user user s.user ≡ true → AreTwins user t o → AreTwins (user_of s) t o
own-twins user s t o by twins = subst (λ u. AreTwins u t o) (sym (user-is user s by)) twins

-- the same query is found in both
pub found-same : (user name : List ℕ) (t o : Tables) → AreTwins user t o
    → option_map (core_of t.runs) (query_named user name t) ≡ option_map (core_of o.runs) (query_named user name o)
found-same user name t o twins =
    named-core user name t.runs t.queries ∙ ap (find (λ core. bytes_eq core.name name)) twins.queries
    ∙ sym (named-core user name o.runs o.queries)

-- how many runs the query of a core had
abbrev core_runs : Option Core → ℕ
core_runs None = 0
core_runs (Some core) = length core.runs

missing-core : (refusal : Refusal) (t : Tables) (q : Option QueryRow) → missing refusal (option_map (core_of t.runs) q) ≡ missing refusal q
missing-core refusal t None = refl
missing-core refusal t (Some q) = refl

none-core : (t : Tables) (q : Option QueryRow) → is_none (option_map (core_of t.runs) q) ≡ is_none q
none-core t None = refl
none-core t (Some q) = refl

missing-same : (s : Session) (name : List ℕ) (t o : Tables) → AreTwins (user_of s) t o → no_query s name t ≡ no_query s name (twin t o)
missing-same s name t o twins =
    sym (missing-core NoQuery t (query_named (user_of s) name t)) ∙ ap (missing NoQuery) (found-same (user_of s) name t o twins)
    ∙ missing-core NoQuery o (query_named (user_of s) name o)

runs-core : (t : Tables) (q : Option QueryRow) → runs_found q t ≡ core_runs (option_map (core_of t.runs) q)
runs-core t None = refl
runs-core t (Some q) = refl

runs-same : (user name : List ℕ) (t o : Tables) → AreTwins user t o
    → runs_found (query_named user name t) t ≡ runs_found (query_named user name o) (twin t o)
runs-same user name t o twins =
    runs-core t (query_named user name t) ∙ ap core_runs (found-same user name t o twins)
    ∙ sym (runs-core (twin t o) (query_named user name o))

taken-same : (s : Session) (name : List ℕ) (t o : Tables) → AreTwins (user_of s) t o → taken s name t ≡ taken s name (twin t o)
taken-same s name t o twins =
    ap (λ b. refuse_unless b Taken) (sym (none-core t (query_named (user_of s) name t)) ∙ ap is_none (found-same (user_of s) name t o twins)
    ∙ none-core o (query_named (user_of s) name o))

count-same : (user : List ℕ) (t o : Tables) → AreTwins user t o → queries_of user t ≡ queries_of user o
count-same user t o twins = sym (length-map (owned_queries user t) (core_of t.runs)) ∙ ap length twins.queries
    ∙ length-map (owned_queries user o) (core_of o.runs)

back-same : (s : Session) (t o : Tables) (m : ℤ) (second : Option ℤ) → s.moment ≡ Some m
    → is_back (last_moment s t) second ≡ is_back (last_moment s (twin t o)) second
back-same s t o m second at = ap (λ x. is_back (option_or x (greatest_moment t)) second) at
    ∙ sym (ap (λ x. is_back (option_or x (greatest_moment (twin t o))) second) at)

no-true : false ≡ true → ⊥
no-true e = cc

-- the checks of a look-up
lookup-alike : (lookup : Lookup) (s : Session) (t o : Tables) → AreAlike (lookup_checks lookup s t) (lookup_checks lookup s (twin t o))
lookup-alike (ShowDoc num) s t o = (inl refl, tt)
lookup-alike (ListNotes num) s t o = (inl refl, tt)
lookup-alike ListQueries s t o = (inl refl, tt)
lookup-alike Count s t o = tt

-- the checks of a command that concerns the user
pub checks-alike : (c : Command) (user : List ℕ) (s : Session) (t o : Tables) (m : ℤ) → s.moment ≡ Some m → concerns user s c ≡ true
    → AreTwins user t o → AreAlike (checks c s t) (checks c s (twin t o))
checks-alike (At text) user s t o m at by twins = (inl refl, (inl (back-same s t o m (moment_of text) at), tt))
checks-alike (AsUser name) user s t o m at by twins = absurd (no-true by)
checks-alike (Mail block) user s t o m at
    by twins = (inl refl, (inl refl, (inl refl, (inr (store-may t o (length (block_text block))), tt))))
checks-alike (Mbox block) user s t o m at
    by twins = (inl refl, (inl refl, (inl refl, (inl refl, (inr (store-may t o (bytes_of_all (messages_of block))), tt)))))
checks-alike (AddNote doc kind value text) user s t o m at
    by twins = (inl refl, (inl refl, (inl refl, (inl refl, (inl refl, (inl refl, (inr (store-may t o (length text)), tt)))))))
checks-alike (Define name source) user s t o m at by twins =
    let own = own-twins user s t o by twins in (
      inl refl,
      (
        inl refl,
        (
          inl refl,
          (
            inl (taken-same s name t o own),
            (
              inl refl,
              (
                inl (ap (λ n. limit_refusal Queries user_query_limit n 1)
                    (count-same (user_of s) t o own)),
                (
                  inr (both-may AllQueries query_limit (length t.queries) (length o.queries) 1 1 refl),
                  (inr (users-may (user_of s) t o), (inr (store-may t o (length (stored_source source))), tt)),
                ),
              ),
            ),
          ),
        ),
      ),
    )
checks-alike (Run name) user s t o m at by twins =
    let own = own-twins user s t o by twins in (
      inl refl,
      (
        inl refl,
        (
          inl refl,
          (
            inl (missing-same s name t o own),
            (
              inr (both-may Runs run_limit (length t.runs) (length o.runs) 1 1 refl),
              (
                inr (both-may Picks
                    pick_limit (length t.picks) (length o.picks) (delivers s name t) (delivers s name (twin t o)) refl),
                tt,
              ),
            ),
          ),
        ),
      ),
    )
checks-alike (BoxOf name) user s t o m at
    by twins = (inl refl, (inl refl, (inl (missing-same s name t o (own-twins user s t o by twins)), tt)))
checks-alike (ListOf name) user s t o m at
    by twins = (inl refl, (inl refl, (inl (missing-same s name t o (own-twins user s t o by twins)), tt)))
checks-alike (Filter block) user s t o m at
    by twins = (
      inl refl,
      (
        inl refl,
        (
          inl refl,
          (
            inr (users-may (user_of s) t o),
            (
              inr (both-may Filters filter_limit (length t.filters)
                  (length o.filters) 1 1 refl),
              (inr (store-may t o (length (block_text block))), (inl refl, tt)),
            ),
          ),
        ),
      ),
    )
checks-alike (Explain name) user s t o m at
    by twins = (inl refl, (inl refl, (inl (missing-same s name t o (own-twins user s t o by twins)), tt)))
checks-alike (Ask moment source) user s t o m at by twins = (inl refl, (inl refl, (inl refl, (inl refl, tt))))
checks-alike (Wake name) user s t o m at
    by twins = (inl refl, (inl refl, (inl refl, (inl (missing-same s name t o (own-twins user s t o by twins)), tt))))
checks-alike (ScoresOf kind) user s t o m at by twins = (inl refl, tt)
checks-alike (DigestOf name ordinal) user s t o m at by twins =
    let own = own-twins user s t o by twins in
    (inl refl, (inl refl, (inl (missing-same s name t o own), (inl (ap (no_run ordinal) (runs-same (user_of s) name t o own)), tt))))
checks-alike (Find lookup) user s t o m at by twins = lookup-alike lookup s t o
checks-alike (Bad refusal) user s t o m at by twins = (inl refl, tt)

-- the verdicts are the same, or one of them is shared
pub verdict-alike : (c : Command) (user : List ℕ) (s : Session) (t o : Tables) (m : ℤ) → s.moment ≡ Some m → concerns user s c ≡ true
    → AreTwins user t o
    → IsShared (verdict c s t) ⊎ (IsShared (verdict c s (twin t o)) ⊎ (verdict c s t ≡ verdict c s (twin t o)))
verdict-alike c user s t o m at by twins = first-alike (checks c s t) (checks c s (twin t o)) (checks-alike c user s t o m at by twins)
