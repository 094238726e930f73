-- What is proved of window queries.
use Rattle.std.specs.Prelude.{◌≡◌, ℕ, ℤ, pos, ◌≤ℤ◌, ◌<ℤ◌, map, Bool, true, List, is_some, nat_eq}
use Rattle.std.specs.List.{list_any}
use Rattle.tap_rows.specs.declared.rows.Doc.{Doc}
use Rattle.tap_rows.specs.declared.tables.Tables.{Tables}
use Rattle.tap_rows.specs.Results.{snapshot, first_second, fresh_in, union_until}
use Rattle.tap_rows.specs.Grown.{Grown}
use Rattle.tql_core.specs.Condition.{Condition}
use Rattle.tql_core.specs.Holds.{truth_of}
use Rattle.tql_core.specs.Scope.{IsQuery}
use Rattle.tap_rows.specs.Kept.{In}
use Rattle.time_marks.specs.Found.{IsProbe}
use Rattle.time_marks.specs.Probes.{Probe, window_meaning, meaning_without}
use Rattle.time_marks.specs.Distinct.{distinct_probes}
use Rattle.monotone_rewrite.specs.Query.{window}

-- the documents arrived at 1970-01-01T00:00:00Z or later
abbrev pub FromZero : Tables → Type 0
FromZero T = (d : Doc) → In d T.docs → pos 0 ≤ℤ d.arrival

-- the window query over the past seconds from the start on gives the union of what was given at each, with first seconds;
-- and over the seconds from tau on, without what was given before tau, what is fresh since tau
pub record IsUnionOf (c : Condition) (start : ℤ) (X : List Probe) : Type 0 where
  pub whole : (T : Tables) (t : ℤ) → FromZero T → window_meaning X T (record { low = start; high = t }) ≡ union_until (truth_of c) T start t
  pub since : (T : Tables) (tau t : ℤ) → FromZero T → start ≤ℤ tau → tau ≤ℤ t
      → meaning_without (λ d. is_some (first_second (truth_of c) T d start tau)) X T (record { low = tau; high = t })
      ≡ fresh_in (truth_of c) T start tau t

abbrev pub WindowIsUnion : Type 0
WindowIsUnion = (c : Condition) (start : ℤ) → IsQuery c → pos 0 ≤ℤ start → IsUnionOf c start (window c start)

-- the same law of the distinct probes
abbrev pub DistinctIsUnion : Type 0
DistinctIsUnion = (c : Condition) (start : ℤ) → IsQuery c → pos 0 ≤ℤ start → IsUnionOf c start (distinct_probes (window c start))

-- rows that come at t or later change no first second below t
abbrev pub LaterRowsKeepFirst : Type 0
LaterRowsKeepFirst =
    (c : Condition) (t : ℤ) (tables later : Tables) (doc : Doc) (start until : ℤ) → Grown t tables later → until ≤ℤ t
    → first_second (truth_of c) later doc start until ≡ first_second (truth_of c) tables doc start until

-- the numbers of the documents of the union up to t
abbrev pub union_docs : Condition → Tables → ℤ → ℤ → List ℕ
union_docs c T start t = map (λ h. h.doc.0) (union_until (truth_of c) T start t)

abbrev pub in_union : Condition → Tables → ℤ → ℤ → ℕ → Bool
in_union c T start t n = list_any (λ k. nat_eq k n) (union_docs c T start t)

-- a family of documents that has all that were given at each second below t, and only grows with t
pub record IsGrowingOver (c : Condition) (T : Tables) (start : ℤ) (family : ℤ → ℕ → Bool) : Type 0 where
  pub includes : (s t : ℤ) → start ≤ℤ s → s <ℤ t → (d : Doc) → In d (snapshot (truth_of c) T s) → family t d.num.0 ≡ true
  pub grows : (t u : ℤ) (n : ℕ) → t ≤ℤ u → family t n ≡ true → family u n ≡ true

-- the documents of the union are the least such family
pub record IsLeastGrowing (c : Condition) (T : Tables) (start : ℤ) : Type 0 where
  pub growing : IsGrowingOver c T start (in_union c T start)
  pub least : (family : ℤ → ℕ → Bool) → IsGrowingOver c T start family → (t : ℤ) (n : ℕ) → in_union c T start t n ≡ true
      → family t n ≡ true

abbrev pub UnionIsLeast : Type 0
UnionIsLeast = (c : Condition) (T : Tables) (start : ℤ) → IsLeastGrowing c T start

-- each probe binds and names its variables as it should
abbrev pub AreProbes : List Probe → Type 0
AreProbes X = (p : Probe) → In p X → IsProbe p

-- the probes of a query's window bind and name their variables as they should
abbrev pub ProbesKeepScopes : Type 0
ProbesKeepScopes = (c : Condition) (start : ℤ) → IsQuery c → AreProbes (window c start)
