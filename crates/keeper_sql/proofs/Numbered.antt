-- Rows that stand in order have their places as numbers.
use Rattle.std.proofs.Common.{◌≡◌, ◌+◌, ℕ, ℤ, List, [], ◌∷◌, ◌++◌, true}
use Rattle.std.specs.Prelude.{Option, Some}
use Rattle.std.proofs.lemmas.Bool.{and_parts, eqb-true}
use Rattle.tap_rows.specs.declared.rows.Doc.{Doc}
use Rattle.tap_rows.specs.declared.rows.Note.{Note}
use Rattle.tap_rows.specs.declared.rows.QueryRow.{QueryRow}
use Rattle.tap_rows.specs.declared.rows.RunRow.{RunRow}
use Rattle.tap_rows.specs.declared.rows.Pick.{Pick}
use Rattle.tap_rows.specs.declared.rows.FilterRow.{FilterRow}
use Rattle.tap_rows.specs.WellFormed.{docs_stand, note_stands, notes_stand, query_stands, queries_stand, run_stands, runs_stand}
use Rattle.tap_rows.specs.WellFormed.{picks_stand, filter_stands, filters_stand}
use Rattle.keeper_sql.proofs.Appending.{NumberedBy}

pub docs_numbered : (place : ℕ) (low : ℤ) (docs : List Doc) → docs_stand place low docs ≡ true
    → NumberedBy (λ (d : Doc). d.num.0) place docs
docs_numbered place low [] h = tt
docs_numbered place low (d ∷ docs) h =
    let parts = and_parts _ _ h in
    (eqb-true d.num.0 place (and_parts _ _ (and_parts _ _ parts.0).0).0, docs_numbered (place + 1) d.arrival docs parts.1)

pub note_numbered : (docs : List Doc) (place : ℕ) (low : ℤ) (n : Note) → note_stands docs place low n ≡ true → n.num.0 ≡ place
note_numbered docs place low n h = eqb-true n.num.0 place (and_parts _ _ (and_parts _ _ (and_parts _ _ (and_parts _ _ h).0).0).0).0

pub notes_numbered : (docs : List Doc) (place : ℕ) (low : ℤ) (notes : List Note) → notes_stand docs place low notes ≡ true
    → NumberedBy (λ (n : Note). n.num.0) place notes
notes_numbered docs place low [] h = tt
notes_numbered docs place low (n ∷ notes) h =
    let parts = and_parts _ _ h in
    (note_numbered docs place low n parts.0, notes_numbered docs (place + 1) n.arrival notes parts.1)

pub query_numbered : (earlier : List QueryRow) (place : ℕ) (low : ℤ) (q : QueryRow) → query_stands earlier place low q ≡ true
    → q.num.0 ≡ place
query_numbered earlier place low q h = eqb-true q.num.0 place (and_parts _ _ (and_parts _ _ (and_parts _ _ (and_parts _ _ h).0).0).0).0

pub queries_numbered : (earlier : List QueryRow) (place : ℕ) (low : ℤ) (queries : List QueryRow)
    → queries_stand earlier place low queries ≡ true → NumberedBy (λ (q : QueryRow). q.num.0) place queries
queries_numbered earlier place low [] h = tt
queries_numbered earlier place low (q ∷ queries) h =
    let parts = and_parts _ _ h in
    (query_numbered earlier place low q parts.0, queries_numbered (earlier ++ q ∷ []) (place + 1) q.arrival queries parts.1)

pub run_numbered : (queries : List QueryRow) (place : ℕ) (low : ℤ) (r : RunRow) → run_stands queries place low r ≡ true → r.num ≡ place
run_numbered queries place low r h = eqb-true r.num place (and_parts _ _ (and_parts _ _ h).0).0

pub runs_numbered : (queries : List QueryRow) (place : ℕ) (low : ℤ) (runs : List RunRow) → runs_stand queries place low runs ≡ true
    → NumberedBy (λ (r : RunRow). r.num) place runs
runs_numbered queries place low [] h = tt
runs_numbered queries place low (r ∷ runs) h =
    let parts = and_parts _ _ h in
    (run_numbered queries place low r parts.0, runs_numbered queries (place + 1) r.moment runs parts.1)

pub picks_numbered : (runs : List RunRow) (docs : List Doc) (earlier : List Pick) (place : ℕ) (before : Option Pick) (picks : List Pick)
    → picks_stand runs docs earlier place before picks ≡ true
    → NumberedBy (λ (p : Pick). p.num) place picks
picks_numbered runs docs earlier place before [] h = tt
picks_numbered runs docs earlier place before (p ∷ picks) h =
    let parts = and_parts _ _ h in (
      eqb-true p.num place (and_parts _ _ (and_parts _ _ (and_parts _ _ parts.0).0).0).0,
      picks_numbered runs docs (earlier ++ p ∷ []) (place + 1) (Some p) picks parts.1,
    )

pub filter_numbered : (place : ℕ) (low : ℤ) (f : FilterRow) → filter_stands place low f ≡ true → f.num ≡ place
filter_numbered place low f h = eqb-true f.num place (and_parts _ _ (and_parts _ _ h).0).0

pub filters_numbered : (place : ℕ) (low : ℤ) (filters : List FilterRow) → filters_stand place low filters ≡ true
    → NumberedBy (λ (f : FilterRow). f.num) place filters
filters_numbered place low [] h = tt
filters_numbered place low (f ∷ filters) h =
    let parts = and_parts _ _ h in
    (filter_numbered place low f parts.0, filters_numbered (place + 1) f.arrival filters parts.1)
