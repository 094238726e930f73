-- What well formed tables say of their rows, as an engine needs it.
use Rattle.std.proofs.Common.{◌≡◌, arith, ℕ, ◌+◌, ◌≤◌, ℤ, pos, true, Option, Some, None, List, [], ◌∷◌, ◌++◌}
use Rattle.std.proofs.Common.{length}
use Rattle.std.specs.Prelude.{◌≤ℤ◌, int_le}
use Rattle.std.proofs.lemmas.Bool.{and_parts, eqb-true, not-true}
use Rattle.std.proofs.lemmas.Int.{ints}
use Rattle.tap_rows.specs.declared.tables.Tables.{Tables}
use Rattle.tap_rows.specs.declared.rows.Doc.{Doc}
use Rattle.tap_rows.specs.declared.rows.RunRow.{RunRow}
use Rattle.tap_rows.specs.declared.rows.Pick.{Pick}
use Rattle.tap_rows.specs.declared.rows.Note.{Note}
use Rattle.row_index.specs.Orders.{doc_number, doc_arrival, note_number, note_arrival}
use Rattle.tap_rows.specs.Kept.{Each, HasRun, RunsFrom, QueriesFrom}
use Rattle.tap_rows.specs.WellFormed.{docs_stand, doc_stands, note_stands, notes_stand, pick_stands, picks_stand, is_well_formed}
use Rattle.tap_rows.proofs.LaterLaws.{each-map}
use Rattle.tap_model.proofs.FormedRows.{at-most, follows, one-of, placed}
use Rattle.tap_kept.specs.Starting.{IsRowNumber, AreInOrder, FollowInOrder, PicksAreDistinct}
use Rattle.tap_base.specs.Numbers.{IsMoment}

docs-standing : (place : ℕ) (low : ℤ) (docs : List Doc) → pos 0 ≤ℤ low → docs_stand place low docs ≡ true
    → AreInOrder doc_number doc_arrival place low docs × Each (λ doc. length doc.text ≤ 1048576) docs
docs-standing place low [] from e = (tt, tt)
docs-standing place low (doc ∷ docs) from e =
    let both = and_parts (doc_stands place low doc) (docs_stand (place + 1) doc.arrival docs) e in
    let this = and_parts _ _ both.0 in
    let here = and_parts _ _ this.0 in
    let moment = follows low doc.arrival here.1 in
    let above : pos 0 ≤ℤ doc.arrival = omega (arith, ints, moment.0, from) in
    let rest = docs-standing (place + 1) doc.arrival docs above both.1 in
    ((eqb-true doc.num.0 place here.0, moment.0, (above, moment.1), rest.0), (at-most (length doc.text) 1048576 this.1, rest.1))

-- the number of one of that many rows
within : {num count : ℕ} → (1 ≤ num) × (num ≤ count) → IsRowNumber num count
within both = record { low = both.0; high = both.1 }

notes-standing : (docs : List Doc) (place : ℕ) (low : ℤ) (notes : List Note) → pos 0 ≤ℤ low → notes_stand docs place low notes ≡ true
    → AreInOrder note_number note_arrival place low notes × Each (λ note. IsRowNumber note.doc.0 (length docs)) notes
notes-standing docs place low [] from e = (tt, tt)
notes-standing docs place low (note ∷ notes) from e =
    let both = and_parts (note_stands docs place low note) (notes_stand docs (place + 1) note.arrival notes) e in
    let kind = and_parts _ _ both.0 in
    let author = and_parts _ _ kind.0 in
    let this = and_parts _ _ author.0 in
    let here = and_parts _ _ this.0 in
    let moment = follows low note.arrival here.1 in
    let above : pos 0 ≤ℤ note.arrival = omega (arith, ints, moment.0, from) in
    let rest = notes-standing docs (place + 1) note.arrival notes above both.1 in (
      (eqb-true note.num.0 place here.0, moment.0, (above, moment.1), rest.0),
      (within (one-of (λ doc. int_le doc.arrival note.arrival) note.doc.0 docs this.1), rest.1),
    )

-- no query picks a document twice
picks-once : (runs : List RunRow) (docs : List Doc) (earlier : List Pick) (place : ℕ) (before : Option Pick) (picks : List Pick)
    → picks_stand runs docs earlier place before picks ≡ true → PicksAreDistinct earlier picks
picks-once runs docs earlier place before [] e = tt
picks-once runs docs earlier place before (pick ∷ picks) e =
    let both = and_parts (pick_stands runs docs earlier place before pick)
    (picks_stand runs docs (earlier ++ pick ∷ []) (place + 1) (Some pick) picks) e in
    let order = and_parts _ _ both.0 in
    let once = and_parts _ _ order.0 in
    (not-true _ once.1, picks-once runs docs (earlier ++ pick ∷ []) (place + 1) (Some pick) picks both.1)

-- what an engine needs of well formed tables
pub record Formed (tables : Tables) : Type 0 where
  pub docs : FollowInOrder doc_number doc_arrival [] tables.docs
  pub notes : FollowInOrder note_number note_arrival [] tables.notes
  pub on : Each (λ note. IsRowNumber note.doc.0 (length tables.docs)) tables.notes
  pub short : Each (λ doc. length doc.text ≤ 1048576) tables.docs
  pub queries : QueriesFrom 1 tables.queries
  pub moments : Each (λ query. IsMoment query.arrival) tables.queries
  pub runs : RunsFrom 1 tables.runs
  pub times : Each (λ run. IsMoment run.moment) tables.runs
  pub owned : Each (λ run. IsRowNumber run.query.0 (length tables.queries)) tables.runs
  pub picked : Each (λ pick. HasRun pick.run pick.query.0 tables.runs) tables.picks
  pub once : PicksAreDistinct [] tables.picks

pub formed : (tables : Tables) → is_well_formed tables ≡ true → Formed tables
formed tables holds =
    let rows = placed tables holds in
    let f = and_parts _ _ holds in
    let p = and_parts _ _ f.0 in
    let r = and_parts _ _ p.0 in
    let q = and_parts _ _ r.0 in
    let n = and_parts _ _ q.0 in
    let zero-first : pos 0 ≤ℤ pos 0 = omega (arith, ints) in
    let docs = docs-standing 1 (pos 0) tables.docs zero-first n.0 in
    let notes = notes-standing tables.docs 1 (pos 0) tables.notes zero-first n.1 in
    record {
      docs = record { low = pos 0; before = tt; stand = docs.0 };
      notes = record { low = pos 0; before = tt; stand = notes.0 };
      on = notes.1;
      short = docs.1;
      queries = rows.queries;
      moments = rows.arrivals;
      runs = rows.runs;
      times = rows.times;
      owned = each-map (λ run. (1 ≤ run.query.0) × (run.query.0 ≤ length tables.queries))
          (λ run. IsRowNumber run.query.0 (length tables.queries)) tables.runs (λ run owned. within owned) rows.owned;
      picked = rows.picks;
      once = picks-once tables.runs tables.docs [] 1 None tables.picks p.1;
    }
