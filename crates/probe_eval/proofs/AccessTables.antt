-- What an access reaches once all rows have arrived.
use Rattle.std.proofs.Common.{◌≡◌, ℤ, pos, true, refl, map}
use Rattle.std.specs.Prelude.{◌≤ℤ◌, int_le, filter}
use Rattle.tap_rows.specs.declared.tables.Tables.{Tables}
use Rattle.tap_rows.specs.Kept.{Each}
use Rattle.tql_tree.specs.declared.table.Table.{Table}
use Rattle.tql_tree.specs.declared.table.Table.TheVariants.{Docs, Notes}
use Rattle.tql_core.specs.Row.{OfDoc, OfNote, arrival, rows_of}
use Rattle.tql_core.specs.Values.{Env}
use Rattle.row_index.specs.Orders.{doc_arrival, note_arrival, up_to}
use Rattle.access_plan.specs.declared.access.Access.{Access}
use Rattle.access_plan.specs.declared.access.Access.TheVariants.{Whole}
use Rattle.probe_eval.specs.Work.{rows_by, all_rows_by}
use Rattle.probe_eval.proofs.AccessLists.{picked, all_by}
use Rattle.tap_base.specs.Numbers.{IsMoment}

pub docs_by : (last : ℤ) (T : Tables)
    → map OfDoc (up_to doc_arrival last T.docs) ≡ filter (λ row. int_le (arrival row) last) (rows_of Docs T)
docs_by last T = picked OfDoc _ _ T.docs (λ d. refl)

pub notes_by : (last : ℤ) (T : Tables)
    → map OfNote (up_to note_arrival last T.notes) ≡ filter (λ row. int_le (arrival row) last) (rows_of Notes T)
notes_by last T = picked OfNote _ _ T.notes (λ d. refl)

-- if all rows have come, a walk by an access hands out all that it admits
module _ (last : ℤ) (T : Tables) (late : pos 250000000000 ≤ℤ last) (docs : Each (λ doc. IsMoment (doc_arrival doc)) T.docs)
    (notes : Each (λ note. IsMoment (note_arrival note)) T.notes) where
  rows_come : (t : Table) → filter (λ row. int_le (arrival row) last) (rows_of t T) ≡ filter (λ row. true) (rows_of t T)
  rows_come Docs = all_by OfDoc doc_arrival last T.docs (λ d. refl) late docs
  rows_come Notes = all_by OfNote note_arrival last T.notes (λ d. refl) late notes

  pub all_admitted : (a : Access) (env : Env) → rows_by last a env T ≡ all_rows_by a env T
  all_admitted (Whole t) env = rows_come t
  all_admitted a env = refl
