-- The rows that are left of a walk over either table.
use Rattle.std.specs.Prelude.{Option, Some, None, List, [], ◌∷◌, ◌++◌, map, option_to_list, nat_eq}
use Rattle.std.specs.List.{find}
use Rattle.tql_core.specs.declared.row_ref.RowRef.{RowRef}
use Rattle.tql_core.specs.Bindings.{row_of}
use Rattle.tql_core.specs.Row.{Row, OfDoc, OfNote}
use Rattle.probe_eval.specs.declared.row_walk.TableWalk.{TableWalk}
use Rattle.probe_eval.specs.declared.row_walk.TableWalk.TheVariants as W
use Rattle.probe_eval.specs.declared.row_walk.Each.{Each}
use Rattle.probe_eval.specs.declared.row_walk.Left.{Left}
use Rattle.probe_eval.specs.declared.row_walk.Left.TheVariants.{Docs, Notes, One, Each as ByEach, Nothing}
use Rattle.probe_eval.specs.Work.{rows_with_each}

-- those that are left of a walk over one table
abbrev pub table_left : TableWalk → List Row
table_left (W.Docs docs) = map OfDoc docs
table_left (W.Notes notes) = map OfNote notes

-- those that are left of one text, and those of the texts behind it
abbrev pub each_left : Each → List Row
each_left walk = table_left walk.rows ++ rows_with_each walk.field walk.index.now walk.texts.now

abbrev pub rows_left : Left → List Row
rows_left (Docs docs) = map OfDoc docs
rows_left (Notes notes) = map OfNote notes
rows_left (One one) = map OfDoc (option_to_list (find (λ doc. nat_eq doc.num.0 one.num.0) one.index.now.docs))
rows_left (ByEach walk) = each_left walk
rows_left Nothing = []

-- the row that was handed out, or none
abbrev pub row_list : Option RowRef → List Row
row_list None = []
row_list (Some row) = row_of row ∷ []
