use Rattle.std.proofs.Common.{◌∙◌, ap, take, List}
use Rattle.tap_rows.specs.declared.rows.Doc.{Doc}
use Rattle.tap_rows.specs.declared.tables.Tables.{Tables}
use Rattle.row_index.specs.Rows.{rows_alone}
use Rattle.row_index.proofs.HeldLaws.{held_docs_cut}
use Rattle.row_index.proofs.row_index.RowIndex.cut_docs.Goals as goal

pub invariant_of-self : goal.invariant_of-self
invariant_of-self c = held_docs_cut c.self.inside.docs.items c.cut_docs.new.docs.items c.args.len c.self.inside.places c.cut_docs.new.places
    c.self.inside.notes.items c.self.inside.note_places c.self.invariant c.cut_docs.ensures.stand c.cut_docs.ensures.found
    c.cut_docs.ensures.docs

pub returns : goal.returns
returns c = ap (λ (docs : List Doc). rows_alone docs c.self.inside.notes.items) c.cut_docs.ensures.docs
    ∙ ap (λ (t : Tables). record t { docs = take c.args.len t.docs }) c.self.view_is
