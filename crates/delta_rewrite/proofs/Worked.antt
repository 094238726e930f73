-- Delta windows that were worked out by hand, and what the definitions compute for them.
use Rattle.std.proofs.Common.{◌≡◌, ℕ, [], ◌∷◌, refl}
use Rattle.std.specs.Prelude.{pos}
use Rattle.tap_base.specs.declared.numbers.Op.TheVariants.{Eq, Le, Ge}
use Rattle.tap_rows.specs.declared.rows.Doc.{Doc}
use Rattle.tap_rows.specs.declared.rows.Note.{Note}
use Rattle.tap_rows.specs.declared.tables.Tables.{Tables}
use Rattle.tap_rows.specs.declared.results.Hit.{Hit}
use Rattle.tap_rows.specs.Results.{union_until}
use Rattle.tql_tree.specs.declared.table.Table.TheVariants.{Docs, Notes}
use Rattle.tql_core.specs.declared.term.Var.{Var}
use Rattle.tql_core.specs.declared.term.Base.TheVariants.{Arrival}
use Rattle.tql_core.specs.declared.term.Term.{Term}
use Rattle.tql_core.specs.declared.atom.NumField.TheVariants.{Id, DocOf}
use Rattle.tql_core.specs.declared.atom.NumExpr.TheVariants.{Field}
use Rattle.tql_core.specs.declared.atom.Atom.{Atom}
use Rattle.tql_core.specs.declared.atom.Atom.TheVariants.{Numbers, Times}
use Rattle.tql_core.specs.Condition.{Condition, Always, Plain, NowAtLeast, All, Not, Exists}
use Rattle.tql_core.specs.Holds.{truth_of}
use Rattle.time_marks.specs.declared.mark.Step.{Step}
use Rattle.time_marks.specs.Marks.{document_var}
use Rattle.time_marks.specs.Probes.{window_meaning}
use Rattle.delta_rewrite.specs.Delta.{delta_window}

abbrev v1 : Var
v1 = record { 0 = 1 }

abbrev v2 : Var
v2 = record { 0 = 2 }

-- the path copies
abbrev p1 : Var
p1 = record { 0 = 9 }

abbrev p2 : Var
p2 = record { 0 = 10 }

abbrev ts : Var → ℕ → Term
ts v n = record { base = Arrival v; plus = pos n }

abbrev of_doc : Var → Atom
of_doc v = Numbers (Field v DocOf) Eq (Field document_var Id)

abbrev asked_step : Step
asked_step = record { var = document_var; table = Docs; guards = [] }

abbrev note_step : Var → Step
note_step v = record { var = v; table = Notes; guards = of_doc v ∷ [] }

-- there is a note on it that is 5 seconds old: the note's row is asked for nothing more than its guard
abbrev noted : Condition
noted = Exists v1 Notes (All (Plain (of_doc v1)) (NowAtLeast (ts v1 5)))

noted-probes : delta_window noted (pos 0)
    ≡ record {
      path = asked_step ∷ [];
      at = ts document_var 0;
      body = Exists v1 Notes (All (Plain (Times (ts v1 0) Le (ts document_var 0)))
          (All (Plain (of_doc v1)) (Plain (Times (ts document_var 0) Ge (ts v1 5)))));
    }
    ∷ record { path = asked_step ∷ note_step p1 ∷ []; at = ts p1 5; body = Always }
    ∷ []
noted-probes = refl

abbrev doc : ℕ → ℕ → Doc
doc n a = record { num = record { 0 = n }; arrival = pos a; text = [] }

abbrev note : ℕ → ℕ → ℕ → Note
note n d a = record { num = record { 0 = n }; doc = record { 0 = d }; author = []; kind = []; value = pos 1; arrival = pos a; text = [] }

abbrev rows : Tables
rows = record {
  docs = doc 1 100 ∷ doc 2 110 ∷ [];
  notes = note 1 1 120 ∷ note 2 1 130 ∷ [];
  queries = [];
  runs = [];
  picks = [];
  filters = [];
}

abbrev hit : ℕ → ℕ → Hit
hit d s = record { doc = record { 0 = d }; first = pos s }

noted-union : union_until (truth_of noted) rows (pos 0) (pos 200) ≡ hit 1 125 ∷ []
noted-union = refl

noted-window : window_meaning (delta_window noted (pos 0)) rows (record { low = pos 0; high = pos 200 }) ≡ hit 1 125 ∷ []
noted-window = refl

abbrev differ : Var → Var → Condition
differ v w = Not (Plain (Numbers (Field v Id) Eq (Field w Id)))

abbrev by_then : Var → Var → Condition
by_then v w = Plain (Times (ts v 0) Le (ts w 0))

-- two notes on it: the first one's row is asked for a second one that has come by then, and the second one's row for a first one
abbrev twice : Condition
twice = Exists v1 Notes (All (Plain (of_doc v1)) (Exists v2 Notes (All (Plain (of_doc v2)) (differ v1 v2))))

twice-probes : delta_window twice (pos 0)
    ≡ record {
      path = asked_step ∷ [];
      at = ts document_var 0;
      body = Exists v1 Notes (All (by_then v1 document_var) (All (Plain (of_doc v1))
          (Exists v2 Notes (All (by_then v2 document_var) (All (Plain (of_doc v2)) (differ v1 v2))))));
    }
    ∷ record {
      path = asked_step ∷ note_step p1 ∷ [];
      at = ts p1 0;
      body = Exists v2 Notes (All (by_then v2 p1) (All (Plain (of_doc v2)) (differ p1 v2)));
    }
    ∷ record {
      path = asked_step ∷ note_step p1 ∷ note_step p2 ∷ [];
      at = ts p2 0;
      body = Exists v1 Notes (All (by_then v1 p2) (All (Plain (of_doc v1)) (differ v1 p2)));
    }
    ∷ []
twice-probes = refl

twice-union : union_until (truth_of twice) rows (pos 0) (pos 200) ≡ hit 1 130 ∷ []
twice-union = refl

twice-window : window_meaning (delta_window twice (pos 0)) rows (record { low = pos 0; high = pos 200 }) ≡ hit 1 130 ∷ []
twice-window = refl
