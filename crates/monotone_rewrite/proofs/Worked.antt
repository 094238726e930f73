-- Conditions and rows that were worked out by hand, and what the definitions compute for them.
use Rattle.std.proofs.Common.{◌≡◌, ℕ, List, [], ◌∷◌, refl}
use Rattle.std.specs.Prelude.{pos, negsuc}
use Rattle.tap_base.specs.declared.numbers.Op.TheVariants.{Eq, Lt, Le}
use Rattle.tap_rows.specs.declared.rows.Doc.{Doc}
use Rattle.tap_rows.specs.declared.rows.Note.{Note}
use Rattle.tap_rows.specs.declared.tables.Tables.{Tables}
use Rattle.tap_rows.specs.declared.results.Hit.{Hit}
use Rattle.tap_rows.specs.Results.{union_until}
use Rattle.tql_tree.specs.declared.table.Table.TheVariants.{Docs, Notes}
use Rattle.tql_core.specs.declared.term.Var.{Var}
use Rattle.tql_core.specs.declared.term.Base.TheVariants.{Arrival}
use Rattle.tql_core.specs.declared.term.Term.{Term}
use Rattle.tql_core.specs.declared.atom.NumField.TheVariants.{Id, DocOf}
use Rattle.tql_core.specs.declared.atom.NumExpr.TheVariants.{Field}
use Rattle.tql_core.specs.declared.atom.Atom.{Atom}
use Rattle.tql_core.specs.declared.atom.Atom.TheVariants.{Numbers, Times}
use Rattle.tql_core.specs.Condition.{Condition, Always, Plain, NowAtLeast, NowBefore, All, Either, Not, Exists}
use Rattle.tql_core.specs.Holds.{truth_of}
use Rattle.time_marks.specs.declared.window.Window.{Window}
use Rattle.time_marks.specs.Marks.{document_var}
use Rattle.time_marks.specs.Probes.{window_meaning}
use Rattle.monotone_rewrite.specs.Query.{window}

abbrev doc : ℕ → ℕ → Doc
doc n a = record { num = record { 0 = n }; arrival = pos a; text = [] }

abbrev note : ℕ → ℕ → ℕ → Note
note n d a = record { num = record { 0 = n }; doc = record { 0 = d }; author = []; kind = []; value = pos 1; arrival = pos a; text = [] }

abbrev rows : List Doc → List Note → Tables
rows ds ns = record { docs = ds; notes = ns; queries = []; runs = []; picks = []; filters = [] }

abbrev v1 : Var
v1 = record { 0 = 1 }

abbrev p1 : Var
p1 = record { 0 = 9 }

abbrev ts : Var → ℕ → Term
ts v n = record { base = Arrival v; plus = pos n }

abbrev hit : ℕ → ℕ → Hit
hit d s = record { doc = record { 0 = d }; first = pos s }

abbrev until : ℕ → Window
until t = record { low = pos 0; high = pos t }

-- between 3 and 6 seconds after its arrival
abbrev between : Condition
between = All (NowAtLeast (ts document_var 3)) (NowBefore (ts document_var 6))

between-union : union_until (truth_of between) (rows (doc 1 100 ∷ []) []) (pos 0) (pos 200) ≡ hit 1 103 ∷ []
between-union = refl

between-probes : window between (pos 0)
    ≡ record { path = record { var = document_var; table = Docs; guards = [] } ∷ []; at = ts document_var 3; body = Always } ∷ []
between-probes = refl

-- once before and once after: the first second counts
either-union : union_until (truth_of (Either (NowBefore (ts document_var 2)) (NowAtLeast (ts document_var 10)))) (rows (doc 1 100 ∷ []) [])
    (pos 0) (pos 200) ≡ hit 1 100 ∷ []
either-union = refl

abbrev of_doc : Var → Atom
of_doc v = Numbers (Field v DocOf) Eq (Field document_var Id)

-- no note on it arrived less than 5 seconds ago
abbrev unnoted : Condition
unnoted = Not (Exists v1 Notes (All (Plain (of_doc v1)) (NowBefore (ts v1 5))))

unnoted-union : union_until (truth_of unnoted) (rows (doc 1 100 ∷ []) (note 1 1 100 ∷ [])) (pos 0) (pos 200) ≡ hit 1 105 ∷ []
unnoted-union = refl

unnoted-window : window_meaning (window unnoted (pos 0)) (rows (doc 1 100 ∷ []) (note 1 1 100 ∷ [])) (until 200) ≡ hit 1 105 ∷ []
unnoted-window = refl

unnoted-probes : window unnoted (pos 0)
    ≡ record {
      path = record { var = document_var; table = Docs; guards = [] } ∷ [];
      at = ts document_var 0;
      body = Not (Exists v1 Notes (All (Plain (Times (ts v1 0) Le (ts document_var 0)))
          (All (Plain (of_doc v1)) (Plain (Times (ts document_var 0) Lt (ts v1 5))))));
    }
    ∷ record {
      path = record { var = document_var; table = Docs; guards = [] } ∷ record { var = p1; table = Notes; guards = of_doc p1 ∷ [] }
          ∷ [];
      at = ts p1 5;
      body = Not
          (Exists v1 Notes (All (Plain (Times (ts v1 0) Le (ts p1 5))) (All (Plain (of_doc v1)) (Plain (Times (ts p1 5) Lt (ts v1 5))))));
    }
    ∷ []
unnoted-probes = refl

-- if a document came before second 0, a query without a start would miss it
abbrev early : Doc
early = record { num = record { 0 = 1 }; arrival = negsuc 4; text = [] }

early-union : union_until (truth_of Always) (rows (early ∷ []) []) (pos 0) (pos 9) ≡ hit 1 0 ∷ []
early-union = refl

early-window : window_meaning (window Always (pos 0)) (rows (early ∷ []) []) (until 9) ≡ []
early-window = refl
