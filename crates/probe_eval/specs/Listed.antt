-- Probes that compare one text of the query's document with a literal and ask for nothing else: a posting list has what they find.
use Rattle.std.specs.Prelude.{ℤ, Bool, true, false, ◌&&◌, Option, Some, None, is_some, List, [], ◌∷◌, nat_eq, int_le, option_to_list}
use Rattle.tap_rows.specs.declared.results.Entry.{Entry}
use Rattle.tap_rows.specs.declared.results.Hit.{Hit}
use Rattle.tql_tree.specs.declared.table.Table.{Table}
use Rattle.tql_tree.specs.declared.table.Table.TheVariants.{Docs, Notes}
use Rattle.tql_core.specs.declared.term.Var.{Var}
use Rattle.tql_core.specs.declared.atom.Atom.{Atom}
use Rattle.tql_core.specs.contracts.atom.AtomPartialEq.TheImpl as atom
use Rattle.tql_core.specs.Condition.{Condition, Always, Plain}
use Rattle.tql_core.specs.Row.{Row, OfDoc, OfNote}
use Rattle.tql_core.specs.Values.{bind, value}
use Rattle.time_marks.specs.declared.mark.Step.{Step}
use Rattle.time_marks.specs.declared.seek.Seek.{Seek}
use Rattle.time_marks.specs.declared.seek.Seek.TheVariants.{Arrived, ArrivedDay}
use Rattle.time_marks.specs.declared.window.Window.{Window}
use Rattle.time_marks.specs.Probes.{Probe}
use Rattle.probe_eval.specs.Literals.{literal_kind}
use Rattle.probe_eval.specs.Nested.{hit_if, new_doc}
use Rattle.probe_eval.specs.Drivers.{mark_in}

-- do rows drive a probe by their arrival?
abbrev pub is_by_arrival : Seek → Bool
is_by_arrival (Arrived v n) = true
is_by_arrival (ArrivedDay v n) = true
is_by_arrival _ = false

-- are the rows documents?
abbrev pub is_docs : Table → Bool
is_docs Docs = true
is_docs Notes = false

-- is the body true of each row of which the guard is? It is the guard itself, or always true
abbrev pub is_implied : Atom → Condition → Bool
is_implied a Always = true
is_implied a (Plain b) = atom.ghosts.eq a b
is_implied a _ = false

-- is the variable the query's document, and the guard a comparison of a text of it with a literal?
abbrev pub asks_literal : Var → Step → Atom → Bool
asks_literal v step a = ((is_docs step.table && nat_eq step.var.0 0) && nat_eq v.0 0) && is_some (literal_kind v a)

-- is the step's only guard such a comparison, which implies the body?
abbrev pub guard_goes_by_list : Var → Condition → Step → List Atom → Bool
guard_goes_by_list v body step [] = false
guard_goes_by_list v body step (a ∷ []) = asks_literal v step a && is_implied a body
guard_goes_by_list v body step (a ∷ b ∷ guards) = false

-- has the path one step, and its only guard is such a comparison?
abbrev pub path_goes_by_list : Var → Condition → List Step → Bool
path_goes_by_list v body [] = false
path_goes_by_list v body (step ∷ []) = guard_goes_by_list v body step step.guards
path_goes_by_list v body (step ∷ other ∷ path) = false

-- is the probe driven by the arrival of its document, and asks it one text of it to be a literal, or a list of it to have one, by
-- which the index has a list, and nothing else?
abbrev pub goes_by_list : Probe → Seek → Var → Bool
goes_by_list p seek v = is_by_arrival seek && path_goes_by_list v p.body p.path

module _ (entries : List Entry) where
  -- the hit of a document with the mark b, if the mark isn't before it and it isn't in the box
  abbrev pub listed_hit : ℤ → Row → List Hit
  listed_hit b (OfDoc d) = option_to_list (hit_if (int_le d.arrival b) b (new_doc entries d))
  listed_hit b (OfNote n) = []

  -- the hit of a row with this mark, if it has one
  abbrev pub marked_hit : Row → Option ℤ → List Hit
  marked_hit row None = []
  marked_hit row (Some b) = listed_hit b row

  -- the hit of a row that is walked, if its mark lies in the window
  abbrev pub listed_hits : Window → Probe → Var → Row → List Hit
  listed_hits w p v row = marked_hit row (mark_in w (value p.at (bind v row [])))
