-- Guards that compare a text of a driving document with a literal: the index has a posting list under it.
use Rattle.std.specs.Prelude.{ℕ, Option, Some, None, is_some, List, [], length, filter, fold, nat_eq, nat_lt, if◌then◌else◌}
use Rattle.tap_base.specs.declared.numbers.Op.TheVariants.{Eq}
use Rattle.tap_rows.specs.declared.tables.Tables.{Tables}
use Rattle.tql_tree.specs.declared.table.Table.{Table}
use Rattle.tql_tree.specs.declared.table.Table.TheVariants.{Docs}
use Rattle.tql_core.specs.declared.term.Var.{Var}
use Rattle.tql_core.specs.declared.atom.TextExpr.TheVariants.{Literal, Field}
use Rattle.tql_core.specs.declared.atom.Atom.{Atom}
use Rattle.tql_core.specs.declared.atom.Atom.TheVariants.{Texts, Has}
use Rattle.tql_core.specs.Row.{Row}
use Rattle.tql_core.specs.Values.{bind, true_atom}
use Rattle.row_index.specs.declared.text_kind.TextKind.{TextKind}
use Rattle.row_index.specs.Texts.{texts_of, with_text}
use Rattle.time_marks.specs.declared.mark.Step.{Step}
use Rattle.time_marks.specs.declared.seek.Seek.{Seek}
use Rattle.time_marks.specs.declared.seek.Seek.TheVariants.{Arrived, ArrivedDay}
use Rattle.probe_eval.specs.Kinds.{field_kind, of_docs, list_kind}

-- the kind, if the field is one of the variable
abbrev pub kind_if : Var → Var → Option TextKind → Option TextKind
kind_if v u kind = if nat_eq u.0 v.0 then kind else None

-- the kind of text that a guard asks of the variable's document by a literal, if the index finds documents by it
abbrev pub literal_kind : Var → Atom → Option TextKind
literal_kind v (Texts (Field u f) Eq (Literal t)) = kind_if v u (of_docs (field_kind f))
literal_kind v (Texts (Literal t) Eq (Field u f)) = kind_if v u (of_docs (field_kind f))
literal_kind v (Has u f (Literal t)) = kind_if v u (Some (list_kind f))
literal_kind v _ = None

-- the literal of such a guard
abbrev pub literal_of : Atom → List ℕ
literal_of (Texts (Field u f) op (Literal t)) = t
literal_of (Texts (Literal t) op (Field u f)) = t
literal_of (Has u f (Literal t)) = t
literal_of _ = []

module _ (T : Tables) (v : Var) where
  abbrev pub kind_length : Atom → Option TextKind → ℕ
  kind_length a None = 0
  kind_length a (Some kind) = length (with_text (texts_of kind) (literal_of a) T.docs)

  -- how many documents the posting list has under the guard's literal
  abbrev pub list_length : Atom → ℕ
  list_length a = kind_length a (literal_kind v a)

  -- of two guards that of the shorter posting list, of equal ones the first
  abbrev pub shorter : Option Atom → Atom → Option Atom
  shorter None a = Some a
  shorter (Some b) a = if nat_lt (list_length a) (list_length b) then Some a else Some b

  -- the same, if the second has a posting list
  abbrev pub rarer : Option Atom → Atom → Option Atom
  rarer best a = if is_some (literal_kind v a) then shorter best a else best

  -- of the guards of a path by a literal that of the shortest posting list, if there is one
  abbrev pub rarest : List Step → Option Atom
  rarest path = fold (λ best step. fold rarer best step.guards) None path

  -- the guard whose posting list drives a probe: documents are found by it if they drive by their arrival
  abbrev pub chosen : List Step → Seek → Table → Option Atom
  chosen path (Arrived u n) Docs = rarest path
  chosen path (ArrivedDay u n) Docs = rarest path
  chosen path _ _ = None

-- the rows of which the guard is true, if there is one
abbrev pub rows_where : Var → Option Atom → List Row → List Row
rows_where v None rows = rows
rows_where v (Some a) rows = filter (λ row. true_atom a (bind v row [])) rows
