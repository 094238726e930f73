-- What the question for replies costs.
use Rattle.std.specs.Prelude.{ℕ, ◌*◌, ◌≤◌, pos, Some, List, length, filter}
use Rattle.tap_base.specs.declared.numbers.Op.TheVariants.{Eq}
use Rattle.tap_rows.specs.declared.tables.Tables.{Tables}
use Rattle.tap_rows.specs.declared.results.Entry.{Entry}
use Rattle.tap_rows.specs.Kept.{In}
use Rattle.tql_tree.specs.declared.table.Table.TheVariants.{Docs}
use Rattle.tql_core.specs.declared.term.Var.{Var}
use Rattle.tql_core.specs.declared.atom.Atom.TheVariants.{Texts}
use Rattle.tql_core.specs.declared.atom.TextExpr.TheVariants.{Field}
use Rattle.tql_core.specs.declared.atom.TextField.TheVariants.{MsgId, InReplyTo}
use Rattle.tql_core.specs.Condition.{Condition, Plain, Exists}
use Rattle.tql_core.specs.Row.{Row, rows_of}
use Rattle.tql_core.specs.Values.{text_field, both_texts}
use Rattle.time_marks.specs.declared.window.Window.{Window}
use Rattle.time_marks.specs.Distinct.{distinct_probes}
use Rattle.time_marks.specs.Marks.{document_var}
use Rattle.time_marks.specs.Probes.{Probe}
use Rattle.time_marks.specs.Seeks.{seek_of}
use Rattle.row_index.specs.Orders.{in_window, doc_arrival}
use Rattle.access_plan.specs.Orders.{order_of}
use Rattle.probe_eval.specs.Drivers.{seek_var, seek_cost}
use Rattle.delta_rewrite.specs.Delta.{delta_window}
use Rattle.query_form.specs.Form.{form_of}

-- the variable of a reply
abbrev pub reply_var : Var
reply_var = record { 0 = 1 }

-- the query EXISTS (r: DOC WHERE r.inreplyto = m.msgid)
abbrev pub has_reply : Condition
has_reply = Exists reply_var Docs (Plain (Texts (Field reply_var InReplyTo) Eq (Field document_var MsgId)))

-- the documents of a message id
abbrev pub docs_of_id : Tables → List ℕ → List Row
docs_of_id T id = filter (λ row. both_texts Eq (text_field MsgId row) (Some id)) (rows_of Docs T)

-- no two documents have one message id
abbrev pub HasDistinctIds : Tables → Type 0
HasDistinctIds T = (id : List ℕ) → length (docs_of_id T id) ≤ 1

-- the steps that a probe may take in a window
abbrev pub probe_cost : List Entry → Tables → Window → Probe → ℕ
probe_cost entries T w p = seek_cost entries T w p (order_of p.path p.at.base) (seek_of p.at) (seek_var (seek_of p.at))

-- then each probe by which that query runs takes at most two steps for each document that arrived in the window, however many
-- documents there are
abbrev pub RepliesTakeTwoSteps : Type 0
RepliesTakeTwoSteps =
    (entries : List Entry) (T : Tables) (w : Window) (p : Probe) → HasDistinctIds T
    → In p (distinct_probes (delta_window (form_of has_reply) (pos 0)))
    → probe_cost entries T w p ≤ length (in_window doc_arrival w.low w.high T.docs) * 2
