-- What a look-up of stored rows shows.
use Rattle.std.specs.Prelude.{ℕ, ℤ, List, [], ◌∷◌, length, map, filter, find, nat_eq, Option, Some, None}
use Rattle.tap_rows.specs.declared.tables.Tables.{Tables}
use Rattle.tap_rows.specs.declared.rows.Doc.{Doc}
use Rattle.tap_rows.specs.declared.rows.Note.{Note}
use Rattle.tap_rows.specs.declared.rows.QueryRow.{QueryRow}
use Rattle.tap_rows.specs.Results.{last_or, run_moments}
use Rattle.mail_fields.specs.Digests.{lined}
use Rattle.script_lang.specs.declared.lookup.Lookup.{Lookup}
use Rattle.script_lang.specs.declared.lookup.Lookup.TheVariants.{ShowDoc, ListNotes, ListQueries, Count}
use Rattle.script_lang.specs.declared.lookup.Found.TheVariants.{DocText, DocNotes, UserQueries, Counts}
use Rattle.script_lang.specs.declared.refusal.Refusal.TheVariants.{NoDoc}
use Rattle.script_lang.specs.declared.reply.Reply.{Reply}
use Rattle.script_lang.specs.declared.reply.Reply.TheVariants.{Found, No}
use Rattle.script_lang.specs.declared.rows.QueryState.{QueryState}
use Rattle.script_lang.specs.Rows.{note_text, query_text}
use Rattle.restart_core.specs.Starts.{condition_text}
use Rattle.tap_model.specs.declared.session.Session.{Session}
use Rattle.tap_model.specs.Sessions.{or_zero, user_of, last_moment}
use Rattle.tap_model.specs.Queries.{start_of, box_of_query, owned_queries}

-- the document of this number, if there is one
abbrev pub doc_numbered : ℕ → List Doc → Option Doc
doc_numbered num docs = find (λ doc. nat_eq doc.num.0 num) docs

-- the notes on the document of this number, in order
abbrev pub notes_on : ℕ → List Note → List Note
notes_on num notes = filter (λ note. nat_eq note.doc.0 num) notes

-- the last of some moments, if there is one
abbrev pub last_of : List ℤ → Option ℤ
last_of [] = None
last_of (m ∷ ms) = Some (last_or m ms)

-- what a line shows of a query: its arrival, its start, how many runs it had, the last of their moments, and how many entries its
-- box has
abbrev pub state_of : Tables → QueryRow → QueryState
state_of tables query = record {
  arrival = query.arrival;
  start = start_of query;
  runs = length (run_moments query.num.0 tables.runs);
  last = last_of (run_moments query.num.0 tables.runs);
  boxed = length (box_of_query query tables);
}

-- the line of a query: its name, what is known of it, and the text of its condition
abbrev pub query_line : Tables → QueryRow → List ℕ
query_line tables query = query_text query.name (state_of tables query) (condition_text query.source)

-- the lines of a document's text, if there is one
abbrev pub shown_doc : ℕ → Option Doc → Reply
shown_doc num None = No NoDoc
shown_doc num (Some doc) = Found (DocText num doc.arrival) (lined doc.text)

-- what a look-up shows: the lines of a document, the lines of the notes on it, those of the user's queries, or counts with the
-- least moment that `at` accepts
abbrev pub lookup_reply : Lookup → Session → Tables → Reply
lookup_reply (ShowDoc num) session tables = shown_doc num (doc_numbered num tables.docs)
lookup_reply (ListNotes num) session tables = Found (DocNotes num) (map note_text (notes_on num tables.notes))
lookup_reply ListQueries session tables = Found UserQueries (map (query_line tables) (owned_queries (user_of session) tables))
lookup_reply Count session tables = Found (Counts (length tables.docs) (length tables.notes) (or_zero (last_moment session tables))) []
