-- What a command does: its reply, the session after it, and the rows that it adds.
use Rattle.std.specs.Prelude.{ℕ, ◌+◌, ℤ, List, [], ◌∷◌, length, map, filter, ◌==◌, Option, Some, None}
use Rattle.tap_base.specs.Numbers.{moment_of}
use Rattle.tap_rows.specs.declared.change.Change.{Change}
use Rattle.tap_rows.specs.declared.change.Change.TheVariants.{Docs, OneNote, OneQuery, OneFilter}
use Rattle.tap_rows.specs.declared.rows.Doc.{Doc}
use Rattle.tap_rows.specs.declared.rows.Note.{Note}
use Rattle.tap_rows.specs.declared.rows.QueryRow.{QueryRow}
use Rattle.tap_rows.specs.declared.rows.FilterRow.{FilterRow}
use Rattle.tap_rows.specs.declared.results.Entry.{Entry}
use Rattle.tap_rows.specs.declared.tables.Tables.{Tables}
use Rattle.tap_rows.specs.Tables.{after}
use Rattle.tap_rows.specs.Results.{run_moments, snapshot}
use Rattle.tap_rows.specs.Deliveries.{run_change}
use Rattle.tql_core.specs.Holds as Holds
use Rattle.script_lang.specs.declared.command.Command.{Command}
use Rattle.script_lang.specs.declared.command.Command.TheVariants.{At, AsUser, Mail, Mbox, AddNote, Define, Run, BoxOf, ListOf, Filter}
use Rattle.script_lang.specs.declared.command.Command.TheVariants.{Explain, Ask, Wake}
use Rattle.script_lang.specs.declared.command.Command.TheVariants.{ScoresOf, DigestOf, Find, Bad}
use Rattle.script_lang.specs.declared.lookup.Lookup.{Lookup}
use Rattle.script_lang.specs.declared.refusal.Refusal.{Refusal}
use Rattle.script_lang.specs.declared.refusal.Refusal.TheVariants.{BadMoment, NoQuery}
use Rattle.script_lang.specs.declared.reply.Reply.{Reply}
use Rattle.script_lang.specs.declared.reply.Reply.TheVariants.{At as SetAt, AsUser as SetUser, OneDoc, OneNote as NoteAdded, Defined, Ran}
use Rattle.script_lang.specs.declared.reply.Reply.TheVariants.{BoxOf as Boxed}
use Rattle.script_lang.specs.declared.reply.Reply.TheVariants.{ListOf as Listing, Filter as FilterAdded, Explain as Explained, Asked, No}
use Rattle.script_lang.specs.declared.reply.Reply.TheVariants.{Docs as DocsAdded}
use Rattle.script_lang.specs.declared.reply.Reply.TheVariants.{Wake as Woken, ScoresOf as Scored, DigestOf as Digest}
use Rattle.tap_model.specs.declared.session.Session.{Session}
use Rattle.tap_model.specs.Sessions.{moment_or_zero, user_of}
use Rattle.tap_model.specs.Queries.{condition_in, query_truth, start_of, query_named, hits_of, box_of_query, lines_of}
use Rattle.tap_model.specs.Wakes.{wake_moment}
use Rattle.tap_model.specs.Lookups.{lookup_reply}
use Rattle.filter_rules.specs.Listings.{listing_of}
use Rattle.tap_rows.specs.Votes.{scores_of}
use Rattle.mail_fields.specs.Digests.{digested, digest_lines}
use Rattle.tap_model.specs.Filters.{rules_in_text, rules_of_user}
use Rattle.restart_core.specs.Starts.{stored_source}
use Rattle.tap_model.specs.Verdicts.{block_text, messages_of, verdict}

-- a command's reply, the session after it, and the rows that it adds
pub record Answer : Type 0 where
  pub reply : Reply
  pub session : Session
  pub change : Option Change

-- the answer of a refused command, which changes nothing
abbrev pub refused : Refusal → Session → Answer
refused refusal session = record { reply = No refusal; session = session; change = None }

-- `at`: the session has this moment
abbrev pub set_moment : Option ℤ → Session → Answer
set_moment None session = refused BadMoment session
set_moment (Some second) session = record { reply = SetAt second; session = record session { moment = Some second }; change = None }

-- `as`: the session has this user
abbrev pub set_user : List ℕ → Session → Answer
set_user name session = record { reply = SetUser name; session = record session { user = Some name }; change = None }

-- the next document
abbrev pub next_doc : Tables → ℤ → List ℕ → Doc
next_doc tables moment text = record { num = record { 0 = length tables.docs + 1 }; arrival = moment; text = text }

-- `mail`: a document with this text
abbrev pub add_mail : List ℕ → Session → Tables → Answer
add_mail text session tables = record {
  reply = OneDoc (record { 0 = length tables.docs + 1 });
  session = session;
  change = Some (Docs (next_doc tables (moment_or_zero session) text ∷ []));
}

-- documents with these texts, numbered from this one on
abbrev pub docs_from : ℕ → ℤ → List (List ℕ) → List Doc
docs_from num moment [] = []
docs_from num moment (text ∷ texts) = record { num = record { 0 = num }; arrival = moment; text = text } ∷ docs_from (num + 1) moment texts

-- the documents of a mailbox file, numbered on
abbrev pub next_docs : Tables → ℤ → List (List ℕ) → List Doc
next_docs tables moment texts = docs_from (length tables.docs + 1) moment texts

-- documents as a change; no documents are no change
abbrev pub some_docs : List Doc → Option Change
some_docs [] = None
some_docs (doc ∷ docs) = Some (Docs (doc ∷ docs))

-- `mbox`: documents with these texts, all in one change
abbrev pub add_mbox : List (List ℕ) → Session → Tables → Answer
add_mbox texts session tables = record {
  reply = DocsAdded (length texts) (length tables.docs + 1);
  session = session;
  change = some_docs (next_docs tables (moment_or_zero session) texts);
}

-- the next query
abbrev pub next_query : Tables → Session → List ℕ → List ℕ → QueryRow
next_query tables session name source =
    record {
      num = record { 0 = length tables.queries + 1 };
      owner = user_of session;
      name = name;
      source = source;
      arrival = moment_or_zero session;
    }

-- `query`: a query of the user
abbrev pub add_query : List ℕ → List ℕ → Session → Tables → Answer
add_query name source session tables = record {
  reply = Defined name;
  session = session;
  change = Some (OneQuery (next_query tables session name (stored_source source)));
}

-- the next note
abbrev pub next_note : Tables → Session → ℕ → List ℕ → ℤ → List ℕ → Note
next_note tables session doc kind value text = record {
  num = record { 0 = length tables.notes + 1 };
  doc = record { 0 = doc };
  author = user_of session;
  kind = kind;
  value = value;
  arrival = moment_or_zero session;
  text = text;
}

-- `note`: a note of the user on this document
abbrev pub add_note : ℕ → List ℕ → ℤ → List ℕ → Session → Tables → Answer
add_note doc kind value text session tables = record {
  reply = NoteAdded (record { 0 = length tables.notes + 1 });
  session = session;
  change = Some (OneNote (next_note tables session doc kind value text));
}

-- `run`: a run of this query, with its ordinal, the moment and what it delivers
abbrev pub run_query : Option QueryRow → Session → Tables → Answer
run_query None session tables = refused NoQuery session
run_query (Some query) session tables = record {
  reply = Ran (length (run_moments query.num.0 tables.runs) + 1) (moment_or_zero session) (hits_of query tables (moment_or_zero session));
  session = session;
  change = Some (run_change (query_truth query) (start_of query) tables query.num (moment_or_zero session));
}

-- `box`: the box of this query
abbrev pub show_box : Option QueryRow → List ℕ → Session → Tables → Answer
show_box None name session tables = refused NoQuery session
show_box (Some query) name session tables = record { reply = Boxed name (box_of_query query tables); session = session; change = None }

-- `list`: the box of this query in the order of its documents' ratings by the user's rules
abbrev pub show_list : Option QueryRow → List ℕ → Session → Tables → Answer
show_list None name session tables = refused NoQuery session
show_list (Some query) name session tables = record {
  reply = Listing name (listing_of (rules_of_user (user_of session) tables) tables.docs (box_of_query query tables));
  session = session;
  change = None;
}

-- `explain`: the window query of this query, one line for each probe
abbrev pub show_lines : Option QueryRow → List ℕ → Session → Tables → Answer
show_lines None name session tables = refused NoQuery session
show_lines (Some query) name session tables = record { reply = Explained name (lines_of query); session = session; change = None }

-- the next filter
abbrev pub next_filter : Tables → Session → List ℕ → FilterRow
next_filter tables session source =
    record { num = length tables.filters + 1; owner = user_of session; source = source; arrival = moment_or_zero session }

-- `filter`: a filter of the user with this text
abbrev pub add_filter : List ℕ → Session → Tables → Answer
add_filter source session tables = record {
  reply = FilterAdded (length (rules_in_text source));
  session = session;
  change = Some (OneFilter (next_filter tables session source));
}

-- the answer to a question about a past second
abbrev pub ask_at : Option ℤ → List ℕ → Session → Tables → Answer
ask_at None source session tables = refused BadMoment session
ask_at (Some second) source session tables = record {
  reply = Asked second (map (λ doc. doc.num) (snapshot (Holds.truth_of (condition_in source)) tables second));
  session = session;
  change = None;
}

-- `wake`: the earliest moment from now on at which a run of this query delivers
abbrev pub show_wake : Option QueryRow → List ℕ → Session → Tables → Answer
show_wake None name session tables = refused NoQuery session
show_wake (Some query) name session tables = record {
  reply = Woken name (wake_moment query tables (moment_or_zero session));
  session = session;
  change = None;
}

-- `scores`: the votes of this kind, added up for each document
abbrev pub show_scores : List ℕ → Session → Tables → Answer
show_scores kind session tables = record { reply = Scored kind (scores_of kind tables); session = session; change = None }

-- the entries of one run of a query, from its box
abbrev pub entries_in_run : ℕ → List Entry → List Entry
entries_in_run ordinal entries = filter (λ entry. entry.run == ordinal) entries

-- `digest`: the documents that a run of this query delivered, as the lines of one message
abbrev pub show_digest : Option QueryRow → List ℕ → ℕ → Session → Tables → Answer
show_digest None name ordinal session tables = refused NoQuery session
show_digest (Some query) name ordinal session tables = record {
  reply = Digest name ordinal (digest_lines name ordinal (digested tables.docs (entries_in_run ordinal (box_of_query query tables))));
  session = session;
  change = None;
}

-- a look-up: stored rows are shown, and nothing changes
abbrev pub look_up : Lookup → Session → Tables → Answer
look_up lookup session tables = record { reply = lookup_reply lookup session tables; session = session; change = None }

-- the answer to a command that is accepted
abbrev pub accepted : Command → Session → Tables → Answer
accepted (At text) session tables = set_moment (moment_of text) session
accepted (AsUser name) session tables = set_user name session
accepted (Mail block) session tables = add_mail (block_text block) session tables
accepted (Define name source) session tables = add_query name source session tables
accepted (Run name) session tables = run_query (query_named (user_of session) name tables) session tables
accepted (BoxOf name) session tables = show_box (query_named (user_of session) name tables) name session tables
accepted (Bad refusal) session tables = refused refusal session
accepted (Mbox block) session tables = add_mbox (messages_of block) session tables
accepted (AddNote doc kind value text) session tables = add_note doc kind value text session tables
accepted (ListOf name) session tables = show_list (query_named (user_of session) name tables) name session tables
accepted (Filter block) session tables = add_filter (block_text block) session tables
accepted (Explain name) session tables = show_lines (query_named (user_of session) name tables) name session tables
accepted (Ask moment source) session tables = ask_at (moment_of moment) source session tables
accepted (Wake name) session tables = show_wake (query_named (user_of session) name tables) name session tables
accepted (ScoresOf kind) session tables = show_scores kind session tables
accepted (DigestOf name ordinal) session tables = show_digest (query_named (user_of session) name tables) name ordinal session tables
accepted (Find lookup) session tables = look_up lookup session tables

-- the answer to a command with this verdict
abbrev pub answer_by : Option Refusal → Command → Session → Tables → Answer
answer_by (Some refusal) command session tables = refused refusal session
answer_by None command session tables = accepted command session tables

-- a command's reply, the session after it, and the rows that it adds
abbrev pub answer_of : Command → Session → Tables → Answer
answer_of command session tables = answer_by (verdict command session tables) command session tables

-- the tables after a change, if there is one
abbrev pub tables_after : Option Change → Tables → Tables
tables_after None tables = tables
tables_after (Some change) tables = after tables change
