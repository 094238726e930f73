-- What the statements that insert rows mean.
use Rattle.std.proofs.Common.{◌≡◌, [], ◌∷◌, List, refl}
use Rattle.sqlite_value.specs.declared.value.Value.TheVariants.{Null}
use Rattle.sqlite_sql.specs.Term.{Term, lit, col}
use Rattle.sqlite_tied.specs.Compute.{everything}
use Rattle.sqlite.specs.Listing.{understood}
use Rattle.sqlite.proofs.Callers.{IsPlain, command_of}
use Rattle.sqlite_schema.specs.declared.command.Command.TheVariants.{Insert}
use Rattle.sqlite_schema.specs.declared.command.Source.TheVariants.{Values}
use Rattle.keeper_sql.specs.Schema.{store_schema, insert_doc, insert_note, insert_query, insert_run, insert_pick, insert_eight}
use Rattle.keeper_sql.specs.Schema.{insert_filter}

abbrev pub doc_terms : List Term
doc_terms = col 0 0 ∷ lit Null ∷ col 0 1 ∷ col 0 2 ∷ []

pub doc_inserted : command_of (understood store_schema insert_doc) ≡ Insert 1 (Values doc_terms 4)
unfolding understood everything
doc_inserted = refl

pub doc_plain : IsPlain (understood store_schema insert_doc)
unfolding understood everything
doc_plain = (refl, refl)

abbrev pub note_terms : List Term
note_terms = col 0 0 ∷ lit Null ∷ col 0 1 ∷ col 0 2 ∷ col 0 3 ∷ col 0 4 ∷ col 0 5 ∷ col 0 6 ∷ []

pub note_inserted : command_of (understood store_schema insert_note) ≡ Insert 2 (Values note_terms 8)
unfolding understood everything
note_inserted = refl

pub note_plain : IsPlain (understood store_schema insert_note)
unfolding understood everything
note_plain = (refl, refl)

abbrev pub query_terms : List Term
query_terms = col 0 0 ∷ lit Null ∷ col 0 1 ∷ col 0 2 ∷ col 0 3 ∷ col 0 4 ∷ []

pub query_inserted : command_of (understood store_schema insert_query) ≡ Insert 3 (Values query_terms 6)
unfolding understood everything
query_inserted = refl

pub query_plain : IsPlain (understood store_schema insert_query)
unfolding understood everything
query_plain = (refl, refl)

abbrev pub run_terms : List Term
run_terms = col 0 0 ∷ lit Null ∷ col 0 1 ∷ col 0 2 ∷ []

pub run_inserted : command_of (understood store_schema insert_run) ≡ Insert 4 (Values run_terms 4)
unfolding understood everything
run_inserted = refl

pub run_plain : IsPlain (understood store_schema insert_run)
unfolding understood everything
run_plain = (refl, refl)

abbrev pub pick_terms : List Term
pick_terms = col 0 0 ∷ lit Null ∷ col 0 1 ∷ col 0 2 ∷ col 0 3 ∷ col 0 4 ∷ []

pub pick_inserted : command_of (understood store_schema insert_pick) ≡ Insert 5 (Values pick_terms 6)
unfolding understood everything
pick_inserted = refl

pub pick_plain : IsPlain (understood store_schema insert_pick)
unfolding understood everything
pick_plain = (refl, refl)

abbrev pub eight_terms : List Term
eight_terms =
    col 0 0 ∷ lit Null ∷ col 0 1 ∷ col 0 2 ∷ col 0 3 ∷ col 0 4
    ∷ col 0 5 ∷ lit Null ∷ col 0 6 ∷ col 0 7 ∷ col 0 8 ∷ col 0 9
    ∷ col 0 10 ∷ lit Null ∷ col 0 11 ∷ col 0 12 ∷ col 0 13 ∷ col 0 14
    ∷ col 0 15 ∷ lit Null ∷ col 0 16 ∷ col 0 17 ∷ col 0 18 ∷ col 0 19
    ∷ col 0 20 ∷ lit Null ∷ col 0 21 ∷ col 0 22 ∷ col 0 23 ∷ col 0 24
    ∷ col 0 25 ∷ lit Null ∷ col 0 26 ∷ col 0 27 ∷ col 0 28 ∷ col 0 29
    ∷ col 0 30 ∷ lit Null ∷ col 0 31 ∷ col 0 32 ∷ col 0 33 ∷ col 0 34
    ∷ col 0 35 ∷ lit Null ∷ col 0 36 ∷ col 0 37 ∷ col 0 38 ∷ col 0 39 ∷ []

pub eight_inserted : command_of (understood store_schema insert_eight) ≡ Insert 5 (Values eight_terms 6)
unfolding understood everything
eight_inserted = refl

pub eight_plain : IsPlain (understood store_schema insert_eight)
unfolding understood everything
eight_plain = (refl, refl)

abbrev pub filter_terms : List Term
filter_terms = col 0 0 ∷ lit Null ∷ col 0 1 ∷ col 0 2 ∷ col 0 3 ∷ []

pub filter_inserted : command_of (understood store_schema insert_filter) ≡ Insert 6 (Values filter_terms 5)
unfolding understood everything
filter_inserted = refl

pub filter_plain : IsPlain (understood store_schema insert_filter)
unfolding understood everything
filter_plain = (refl, refl)
