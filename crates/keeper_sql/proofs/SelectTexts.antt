-- What the statements that read the tables mean.
use Rattle.std.proofs.Common.{◌≡◌, ℕ, pos, negsuc, List, [], ◌∷◌, codes, None, false, refl}
use Rattle.sqlite_value.specs.declared.value.Value.TheVariants.{Int}
use Rattle.sqlite_value.specs.declared.keys.Collation.TheVariants.{Binary}
use Rattle.sqlite_sql.specs.Term.{Term, lit, col}
use Rattle.sqlite_sql.specs.Query.{Query, inner, end}
use Rattle.sqlite_tied.specs.Compute.{everything}
use Rattle.sqlite.specs.Listing.{understood, reads_listing}
use Rattle.sqlite.proofs.Callers.{IsPlain, command_of}
use Rattle.sqlite_schema.specs.declared.command.Command.TheVariants.{Select}
use Rattle.keeper_sql.specs.Schema.{store_schema, select_meta, select_docs, select_notes, select_queries, select_runs, select_picks}
use Rattle.keeper_sql.specs.Schema.{select_filters}

-- all rows of a tree in order of their keys, these columns of each
abbrev pub all_rows : ℕ → List Term → Query
all_rows tree columns = record {
  from = inner tree end;
  filter = [];
  group = None;
  project = columns;
  distinct = false;
  collations = [];
  order = (col 1 0, record { collation = Binary; descending = false }) ∷ [];
  limit = lit (Int (negsuc 0));
  offset = lit (Int (pos 0));
}

pub meta_selected : (command_of (understood store_schema select_meta)
    ≡ Select (record { lets = []; body = all_rows 0 (col 1 0 ∷ col 1 2 ∷ []) }) (codes "id" ∷ codes "version" ∷ []))
    × (reads_listing store_schema select_meta ≡ false)
unfolding understood everything
meta_selected = (refl, refl)

pub meta_select_plain : IsPlain (understood store_schema select_meta)
unfolding understood everything
meta_select_plain = (refl, refl)

pub docs_selected :
    (command_of (understood store_schema select_docs) ≡ Select (record { lets = []; body = all_rows 1 (col 1 0 ∷ col 1 2 ∷ col 1 3 ∷ []) })
    (codes "num" ∷ codes "arrival" ∷ codes "body" ∷ [])) × (reads_listing store_schema select_docs ≡ false)
unfolding understood everything
docs_selected = (refl, refl)

pub docs_select_plain : IsPlain (understood store_schema select_docs)
unfolding understood everything
docs_select_plain = (refl, refl)

pub notes_selected : (command_of (understood store_schema select_notes)
    ≡ Select (record { lets = []; body = all_rows 2 (col 1 0 ∷ col 1 2 ∷ col 1 3 ∷ col 1 4 ∷ col 1 5 ∷ col 1 6 ∷ col 1 7 ∷ []) })
    (codes "num" ∷ codes "doc" ∷ codes "author" ∷ codes "kind" ∷ codes "value" ∷ codes "arrival" ∷ codes "body" ∷ []))
    × (reads_listing store_schema select_notes ≡ false)
unfolding understood everything
notes_selected = (refl, refl)

pub notes_select_plain : IsPlain (understood store_schema select_notes)
unfolding understood everything
notes_select_plain = (refl, refl)

pub queries_selected : (command_of (understood store_schema select_queries)
    ≡ Select (record { lets = []; body = all_rows 3 (col 1 0 ∷ col 1 2 ∷ col 1 3 ∷ col 1 4 ∷ col 1 5 ∷ []) })
    (codes "num" ∷ codes "owner" ∷ codes "name" ∷ codes "source" ∷ codes "arrival" ∷ []))
    × (reads_listing store_schema select_queries ≡ false)
unfolding understood everything
queries_selected = (refl, refl)

pub queries_select_plain : IsPlain (understood store_schema select_queries)
unfolding understood everything
queries_select_plain = (refl, refl)

pub runs_selected :
    (command_of (understood store_schema select_runs) ≡ Select (record { lets = []; body = all_rows 4 (col 1 0 ∷ col 1 2 ∷ col 1 3 ∷ []) })
    (codes "num" ∷ codes "query" ∷ codes "moment" ∷ [])) × (reads_listing store_schema select_runs ≡ false)
unfolding understood everything
runs_selected = (refl, refl)

pub runs_select_plain : IsPlain (understood store_schema select_runs)
unfolding understood everything
runs_select_plain = (refl, refl)

pub picks_selected : (command_of (understood store_schema select_picks)
    ≡ Select (record { lets = []; body = all_rows 5 (col 1 0 ∷ col 1 2 ∷ col 1 3 ∷ col 1 4 ∷ col 1 5 ∷ []) })
    (codes "num" ∷ codes "query" ∷ codes "run" ∷ codes "doc" ∷ codes "second" ∷ [])) × (reads_listing store_schema select_picks ≡ false)
unfolding understood everything
picks_selected = (refl, refl)

pub picks_select_plain : IsPlain (understood store_schema select_picks)
unfolding understood everything
picks_select_plain = (refl, refl)

pub filters_selected : (command_of (understood store_schema select_filters)
    ≡ Select (record { lets = []; body = all_rows 6 (col 1 0 ∷ col 1 2 ∷ col 1 3 ∷ col 1 4 ∷ []) })
    (codes "num" ∷ codes "owner" ∷ codes "source" ∷ codes "arrival" ∷ [])) × (reads_listing store_schema select_filters ≡ false)
unfolding understood everything
filters_selected = (refl, refl)

pub filters_select_plain : IsPlain (understood store_schema select_filters)
unfolding understood everything
filters_select_plain = (refl, refl)
