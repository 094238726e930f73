-- A rated box, the lines that explain a query, those of a digest, and the text of a document, by what the engine has in memory.
use Rattle.std.specs.Prelude.{ℕ, List, Option, Some, None, ◌&&◌, nat_eq, if◌then◌else◌}
use Rattle.std.specs.List.{find}
use Rattle.std.specs.Option.{option_map}
use Rattle.tap_base.specs.Names.{is_name}
use Rattle.tap_rows.specs.declared.tables.Tables.{Tables}
use Rattle.tap_rows.specs.declared.rows.Doc.{Doc}
use Rattle.tap_rows.specs.declared.results.Listed.{Listed}
use Rattle.filter_rules.specs.Listings.{listing_of}
use Rattle.mail_fields.specs.Digests.{digested, digest_lines}
use Rattle.tap_model.specs.Sessions.{user_of}
use Rattle.tap_model.specs.Queries.{lines_of, query_named, box_of_query}
use Rattle.tap_model.specs.Filters.{last_filter, filter_rules, rules_of_user}
use Rattle.tap_model.specs.Replies.{entries_in_run}
use Rattle.tap_engine.specs.declared.engine.Engine.{Engine}
use Rattle.tap_kept.specs.declared.cached_query.CachedQuery.{CachedQuery}
use Rattle.tap_kept.specs.Keeping.{named_in}

-- what a query has delivered, rated by the user's last filter
abbrev pub cached_rows : Engine → Option CachedQuery → Option (List Listed)
cached_rows engine None = None
cached_rows engine (Some kept) =
    Some (listing_of (filter_rules (last_filter (user_of engine.session) engine.filters)) engine.index.docs kept.entries)

-- the lines that explain a query
abbrev pub cached_lines : Option CachedQuery → Option (List (List ℕ))
cached_lines None = None
cached_lines (Some kept) = Some (lines_of kept.row)

-- the lines of the digest of one run of a query
abbrev pub cached_digest : Engine → List ℕ → ℕ → Option CachedQuery → Option (List (List ℕ))
cached_digest engine name ordinal None = None
cached_digest engine name ordinal (Some kept) =
    Some (digest_lines name ordinal (digested engine.index.docs (entries_in_run ordinal kept.entries)))

-- this, if both are names
abbrev pub if_names : {T : Type 0} → List ℕ → List ℕ → Option T → Option T
if_names user name found = if is_name user && is_name name then found else None

-- the listing of the user's box of this name, by the user's last filter, if the user has a query of this name
abbrev pub listing_in : List ℕ → List ℕ → Tables → Option (List Listed)
listing_in user name tables =
    if_names user name
    (option_map (λ query. listing_of (rules_of_user user tables) tables.docs (box_of_query query tables)) (query_named user name tables))

-- a user's query of this name, by what the engine has in memory
abbrev pub cached_of : List ℕ → List ℕ → Engine → Option CachedQuery
cached_of user name engine = if_names user name (named_in user name engine.queries)

-- what a query has delivered, rated by a user's last filter
abbrev pub rated_by : List ℕ → Engine → CachedQuery → List Listed
rated_by user engine kept = listing_of (filter_rules (last_filter user engine.filters)) engine.index.docs kept.entries

-- the text of the document of this number, if there is one
abbrev pub text_in : ℕ → List Doc → Option (List ℕ)
text_in num docs = option_map (λ doc. doc.text) (find (λ doc. nat_eq doc.num.0 num) docs)
