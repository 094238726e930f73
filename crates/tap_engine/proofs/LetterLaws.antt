-- A user's box by what the engine has in memory, over the tables that it represents.
use Rattle.std.proofs.Common.{◌≡◌, ◌∙◌, sym, ap, refl, ℕ, List, Bool, true, false, Option, Some, None, if◌then◌else◌}
use Rattle.std.specs.Prelude.{◌&&◌}
use Rattle.std.specs.Option.{option_map}
use Rattle.tap_base.specs.Names.{is_name}
use Rattle.tap_rows.specs.declared.tables.Tables.{Tables}
use Rattle.tap_rows.specs.declared.rows.Doc.{Doc}
use Rattle.tap_rows.specs.declared.rows.QueryRow.{QueryRow}
use Rattle.tap_rows.specs.declared.results.Listed.{Listed}
use Rattle.tap_rows.specs.Deliveries.{delivered}
use Rattle.tap_rows.specs.WellFormed.{is_query_of}
use Rattle.tap_rows.proofs.KeptLaws.{box-is}
use Rattle.filter_rules.specs.Listings.{listing_of}
use Rattle.tap_model.specs.Filters.{last_filter, filter_rules, rules_of_user}
use Rattle.tap_model.specs.Queries.{query_named, query_truth, start_of, box_of_query}
use Rattle.tap_model.specs.Sound.{IsSound}
use Rattle.tap_model.proofs.AnswerLaws.{find-in, truth-of-second}
use Rattle.tap_kept.specs.declared.cached_query.CachedQuery.{CachedQuery}
use Rattle.tap_kept.specs.Keeping.{cached_query, named_in}
use Rattle.tap_engine.specs.declared.engine.Engine.{Engine}
use Rattle.tap_engine.specs.Standing.{Represents}
use Rattle.tap_engine.specs.Lists.{if_names, listing_in, cached_of, rated_by}
use Rattle.tap_engine.proofs.AddedRows.{docs-are}
use Rattle.tap_engine.proofs.CheckLaws.{named-kept}

cached-is : (e : Engine) (t : Tables) (user name : List ℕ) → Represents e t
    → cached_of user name e ≡ if_names user name (option_map (cached_query t) (query_named user name t))
cached-is e t user name represents =
    ap (λ found. if_names user name found) (ap (named_in user name) represents.queries ∙ named-kept t user name t.queries)

-- the listing of a query that there is
rated-is : (e : Engine) (t : Tables) (user : List ℕ) (q : QueryRow) → Represents e t
    → rated_by user e (cached_query t q) ≡ listing_of (rules_of_user user t) t.docs (delivered q.num.0 t)
rated-is e t user q represents =
    ap (λ fs. listing_of (filter_rules (last_filter user fs)) e.index.docs (delivered q.num.0 t)) represents.filters
    ∙ ap (λ docs. listing_of (rules_of_user user t) docs (delivered q.num.0 t)) (docs-are represents)

mapped : (e : Engine) (t : Tables) (user name : List ℕ) → Represents e t → IsSound t e.session → (o : Option QueryRow)
    → query_named user name t ≡ o
    → option_map (rated_by user e) (option_map (cached_query t) o)
    ≡ option_map (λ query. listing_of (rules_of_user user t) t.docs (box_of_query query t)) o
mapped e t user name represents sound None is = refl
mapped e t user name represents sound (Some q) is =
    let box = box-is query_truth start_of truth-of-second t q t.queries (find-in (is_query_of user name) t.queries q is) sound.kept.each in
    ap Some (rated-is e t user q represents ∙ ap (listing_of (rules_of_user user t) t.docs) box.box)

map-if : {A B : Type 0} (f : A → B) (b : Bool) (o : Option A) → option_map f (if b then o else None) ≡ (if b then option_map f o else None)
map-if f true o = refl
map-if f false o = refl

-- what is listed is the listing of the user's box
pub listed-is : (e : Engine) (user name : List ℕ) (found : Option CachedQuery) → found ≡ cached_of user name e → (t : Tables)
    → Represents e t → IsSound t e.session → option_map (rated_by user e) found ≡ listing_in user name t
listed-is e user name found is t represents sound =
    ap (option_map (rated_by user e)) (is ∙ cached-is e t user name represents)
    ∙ map-if (rated_by user e) (is_name user && is_name name) (option_map (cached_query t) (query_named user name t))
    ∙ ap (λ rows. if_names user name rows) (mapped e t user name represents sound (query_named user name t) refl)
