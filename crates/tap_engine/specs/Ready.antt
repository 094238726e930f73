-- What must hold of an engine so that it can perform commands, whatever tables it represents.
use Rattle.std.specs.Prelude.{ℕ, ℤ, suc, ◌≡◌, ◌≤◌, ◌≤ℤ◌, List, [], ◌∷◌, length, Option, Some, None}
use Rattle.std.specs.Option.{option_or}
use Rattle.tap_rows.specs.Kept.{Each}
use Rattle.row_index.specs.Orders.{doc_arrival, note_arrival}
use Rattle.tap_kept.specs.declared.cached_query.CachedQuery.{CachedQuery}
use Rattle.tap_kept.specs.BoxFronts.{AreFrontsOfBoxes}
use Rattle.tap_engine.specs.declared.engine.Engine.{Engine}
use Rattle.tap_base.specs.Numbers.{IsMoment}

-- the queries are numbered by their places from this one on; none had more runs than there were in all, and each has covered
-- the seconds up to a moment
abbrev pub CachedFrom : ℕ → ℕ → List CachedQuery → Type 0
CachedFrom num runs [] = Unit {0}
CachedFrom num runs (kept ∷ queries) = (kept.row.num.0 ≡ num) × (kept.runs ≤ runs) × IsMoment kept.covered
    × CachedFrom (suc num) runs queries

-- no row arrived after this moment; without a moment there is no row
abbrev pub RowsBy : {A : Type 0} → (A → ℤ) → Option ℤ → List A → Type 0
RowsBy arrival None rows = rows ≡ []
RowsBy arrival (Some moment) rows = Each (λ row. arrival row ≤ℤ moment) rows

-- none, or a second that a moment may be
abbrev pub IsTime : Option ℤ → Type 0
IsTime None = Unit {0}
IsTime (Some moment) = IsMoment moment

-- what the engine needs for its own steps: documents and notes not after the session's moment, or without one the greatest stored
-- moment; queries at the places of their numbers, none with more runs than there are, each of which has covered up to a moment; a
-- session's moment in range; room for a hit of each document; fronts that are in the boxes of their queries
pub record IsReady (engine : Engine) : Type 0 where
  pub docs : RowsBy doc_arrival (option_or engine.session.moment engine.greatest) engine.index.docs
  pub notes : RowsBy note_arrival (option_or engine.session.moment engine.greatest) engine.index.notes
  pub queries : CachedFrom 1 engine.run_count engine.queries
  pub moment : IsTime engine.session.moment
  pub room : length engine.index.docs ≤ engine.hits.room
  pub fronts : AreFrontsOfBoxes engine.index.docs engine.queries engine.hits.fronts
