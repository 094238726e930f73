-- Hits, and how many there is room for.
use Rattle.std.specs.Prelude.{ℕ, List}
use Rattle.tap_rows.specs.declared.results.Hit.{Hit}
use Rattle.query_eval.specs.declared.box_front.BoxFront.{BoxFront}

-- what a list of hits with room is seen as, with the fronts that are known of the boxes of queries
pub record HitsWithRoom : Type 0 where
  pub hits : List Hit
  pub room : ℕ
  pub fronts : List BoxFront
