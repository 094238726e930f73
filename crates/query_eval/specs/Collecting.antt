-- What storing the hits beside bound rows needs.
use Rattle.std.specs.Prelude.{◌≡◌, ℤ, Bool, true, List}
use Rattle.tap_rows.specs.declared.rows.Doc.{Doc}
use Rattle.tql_core.specs.Values.{Env}
use Rattle.access_plan.specs.declared.reach.Reach.{Reach}
use Rattle.probe_eval.specs.declared.next.Next.{Next}
use Rattle.probe_eval.specs.declared.search.Search.{Search}
use Rattle.probe_eval.specs.Walks.{CanAnswer}
use Rattle.query_eval.specs.declared.least_hits.LeastHits.{LeastHits}
use Rattle.query_eval.specs.Placed.{CanStoreHits}
use Rattle.query_eval.specs.Driven.{is_settled}

-- the body can be asked for beside these rows, and hits can be stored
pub record CanCollect (s : Search) (order : List Reach) (next : Next) (sure : Bool) (env : Env) (mark : ℤ) (into : LeastHits) : Type 0 where
  pub answer : CanAnswer s order next sure env mark
  pub ready : CanStoreHits into

-- the documents that are passed over at this mark are in the box, or a hit of them is stored that is no later
abbrev pub AreSettled : Search → LeastHits → ℤ → (Doc → Bool) → Type 0
AreSettled s into b passed = (d : Doc) → passed d ≡ true → is_settled s.seen.now into.hits.items b d ≡ true
