use Rattle.std.proofs.Common.{◌≡◌, ◌+◌, ◌<◌, length, List, [], ◌∷◌, ◌++◌, map, take, arith, ap, ◌∙◌, slice_index_or, pos}
use Rattle.std.proofs.lemmas.Grind.{common_steps}
use Rattle.std.proofs.lemmas.List.{map-append, get_or_default}
use Rattle.sqlite_value.specs.Order.{Row}
use Rattle.sqlite.specs.Held.{state}
use Rattle.sqlite.specs.State.{HasCleanDisk, Survives}
use Rattle.sqlite.proofs.StateLemmas.{survives_then}
use Rattle.tap_rows.specs.declared.rows.Pick.{Pick}
use Rattle.keeper_sql.specs.RowsAsValues.{given_pick, pick_in, as_kept, only}
use Rattle.keeper_sql.proofs.Steps.{went_then, only_both}
use Rattle.keeper_sql.proofs.FailingLemmas.{reaches_rows}
use Rattle.keeper_sql.proofs.ReadBack.{read_more}
use Rattle.keeper_sql.proofs.picks.insert_each.Goals as goal

pub adds-preserved : goal.adds-preserved
adds-preserved g c =
    let old = state g.S.Store c.args.tx.now.conn.now in
    let mid = state g.S.Store c.adds.tx.conn.now in
    let new = state g.S.Store c.insert_pick.new.tx.conn.now in
    let survives : Survives old new (λ _. ⊥) =
    survives_then old mid new _ _ _ (λ _ db none. none) (λ _ db none. none) c.adds.invariant.1 c.insert_pick.ensures.survives in
    let f : Pick → Row = λ x. as_kept (given_pick x) in
    let first : List Pick = take c.adds.pick-index c.args.picks.now in
    let item : Pick = slice_index_or c.args.picks.now c.adds.pick-index
    (record { num = 0; query = record { 0 = 0 }; run = 0; doc = record { 0 = 0 }; first = pos 0 }) in
    let more : take (c.adds.pick-index + 1) c.args.picks.now ≡ first ++ item ∷ [] = grind (arith, common_steps) in
    let rows : map f (take (c.adds.pick-index + 1) c.args.picks.now) ≡ map f first ++ f item ∷ [] = ap (map f) more
    ∙ map-append f first (item ∷ []) in (
      c.insert_pick.ensures.same_reference ∙ c.adds.invariant.0,
      survives,
      λ clean inside.
          let early : HasCleanDisk mid = omega (arith, c.insert_pick.ensures.survives.clean) in
          let was = c.adds.invariant.2 early inside in
          went_then (only 5 (map f first)) (only 5 (f item ∷ [])) _ old mid new (only_both 5 (map f first) (f item ∷ []) _ rows) was
          (c.in_default.ensures.ok clean was.mode),
      read_more pick_in f first item _ _ rows more c.adds.invariant.3 c.in_default.ensures.read,
    )

pub returns-in-Err-clause-fails : goal.returns-in-Err-clause-fails
returns-in-Err-clause-fails g c clean inside =
    let mid = c.adds.tx.conn.now in
    let early : HasCleanDisk (state g.S.Store mid) = omega (arith, c.insert_pick.ensures.survives.clean) in
    let reached = reaches_rows g.S.Store _ c.args.tx.now.conn.now mid c.adds.invariant.1 (c.adds.invariant.2 early inside) in
    let at = c.adds.pick-index in
    let item : Pick =
    slice_index_or c.args.picks.now at (record { num = 0; query = record { 0 = 0 }; run = 0; doc = record { 0 = 0 }; first = pos 0 }) in
    let within : at < length c.args.picks.now = omega arith in
    (mid, reached, (item, (at, within, get_or_default c.args.picks.now at _ item within), c.in-Err.ensures.fails clean reached.mode))
