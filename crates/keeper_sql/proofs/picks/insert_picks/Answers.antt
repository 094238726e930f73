use Rattle.std.proofs.Common.{◌≡◌, ◌+◌, ◌-◌, ◌≤◌, List, ◌++◌, map, take, drop, length, arith, ◌∙◌, inl, inr}
use Rattle.std.proofs.lemmas.Result.{on_ok_weaker, on_err_weaker}
use Rattle.sqlite.specs.Held.{state}
use Rattle.sqlite.specs.State.{HasCleanDisk, Survives}
use Rattle.sqlite.proofs.StateLemmas.{survives_then}
use Rattle.tap_rows.specs.declared.rows.Pick.{Pick}
use Rattle.keeper_sql.specs.RowsAsValues.{given_pick, only}
use Rattle.keeper_sql.specs.Schema.{insert_pick}
use Rattle.keeper_sql.specs.Failing.{FailsToInsert, FailsToInsertPicks}
use Rattle.keeper_sql.proofs.Steps.{went_then, went_undone, only_both}
use Rattle.keeper_sql.proofs.FailingLemmas.{reaches_rows, then_fails}
use Rattle.keeper_sql.proofs.EightPicks.{row_of, eight_range, rest_more, rows_both, read_both, one_of_rest}
use Rattle.keeper_sql.proofs.picks.insert_picks.Goals as goal

pub eights-preserved : goal.eights-preserved
eights-preserved g c =
    let old = state g.S.Store c.args.tx.now.conn.now in
    let mid = state g.S.Store c.eights.tx.conn.now in
    let new = state g.S.Store c.insert_eight.new.tx.conn.now in
    let n = c.eights.done in
    let picks = c.args.picks.now in
    let survives : Survives old new (λ _. ⊥) =
    survives_then old mid new _ _ _ (λ _ db none. none) (λ _ db none. none) c.eights.invariant.2 c.insert_eight.ensures.survives in
    let eight : List Pick = take (n + 8 - n) (drop n picks) in
    let fits : n + 8 ≤ length picks = omega arith in
    let more : take (n + 8) picks ≡ take n picks ++ eight = eight_range picks n fits in (
      fits,
      c.insert_eight.ensures.same_reference ∙ c.eights.invariant.1,
      survives,
      λ clean inside.
          let early : HasCleanDisk mid = omega (arith, c.insert_eight.ensures.survives.clean) in
          let was = c.eights.invariant.3 early inside in
          went_then (only 5 (map row_of (take n picks))) (only 5 (map row_of eight)) _ old mid new
          (only_both 5 (map row_of (take n picks)) (map row_of eight) _ (rows_both (take n picks) eight _ more)) was
          (c.in_default.ensures.ok clean was.mode),
      read_both (take n picks) eight _ more c.eights.invariant.4 c.in_default.ensures.read,
    )

pub returns-in-Err-clause-fails : goal.returns-in-Err-clause-fails
returns-in-Err-clause-fails g c clean inside =
    let mid = c.eights.tx.conn.now in
    let n = c.eights.done in
    let picks = c.args.picks.now in
    let early : HasCleanDisk (state g.S.Store mid) = omega (arith, c.insert_eight.ensures.survives.clean) in
    let reached = reaches_rows g.S.Store _ c.args.tx.now.conn.now mid c.eights.invariant.2 (c.eights.invariant.3 early inside) in
    let len : n + 8 - n ≡ 8 = omega arith in
    (mid, reached, inr (n, omega arith, rw len at (c.in-Err.ensures.fails clean reached.mode)))

pub returns-clause-ok : goal.returns-clause-ok
returns-clause-ok g c clean inside =
    let old = state g.S.Store c.args.tx.now.conn.now in
    let mid = state g.S.Store c.eights.tx.conn.now in
    let new = state g.S.Store c.insert_each.new.tx.conn.now in
    let n = c.eights.done in
    let picks = c.args.picks.now in
    let early : HasCleanDisk mid = omega (arith, c.insert_each.ensures.survives.clean) in
    let was = c.eights.invariant.3 early inside in
    let rest : List Pick = take (length picks - n) (drop n picks) in
    on_ok_weaker c.insert_each.result (λ wrote. went_then (only 5 (map row_of (take n picks))) (only 5 (map row_of rest)) _ old mid new
    (only_both 5 (map row_of (take n picks)) (map row_of rest) _ (rows_both (take n picks) rest picks (rest_more picks n))) was wrote)
    (c.insert_each.ensures.ok clean was.mode)

pub returns-clause-err : goal.returns-clause-err
returns-clause-err g c clean inside =
    let old = state g.S.Store c.args.tx.now.conn.now in
    let mid = state g.S.Store c.eights.tx.conn.now in
    let new = state g.S.Store c.insert_each.new.tx.conn.now in
    let early : HasCleanDisk mid = omega (arith, c.insert_each.ensures.survives.clean) in
    let was = c.eights.invariant.3 early inside in
    on_err_weaker c.insert_each.result (λ undone. went_undone _ old mid new was undone) (c.insert_each.ensures.err clean was.mode)

pub returns-clause-fails : goal.returns-clause-fails
returns-clause-fails g c clean inside =
    let old = c.args.tx.now.conn.now in
    let mid = c.eights.tx.conn.now in
    let n = c.eights.done in
    let picks = c.args.picks.now in
    let early : HasCleanDisk (state g.S.Store mid) = omega (arith, c.insert_each.ensures.survives.clean) in
    let reached = reaches_rows g.S.Store _ old mid c.eights.invariant.2 (c.eights.invariant.3 early inside) in
    then_fails g.S.Store (FailsToInsert insert_pick given_pick (take (length picks - n) (drop n picks))) (FailsToInsertPicks picks) old mid
    c.insert_each.new.tx.conn.now c.insert_each.result reached (λ a b e h. inl (one_of_rest picks n a b e h)) clean
    c.insert_each.ensures.fails

pub returns-clause-read : goal.returns-clause-read
returns-clause-read g c =
    let n = c.eights.done in
    let picks = c.args.picks.now in
    on_ok_weaker c.insert_each.result (λ read. read_both (take n picks) (take (length picks - n) (drop n picks)) picks
    (rest_more picks n) c.eights.invariant.4 read) c.insert_each.ensures.read
