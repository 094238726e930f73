use Rattle.std.proofs.Common.{◌≡◌, ◌∙◌, ap, sym, arith, ◌+◌, ◌++◌, ◌∷◌, [], length, map, pos, take}
use Rattle.std.specs.Prelude.{slice_index_or}
use Rattle.std.proofs.lemmas.List.{length-map}
use Rattle.tap_rows.specs.declared.rows.RunRow.{RunRow}
use Rattle.tap_kept.specs.declared.cached_query.CachedQuery.{CachedQuery}
use Rattle.tap_kept.specs.Keeping.{cached_query}
use Rattle.tap_kept.specs.Starting.{rows_in, runs_alone, ordinal_in}
use Rattle.tap_kept.proofs.DeliveryLaws.{run-at, few-before, runs-before, run-joins, ordinal-noted, before-on}
use Rattle.tap_kept.proofs.deliveries.add_runs.Goals as goal

no-run : RunRow
no-run = record { num = 0; query = record { 0 = 0 }; moment = pos 0 }

pub add_run-requires-clause-few : goal.add_run-requires-clause-few
unfolding no-run
add_run-requires-clause-few c = λ d.
    let rows = rows_in c.args.queries.now in
    let at = run-at rows c.args.runs.now c.loop-run.run-index (length c.args.queries.now) no-run
    c.requires.runs c.requires.owned (length-map c.args.queries.now (λ kept. kept.row)) c.loop-run-test.true in
    let few = few-before rows (take c.loop-run.run-index c.args.runs.now)
    (slice_index_or c.args.runs.now c.loop-run.run-index no-run).query.0 c.loop-run.run-index c.loop-run.queries d
    c.requires.numbered at.one c.loop-run.invariant.queries at.len in
    let num = at.num in
    omega (arith, few, num)

pub loop-run-preserved : goal.loop-run-preserved
unfolding no-run
loop-run-preserved c =
    let rows = rows_in c.args.queries.now in
    let runs = c.args.runs.now in
    let i = c.loop-run.run-index in
    let run = slice_index_or runs i no-run in
    let before = take i runs in
    let at = run-at rows runs i (length c.args.queries.now) no-run
    c.requires.runs c.requires.owned (length-map c.args.queries.now (λ kept. kept.row)) c.loop-run-test.true in
    let more : take (i + 1) runs ≡ before ++ run ∷ [] = before-on i runs no-run c.loop-run-test.true in
    let joined = run-joins rows before run
    c.loop-run.queries c.add_run.new.queries c.requires.numbered at.one c.loop-run.invariant.queries c.in_ok-add_run.ensures.queries in
    let num : run.num ≡ length before + 1 = (let n = at.num in let l = at.len in omega (arith, n, l)) in
    let d : CachedQuery =
    cached_query (runs_alone [] []) (record { num = record { 0 = 0 }; owner = []; name = []; source = []; arrival = pos 0 }) in
    let ordinal = c.in_ok-add_run.ensures.ordinal d ∙ ap (λ n. n + 1)
    (runs-before rows before run.query.0 c.loop-run.queries d c.requires.numbered at.one c.loop-run.invariant.queries) in
    let noted = ordinal-noted before run c.loop-run.ordinals.items c.push.new.self.items c.in_ok-add_run.field-0 at.from num
    c.loop-run.invariant.ordinals ordinal c.in_ok-push.ensures.items in
    record {
      queries = joined ∙ ap (λ some. map (cached_query (runs_alone some [])) rows) (sym more);
      ordinals = noted ∙ ap (λ some. map (ordinal_in some) some) (sym more);
    }
