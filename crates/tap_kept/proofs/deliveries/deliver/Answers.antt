use Rattle.std.proofs.Common.{◌∙◌, ap, sym, subst, length, map, pos, take}
use Rattle.std.specs.Prelude.{slice_index_or}
use Rattle.std.proofs.lemmas.List.{length-map}
use Rattle.tap_rows.specs.declared.rows.Pick.{Pick}
use Rattle.tap_rows.specs.Kept.{HasRun}
use Rattle.tap_kept.specs.Keeping.{cached_query}
use Rattle.tap_kept.specs.Starting.{rows_in, runs_alone, ordinal_in, IsRowNumber}
use Rattle.tap_kept.proofs.DeliveryLaws.{each-at, has-owned, run-within, pick-joins, pick-unseen, before-on}
use Rattle.tap_kept.proofs.NewLaws.{once-at}
use Rattle.tap_kept.proofs.deliveries.deliver.Goals as goal

no-pick : Pick
no-pick = record { num = 0; query = record { 0 = 0 }; run = 0; doc = record { 0 = 0 }; first = pos 0 }

pub add_pick-requires-clause-query : goal.add_pick-requires-clause-query
unfolding no-pick
add_pick-requires-clause-query c =
    let pick = slice_index_or c.args.picks.now c.loop-pick.pick-index no-pick in
    let has = each-at (λ pick. HasRun pick.run pick.query.0 c.args.runs.now) c.loop-pick.pick-index c.args.picks.now no-pick
    c.requires.deliveries.picked c.loop-pick-test.true in
    let rows = rows_in c.args.queries.now in
    let f = cached_query (runs_alone c.args.runs.now (take c.loop-pick.pick-index c.args.picks.now)) in
    let len = ap length c.loop-pick.invariant ∙ length-map rows f ∙ length-map c.args.queries.now (λ kept. kept.row) in
    subst (λ n. IsRowNumber pick.query.0 n) (sym len)
    (has-owned pick.run pick.query.0 (length c.args.queries.now) c.args.runs.now c.requires.owned has)

pub add_pick-requires-clause-run : goal.add_pick-requires-clause-run
unfolding no-pick
add_pick-requires-clause-run c =
    let pick = slice_index_or c.args.picks.now c.loop-pick.pick-index no-pick in
    let has = each-at (λ pick. HasRun pick.run pick.query.0 c.args.runs.now) c.loop-pick.pick-index c.args.picks.now no-pick
    c.requires.deliveries.picked c.loop-pick-test.true in
    let len = ap length (c.deref.ensures.value ∙ c.in_ok-ordinals.ensures.ordinals)
    ∙ length-map c.args.runs.now (ordinal_in c.args.runs.now) in
    subst (λ n. IsRowNumber pick.run n) (sym len) (run-within pick.run pick.query.0 c.args.runs.now c.requires.deliveries.numbered has)

pub add_pick-requires-clause-unseen : goal.add_pick-requires-clause-unseen
unfolding no-pick
add_pick-requires-clause-unseen c = λ d.
    let rows = rows_in c.args.queries.now in
    let runs = c.args.runs.now in
    let i = c.loop-pick.pick-index in
    let pick = slice_index_or c.args.picks.now i no-pick in
    let has =
    each-at (λ pick. HasRun pick.run pick.query.0 runs) i c.args.picks.now no-pick c.requires.deliveries.picked c.loop-pick-test.true in
    let one = has-owned pick.run pick.query.0 (length c.args.queries.now) runs c.requires.owned has in
    let of-rows = subst (λ n. IsRowNumber pick.query.0 n) (sym (length-map c.args.queries.now (λ kept. kept.row))) one in
    pick-unseen rows runs (take i c.args.picks.now) pick c.loop-pick.queries d c.requires.numbered of-rows
    c.loop-pick.invariant (once-at c.args.picks.now i no-pick c.requires.deliveries.once c.loop-pick-test.true)

pub loop-pick-preserved : goal.loop-pick-preserved
unfolding no-pick
loop-pick-preserved c =
    let rows = rows_in c.args.queries.now in
    let runs = c.args.runs.now in
    let i = c.loop-pick.pick-index in
    let before = take i c.args.picks.now in
    let pick = slice_index_or c.args.picks.now i no-pick in
    let has =
    each-at (λ pick. HasRun pick.run pick.query.0 runs) i c.args.picks.now no-pick c.requires.deliveries.picked c.loop-pick-test.true in
    let one = has-owned pick.run pick.query.0 (length c.args.queries.now) runs c.requires.owned has in
    let of-rows = subst (λ n. IsRowNumber pick.query.0 n) (sym (length-map c.args.queries.now (λ kept. kept.row))) one in
    pick-joins rows runs before pick
    c.loop-pick.queries c.add_pick.new.queries c.deref.result.now c.requires.numbered c.requires.deliveries.numbered of-rows has
    c.loop-pick.invariant (c.deref.ensures.value ∙ c.in_ok-ordinals.ensures.ordinals) c.in_ok-add_pick.ensures
    ∙ ap (λ some. map (cached_query (runs_alone runs some)) rows) (sym (before-on i c.args.picks.now no-pick c.loop-pick-test.true))
