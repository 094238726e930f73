use Rattle.std.proofs.Common.{rules, ◌≡◌, Some}
use Rattle.time_marks.specs.Seeks.{seek_of}
use Rattle.probe_eval.specs.Drivers.{seek_var, walked}
use Rattle.probe_eval.specs.Searches.{searched}
use Rattle.wake_plan.specs.declared.turn.Turn.{Turn}
use Rattle.wake_plan.proofs.StartLaws.{started_turn, started_hits, started_steps}
use Rattle.wake_plan.proofs.starts.driven.Goals as goal

pub returns-clause-turn : goal.returns-clause-turn
returns-clause-turn g c =
    let t : Turn = record {
      search = c.args.search;
      order = c.args.order;
      var = c.args.var;
      rows = c.read_ahead-next.new.rows;
      next = c.read_ahead-next.result;
    } in
    let e : seek_var (seek_of (searched c.args.search).at) ≡ Some c.args.var = search rules in
    let a : c.walked-rows.result ≡ walked c.args.search.index.now c.args.w (searched c.args.search) (seek_of (searched c.args.search).at)
    c.args.var = search rules in
    started_turn c.args.w t c.walked-rows.result e c.requires.bounded c.docs-docs.ensures.places c.notes-notes.ensures.places a
    c.read_ahead-next.ensures.rows c.read_ahead-next.ensures.due c.requires.search.node c.requires.search.room

pub returns-clause-hits : goal.returns-clause-hits
returns-clause-hits g c =
    let t : Turn = record {
      search = c.args.search;
      order = c.args.order;
      var = c.args.var;
      rows = c.read_ahead-next.new.rows;
      next = c.read_ahead-next.result;
    } in
    let e : seek_var (seek_of (searched c.args.search).at) ≡ Some c.args.var = search rules in
    let a : c.walked-rows.result ≡ walked c.args.search.index.now c.args.w (searched c.args.search) (seek_of (searched c.args.search).at)
    c.args.var = search rules in
    let by = started_hits c.args.w t c.walked-rows.result e c.requires.bounded c.docs-docs.ensures.places c.notes-notes.ensures.places a
    c.read_ahead-next.ensures.rows c.read_ahead-next.ensures.due in
    search (rules, by)

pub returns-clause-cost : goal.returns-clause-cost
returns-clause-cost g c u k =
    let t : Turn = record {
      search = c.args.search;
      order = c.args.order;
      var = c.args.var;
      rows = c.read_ahead-next.new.rows;
      next = c.read_ahead-next.result;
    } in
    let e : seek_var (seek_of (searched c.args.search).at) ≡ Some c.args.var = search rules in
    let a : c.walked-rows.result ≡ walked c.args.search.index.now c.args.w (searched c.args.search) (seek_of (searched c.args.search).at)
    c.args.var = search rules in
    let by = started_steps c.args.w t c.walked-rows.result e c.requires.bounded c.docs-docs.ensures.places c.notes-notes.ensures.places a
    c.read_ahead-next.ensures.rows c.read_ahead-next.ensures.due c.args.steps.now c.read_ahead-next.new.steps u k
    c.read_ahead-next.ensures.steps in
    search (rules, by)
