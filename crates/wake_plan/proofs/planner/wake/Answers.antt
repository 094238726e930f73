use Rattle.std.proofs.Common.{rules, ◌≡◌, ◌∙◌, ◌+◌, ◌≤◌, pos, None, Some, length, to_z, of_z, w64}
use Rattle.std.specs.List.{flat_map}
use Rattle.time_marks.specs.declared.window.Window.{Window}
use Rattle.probe_eval.specs.Runs.{query_hits, query_cost}
use Rattle.probe_eval.specs.Work.{total}
use Rattle.wake_plan.specs.Turns.{hits_left, cost_left}
use Rattle.time_marks.specs.NextWake.{after_mark, greater, least_mark}
use Rattle.wake_plan.specs.Wakes.{wake_window, IsUpTo}
use Rattle.wake_plan.proofs.WakeLaws.{wake_moment, wake_steps, wake_plain}
use Rattle.wake_plan.proofs.planner.wake.Goals as goal

pub returns-in-None-clause-moment : goal.returns-in-None-clause-moment
returns-in-None-clause-moment g c =
    let w : Window = record { low = c.args.last; high = pos 250000000000 } in
    let h : flat_map (hits_left w) c.in_ok-turns.turns.items ≡ query_hits c.args.seen.now c.args.index.now w c.args.plan.now.query =
    search rules in
    let m : None ≡ least_mark (flat_map (hits_left w) c.in_ok-turns.turns.items) = search rules in
    wake_moment c.args.plan.now.query c.requires.probes c.args.seen.now c.args.index.now c.args.last c.in_ok-turns.turns.items h
    c.args.now None m

pub returns-in-None-clause-steps : goal.returns-in-None-clause-steps
returns-in-None-clause-steps g c =
    let w : Window = record { low = c.args.last; high = pos 250000000000 } in
    let h : flat_map (hits_left w) c.in_ok-turns.turns.items ≡ query_hits c.args.seen.now c.args.index.now w c.args.plan.now.query =
    search rules in
    let s : (u : Window) → IsUpTo w u → c.starts.new.steps + total (cost_left u) c.in_ok-turns.turns.items ≤ c.args.steps.now
    + (length c.args.plan.now.query.parts + query_cost c.args.seen.now c.args.index.now u c.args.plan.now.query) = search rules in
    let t : c.first_delivery.new.steps ≤ c.starts.new.steps
    + total (cost_left (wake_window c.args.last (flat_map (hits_left w) c.in_ok-turns.turns.items))) c.in_ok-turns.turns.items =
    search rules in
    wake_steps c.args.plan.now.query c.requires.probes c.args.seen.now c.args.index.now c.args.last c.in_ok-turns.turns.items h _ _ _ s t

pub returns-in-None-clause-plain : goal.returns-in-None-clause-plain
returns-in-None-clause-plain g c plain =
    let w : Window = record { low = c.args.last; high = pos 250000000000 } in
    let h : flat_map (hits_left w) c.in_ok-turns.turns.items ≡ query_hits c.args.seen.now c.args.index.now w c.args.plan.now.query =
    search rules in
    let s : (u : Window) → IsUpTo w u → c.starts.new.steps + total (cost_left u) c.in_ok-turns.turns.items ≤ c.args.steps.now
    + (length c.args.plan.now.query.parts + query_cost c.args.seen.now c.args.index.now u c.args.plan.now.query) = search rules in
    let t : c.first_delivery.new.steps ≤ c.starts.new.steps
    + total (cost_left (wake_window c.args.last (flat_map (hits_left w) c.in_ok-turns.turns.items))) c.in_ok-turns.turns.items =
    search rules in
    wake_plain c.args.plan.now.query c.requires.probes c.args.seen.now c.args.index.now c.args.last _ _ (wake_steps c.args.plan.now.query
    c.requires.probes c.args.seen.now c.args.index.now c.args.last c.in_ok-turns.turns.items h _ _ _ s t) plain

pub returns-clause-moment : goal.returns-clause-moment
returns-clause-moment g c =
    let w : Window = record { low = c.args.last; high = pos 250000000000 } in
    let h : flat_map (hits_left w) c.in_ok-turns.turns.items ≡ query_hits c.args.seen.now c.args.index.now w c.args.plan.now.query =
    search rules in
    let m : Some c.in-Some.mark ≡ least_mark (flat_map (hits_left w) c.in_ok-turns.turns.items) = search rules in
    let r : Some (to_z w64 (of_z w64 c.moment_after.result)) ≡ Some (greater c.args.now (after_mark c.in-Some.mark)) = search rules in
    r ∙ wake_moment c.args.plan.now.query c.requires.probes c.args.seen.now c.args.index.now c.args.last c.in_ok-turns.turns.items h
    c.args.now (Some c.in-Some.mark) m

pub returns-clause-steps : goal.returns-clause-steps
returns-clause-steps g c =
    let w : Window = record { low = c.args.last; high = pos 250000000000 } in
    let h : flat_map (hits_left w) c.in_ok-turns.turns.items ≡ query_hits c.args.seen.now c.args.index.now w c.args.plan.now.query =
    search rules in
    let s : (u : Window) → IsUpTo w u → c.starts.new.steps + total (cost_left u) c.in_ok-turns.turns.items ≤ c.args.steps.now
    + (length c.args.plan.now.query.parts + query_cost c.args.seen.now c.args.index.now u c.args.plan.now.query) = search rules in
    let t : c.first_delivery.new.steps ≤ c.starts.new.steps
    + total (cost_left (wake_window c.args.last (flat_map (hits_left w) c.in_ok-turns.turns.items))) c.in_ok-turns.turns.items =
    search rules in
    wake_steps c.args.plan.now.query c.requires.probes c.args.seen.now c.args.index.now c.args.last c.in_ok-turns.turns.items h _ _ _ s t

pub returns-clause-plain : goal.returns-clause-plain
returns-clause-plain g c plain =
    let w : Window = record { low = c.args.last; high = pos 250000000000 } in
    let h : flat_map (hits_left w) c.in_ok-turns.turns.items ≡ query_hits c.args.seen.now c.args.index.now w c.args.plan.now.query =
    search rules in
    let s : (u : Window) → IsUpTo w u → c.starts.new.steps + total (cost_left u) c.in_ok-turns.turns.items ≤ c.args.steps.now
    + (length c.args.plan.now.query.parts + query_cost c.args.seen.now c.args.index.now u c.args.plan.now.query) = search rules in
    let t : c.first_delivery.new.steps ≤ c.starts.new.steps
    + total (cost_left (wake_window c.args.last (flat_map (hits_left w) c.in_ok-turns.turns.items))) c.in_ok-turns.turns.items =
    search rules in
    wake_plain c.args.plan.now.query c.requires.probes c.args.seen.now c.args.index.now c.args.last _ _ (wake_steps c.args.plan.now.query
    c.requires.probes c.args.seen.now c.args.index.now c.args.last c.in_ok-turns.turns.items h _ _ _ s t) plain
