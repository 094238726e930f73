use Rattle.std.proofs.Common.{rules, ◌≡◌, length, ◌∷◌, Some}
use Rattle.probe_eval.specs.Shortest.{shortest_after}
use Rattle.access_plan.specs.Views.{access_at}
use Rattle.probe_eval.specs.Work.{access_length}
use Rattle.probe_eval.proofs.ShortestLaws.{none_more, one_more, none_shorter, is_shorter, not_shorter}
use Rattle.probe_eval.proofs.lists.+shortest_after.Goals as goal

pub returns-then-len-eq0 : goal.returns-then-len-eq0
returns-then-len-eq0 t c =
    let e : access_length c.args.index.now c.args.env.now (access_at c.args.best) ≡ 0 = search rules in
    none_shorter c.args.index.now c.args.env.now (access_at c.args.best) c.args.accesses.now e

pub returns-in-None : goal.returns-in-None
returns-in-None t c =
    let e : length c.args.accesses.now ≡ 0 = search rules in
    none_more c.args.index.now c.args.env.now (Some (access_at c.args.best)) c.args.accesses.now e

pub returns-then-other-len : goal.returns-then-other-len
returns-then-other-len t c =
    let e : c.args.accesses.now ≡ c.in-Some.access.now ∷ c.in-Some.rest.now = search rules in
    let m : c.args.len ≡ access_length c.args.index.now c.args.env.now (access_at c.args.best) = search rules in
    let n : c.length_of-other.result ≡ access_length c.args.index.now c.args.env.now c.in-Some.access.now = search rules in
    let f : Some (access_at c.shortest_after.result)
    ≡ shortest_after c.args.index.now c.args.env.now (Some c.in-Some.access.now) c.in-Some.rest.now = search rules in
    one_more c.args.index.now c.args.env.now (Some (access_at c.args.best)) (Some c.in-Some.access.now)
    (Some (access_at c.shortest_after.result)) c.args.accesses.now c.in-Some.rest.now c.in-Some.access.now e
    (is_shorter c.args.index.now c.args.env.now (access_at c.args.best) c.in-Some.access.now c.args.len c.length_of-other.result m n
    c.if-other-len.true) f

pub returns-else-other-len : goal.returns-else-other-len
returns-else-other-len t c =
    let e : c.args.accesses.now ≡ c.in-Some.access.now ∷ c.in-Some.rest.now = search rules in
    let m : c.args.len ≡ access_length c.args.index.now c.args.env.now (access_at c.args.best) = search rules in
    let n : c.length_of-other.result ≡ access_length c.args.index.now c.args.env.now c.in-Some.access.now = search rules in
    one_more c.args.index.now c.args.env.now (Some (access_at c.args.best)) (Some (access_at c.args.best))
    (Some (access_at c.shortest_after-else-other-len.result)) c.args.accesses.now c.in-Some.rest.now c.in-Some.access.now e
    (not_shorter c.args.index.now c.args.env.now (access_at c.args.best) c.in-Some.access.now c.args.len c.length_of-other.result m n
    c.if-other-len.false) c.shortest_after-else-other-len.ensures
