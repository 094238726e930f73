use Rattle.std.proofs.Common.{rules, ◌≡◌, ◌≤◌, ◌+◌, ◌∷◌, ◌∙◌, true, false, Some, ap, length, subst}
use Rattle.access_plan.specs.Views.{option_reach, reach_at}
use Rattle.probe_eval.specs.Nexts.{IsFoundNearest}
use Rattle.probe_eval.specs.Searches.{searched}
use Rattle.probe_eval.specs.Rests.{further}
use Rattle.probe_eval.specs.Nested.{is_once, is_walked, once_cost, hits_over}
use Rattle.probe_eval.proofs.HitSteps.{next_hits}
use Rattle.probe_eval.proofs.LevelLaws.{sure_below, level_paid, none_walked}
use Rattle.probe_eval.proofs.Nesting.{further_is}
use Rattle.probe_eval.proofs.level.next_level.Goals as goal

pub returns-then-is_walked-clause-some : goal.returns-then-is_walked-clause-some
returns-then-is_walked-clause-some g c =
    let p = searched c.args.search.now in
    let r = reach_at c.in_ok-reach.reach in
    let o : c.args.order.now ≡ c.in_ok-rest.field-0-0.now ∷ c.in_ok-rest.rest.now = search rules in
    let f : further p.path c.args.mark c.args.env.now ≡ Some r = search rules in
    let q : c.is_once-sure.result ≡ is_once p.path c.args.env.now c.in_ok-rest.rest.now r.var = search rules in
    let w : is_walked c.args.search.now.index.now p c.args.mark c.is_once-sure.result c.args.order.now c.args.env.now ≡ true =
    search rules in
    let found : option_reach c.further_once.result ≡ Some r = search rules in
    let own : c.as_slice-path.result.now ≡ p.path = search rules in
    let k : IsFoundNearest p.path c.args.env.now c.further_once.new.next =
    subst (λ z. IsFoundNearest z c.args.env.now c.further_once.new.next) own (c.further_once.ensures.found r found) in
    record {
      hits = ap (λ z. hits_over c.args.search.now.seen.now c.args.search.now.index.now p c.args.mark z c.args.env.now) o
          ∙ next_hits c.args.search.now.seen.now c.args.search.now.index.now p
          c.args.mark c.in_ok-rest.field-0-0.now c.in_ok-rest.rest.now c.args.env.now r c.requires.fresh f;
      sure = sure_below c.args.search.now.index.now p
          c.args.mark c.is_once-sure.result c.in_ok-rest.field-0-0.now c.in_ok-rest.rest.now c.args.env.now r f q
          (subst (λ z. is_walked c.args.search.now.index.now p c.args.mark c.is_once-sure.result z c.args.env.now ≡ true) o w);
      sole = c.sole-sole.ensures p.path c.args.env.now r k (further_is p.path c.args.mark c.args.env.now r f).1;
      fewer = ap length o;
    }

pub returns-then-is_walked-clause-steps : goal.returns-then-is_walked-clause-steps
returns-then-is_walked-clause-steps g c =
    let p = searched c.args.search.now in
    let r = reach_at c.in_ok-reach.reach in
    let o : c.args.order.now ≡ c.in_ok-rest.field-0-0.now ∷ c.in_ok-rest.rest.now = search rules in
    let f : further p.path c.args.mark c.args.env.now ≡ Some r = search rules in
    let q : c.is_once-sure.result ≡ is_once p.path c.args.env.now c.in_ok-rest.rest.now r.var = search rules in
    let w : is_walked c.args.search.now.index.now p c.args.mark c.is_once-sure.result c.args.order.now c.args.env.now ≡ true =
    search rules in
    let h : c.is_walked.new.steps ≤ c.args.steps.now
    + once_cost c.args.search.now.index.now p c.args.mark c.is_once-sure.result c.args.order.now c.args.env.now 0 = search rules in
    λ passed sure. level_paid c.args.search.now.index.now p c.args.mark passed c.args.steps.now c.is_walked.new.steps c.is_once-sure.result
    sure c.args.order.now c.in_ok-rest.field-0-0.now c.in_ok-rest.rest.now c.args.env.now r o c.requires.fresh f q w h

pub returns-else-is_walked-clause-none : goal.returns-else-is_walked-clause-none
returns-else-is_walked-clause-none g c =
    let p = searched c.args.search.now in
    let r = reach_at c.in_ok-reach.reach in
    let o : c.args.order.now ≡ c.in_ok-rest.field-0-0.now ∷ c.in_ok-rest.rest.now = search rules in
    let f : further p.path c.args.mark c.args.env.now ≡ Some r = search rules in
    let q : c.is_once-sure.result ≡ is_once p.path c.args.env.now c.in_ok-rest.rest.now r.var = search rules in
    let w : is_walked c.args.search.now.index.now p c.args.mark c.is_once-sure.result c.args.order.now c.args.env.now ≡ false =
    search rules in
    λ z. none_walked c.args.search.now.seen.now c.args.search.now.index.now p c.args.mark c.is_once-sure.result c.args.order.now
    c.in_ok-rest.field-0-0.now c.in_ok-rest.rest.now c.args.env.now r o c.requires.fresh f q w
