use Rattle.std.proofs.Common.{rules, ◌∙◌, ap, subst, sym, FitsSigned, w64, ◌+ℤ◌}
use Rattle.std.specs.Int.{w128}
use Rattle.std.specs.Map.{values_of}
use Rattle.vote_scores.specs.Counts.{with_vote_counted, AreSmall}
use Rattle.vote_scores.proofs.CountLaws.{grown_fits, raised, raised_keyed, added, added_keyed}
use Rattle.vote_scores.proofs.counts.Counts.count.Goals as goal

pub invariant_of-self : goal.invariant_of-self
invariant_of-self c =
    let small : AreSmall 4294967294 (values_of c.self.inside.scores.entries) =
    subst (AreSmall 4294967294) (sym c.self.view_is) c.requires.small in
    let value : FitsSigned w64 c.from.result = search rules in
    let fits : FitsSigned w128 (c.in-Some.score.now.sum +ℤ c.from.result) =
    grown_fits _ c.in-Some.score.now c.from.result small c.in-Some.ensures.member value in
    raised_keyed c.args.doc c.args.value c.self.inside.scores.entries _ c.in-Some.score.now _ c.self.invariant (search rules)
    (c.get_mut.follows.holds _).0 (search rules) (search rules) (search (rules, fits))

pub returns-in-Some : goal.returns-in-Some
returns-in-Some c =
    let small : AreSmall 4294967294 (values_of c.self.inside.scores.entries) =
    subst (AreSmall 4294967294) (sym c.self.view_is) c.requires.small in
    let value : FitsSigned w64 c.from.result = search rules in
    let fits : FitsSigned w128 (c.in-Some.score.now.sum +ℤ c.from.result) =
    grown_fits _ c.in-Some.score.now c.from.result small c.in-Some.ensures.member value in
    raised c.args.doc c.args.value c.self.inside.scores.entries _ c.in-Some.score.now _ c.self.invariant (search rules)
    (c.get_mut.follows.holds _).0 (search rules) (search rules) (search (rules, fits))
    ∙ ap (λ scores. with_vote_counted c.args.doc c.args.value scores) c.self.view_is

pub invariant_of-self-2 : goal.invariant_of-self-2
invariant_of-self-2 c =
    added_keyed c.args.doc c.args.value c.self.inside.scores.entries c.get_mut.follows.lender-at-none.entries _ _
    c.self.invariant (search rules) (search rules) c.in_ok-insert.ensures.entries (search rules) (search rules) (search rules)

pub returns : goal.returns
returns c =
    added c.args.doc c.args.value c.self.inside.scores.entries c.get_mut.follows.lender-at-none.entries _ _ c.self.invariant (search rules)
    (search rules) c.in_ok-insert.ensures.entries (search rules) (search rules) (search rules)
    ∙ ap (λ scores. with_vote_counted c.args.doc c.args.value scores) c.self.view_is
