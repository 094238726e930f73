use Rattle.std.proofs.Common.{◌≡◌, ◌∙◌, ◌+◌, ◌-◌, ◌∷◌, ◌++◌, [], List, ap, arith, ℕ}
use Rattle.tap_base.specs.FirstPlaces.{First, Placed, firsts_after, gap_total}
use Rattle.tap_base.proofs.FirstLaws.{far-pushed, near-pushed, total-pushed}
use Rattle.tap_base.proofs.first_places.FirstPlaces.push.Goals as goal

pub far-preserved : goal.far-preserved
far-preserved c =
    let sum : gap_total c.push.new.self.items ≡ gap_total c.far.self-inside.gaps.items + 255 =
    ap gap_total c.in_ok-push.ensures.items ∙ total-pushed c.far.self-inside.gaps.items (record { len = 255; tag = c.args.tag }) in
    let before = c.far.invariant.last in
    record {
      firsts = ap (firsts_after 0) c.in_ok-push.ensures.items ∙ far-pushed c.far.self-inside.gaps.items c.args.tag ∙ c.far.invariant.firsts;
      last = omega (arith, sum, before);
      before = omega arith;
    }

pub invariant_of-self-2 : goal.invariant_of-self-2
invariant_of-self-2 c =
    let sum : gap_total c.push-2.new.self.items ≡ gap_total c.far.self-inside.gaps.items + (c.args.at - c.far.self-inside.last) =
    ap gap_total c.in_ok-push-2.ensures.items ∙ total-pushed c.far.self-inside.gaps.items (record {
      len = c.args.at - c.far.self-inside.last;
      tag = c.args.tag;
    }) in
    let before = c.far.invariant in
    (omega (arith, sum, before.last, before.before), omega arith)

abbrev at_last : ℕ → List First → Placed
at_last last firsts = record { firsts = firsts; last = last }

pub returns-clause-ok : goal.returns-clause-ok
returns-clause-ok c =
    let before = c.far.invariant in
    ap (at_last c.args.at) (ap (firsts_after 0) c.in_ok-push-2.ensures.items
    ∙ near-pushed c.far.self-inside.gaps.items (c.args.at - c.far.self-inside.last) c.args.tag c.args.at (omega arith)
    (omega (arith, before.last, before.before))
    ∙ ap (λ (ps : List First). ps ++ record { place = c.args.at; tag = c.args.tag } ∷ []) before.firsts)
