use Rattle.std.proofs.Common.{rules, ◌≡◌, ◌∷◌, FitsSigned, w64}
use Rattle.vote_scores.specs.Counts.{counted_if}
use Rattle.vote_scores.specs.Entries.{vote_at}
use Rattle.vote_scores.proofs.CountingLaws.{small_enough, one_counted}
use Rattle.vote_scores.proofs.scores.Scores.counts.Goals as goal

pub count_if-requires : goal.count_if-requires
count_if-requires c =
    let is : c.loop-key.key-iterator ≡ (c.in-Some.key.now, c.in-Some.value.now) ∷ c.next.new.self = search rules in
    record {
      small = small_enough c.args.kind.now c.args.self.now c.loop-key.counts _ c.loop-key.key-iterator c.next.new.self is
          c.loop-key.invariant c.self.inside.votes.entries c.self.invariant c.self.view_is;
    }

pub loop-key-preserved : goal.loop-key-preserved
loop-key-preserved c =
    let is : c.loop-key.key-iterator ≡ (c.in-Some.key.now, c.in-Some.value.now) ∷ c.next.new.self = search rules in
    let fits : FitsSigned w64 c.in-Some.value.now = search rules in
    let more : c.count_if.new.counts ≡ counted_if c.args.kind.now (vote_at (c.in-Some.key.now, c.in-Some.value.now)) c.loop-key.counts =
    search rules in
    one_counted c.args.kind.now c.args.self.now c.loop-key.counts _ c.loop-key.key-iterator c.next.new.self is
    c.loop-key.invariant c.count_if.new.counts fits more
