use Rattle.std.proofs.Common.{rules, ◌≡◌, ◌∙◌, sym, ap, subst, []}
use Rattle.std.proofs.lemmas.Result.{IfOk-weaker}
use Rattle.tap_rows.specs.declared.tables.Tables.{Tables}
use Rattle.tap_rows.specs.Votes.{scores_in_order, scores_of, AreNumbered}
use Rattle.vote_scores.specs.Tally.{tally}
use Rattle.vote_scores.specs.Counts.{counted_from, ScoresAreApart}
use Rattle.vote_scores.proofs.FoundLaws.{counted_from_apart}
use Rattle.vote_scores.proofs.KindLaws.{same_scores}
use Rattle.vote_scores.proofs.scores.Scores.of_kind.Goals as goal

pub into_rows-requires : goal.into_rows-requires
into_rows-requires c =
    let is : c.in_ok-counts.counts ≡ counted_from c.args.kind.now [] c.args.self.now = search rules in
    subst ScoresAreApart (sym is) (counted_from_apart c.args.kind.now [] c.args.self.now tt)

pub returns : goal.returns
returns c =
    let is : c.in_ok-counts.counts ≡ counted_from c.args.kind.now [] c.args.self.now = search rules in
    IfOk-weaker c.into_rows.result (λ rows. rows ≡ scores_in_order c.in_ok-counts.counts) (λ rows. (tables : Tables) → AreNumbered tables
    → c.args.self.now ≡ tally tables.notes → rows ≡ scores_of c.args.kind.now tables)
    (λ rows e tables sound tallied. e ∙ ap scores_in_order is
    ∙ ap (λ votes. scores_in_order (counted_from c.args.kind.now [] votes)) tallied ∙ same_scores c.args.kind.now tables sound)
    c.into_rows.ensures
