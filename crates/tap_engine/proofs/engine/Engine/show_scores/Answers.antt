use Rattle.std.proofs.Common.{rules, ◌≡◌, subst, None}
use Rattle.tap_rows.specs.declared.tables.Tables.{Tables}
use Rattle.vote_scores.specs.Tally.{tally}
use Rattle.tap_rows.specs.Votes.{scores_of, AreNumbered}
use Rattle.tap_model.specs.Verdicts.{bad_name}
use Rattle.tap_engine.proofs.ReadLaws.{answers-scores}
use Rattle.tap_engine.proofs.engine.Engine.show_scores.Goals as goal

pub returns-clause-ok : goal.returns-clause-ok
returns-clause-ok c = record {
  answer = λ t represents sound.
      let kind : bad_name c.as_slice.result.now ≡ None = search rules in
      answers-scores c.args.self.now t c.args.kind c.in_ok-rows.rows represents
      sound.formed (subst (λ k. bad_name k ≡ None) c.as_slice.ensures kind)
      (subst (λ k. (tables : Tables) → AreNumbered tables → c.args.self.now.votes ≡ tally tables.notes
      → c.in_ok-rows.rows ≡ scores_of k tables) c.as_slice-2.ensures c.in_ok-rows.ensures);
  short = search rules;
  accepted = search rules;
}
