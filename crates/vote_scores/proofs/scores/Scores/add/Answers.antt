use Rattle.std.proofs.Common.{rules, ◌≡◌, ◌∙◌, sym, ap, subst, map}
use Rattle.std.specs.List.{position_or_len}
use Rattle.std.specs.Map.{keys_of, lookup}
use Rattle.indexmap.specs.IndexMap.{insert_entry}
use Rattle.vote_scores.specs.declared.undo.VoteUndo.{VoteUndo}
use Rattle.vote_scores.specs.contracts.vote_key.VoteKeyPartialEq.TheImpl as key
use Rattle.vote_scores.specs.Entries.{vote_at, key_of}
use Rattle.vote_scores.specs.Tally.{with_vote, vote_place, vote_value, without_vote, CanUndoVote}
use Rattle.vote_scores.proofs.AddLaws.{inserted, placed, looked_up, undoes, can_undo}
use Rattle.vote_scores.proofs.scores.Scores.add.Goals as goal

pub returns-clause-ok : goal.returns-clause-ok
returns-clause-ok c =
    let is : c.in_ok-key.key ≡ key_of c.args.note.now = search rules in
    let es = c.self.inside.votes.entries in
    let more : c.insert_full.new.self.entries ≡ insert_entry key.ghosts.eq es c.in_ok-key.key c.args.note.now.value = search rules in
    ap (λ entries. map vote_at entries) (more ∙ ap (λ k. insert_entry key.ghosts.eq es k c.args.note.now.value) is)
    ∙ inserted c.args.note.now es ∙ ap (λ votes. with_vote c.args.note.now votes) c.self.view_is

pub returns-clause-place : goal.returns-clause-place
returns-clause-place c =
    let is : c.in_ok-key.key ≡ key_of c.args.note.now = search rules in
    let es = c.self.inside.votes.entries in
    c.in_ok-at.ensures.index ∙ ap (λ k. position_or_len (key.ghosts.eq k) (keys_of es)) is ∙ placed c.args.note.now es
    ∙ ap (λ votes. vote_place c.args.note.now votes) c.self.view_is

pub returns-clause-old : goal.returns-clause-old
returns-clause-old c =
    let is : c.in_ok-key.key ≡ key_of c.args.note.now = search rules in
    let es = c.self.inside.votes.entries in
    c.in_ok-at.ensures.old ∙ ap (λ k. lookup (key.ghosts.eq k) es) is ∙ looked_up c.args.note.now es
    ∙ ap (λ votes. vote_value c.args.note.now votes) c.self.view_is

pub returns-clause-undo : goal.returns-clause-undo
returns-clause-undo c =
    let undo : VoteUndo = record { at = c.in_ok-at.at; old = c.in_ok-at.old } in
    let more = sym (returns-clause-ok c) in (
      subst (λ votes. CanUndoVote undo votes) more
          (can_undo c.args.note.now c.args.self.now undo (returns-clause-place c) (returns-clause-old c)),
      ap (λ votes. without_vote undo votes) (returns-clause-ok c)
          ∙ undoes c.args.note.now c.args.self.now undo (returns-clause-place c) (returns-clause-old c),
    )
