use Rattle.std.proofs.Common.{rules, ◌≡◌, ◌∙◌, sym, ap, subst, ◌<◌, ◌^◌, take, Some, None, map}
use Rattle.indexmap.specs.IndexMap.{set_value_at}
use Rattle.vote_scores.specs.Tally.{with_value, without_vote}
use Rattle.vote_scores.specs.Entries.{vote_at}
use Rattle.vote_scores.proofs.EntryLaws.{written, written-length, cut, undone-old}
use Rattle.vote_scores.proofs.scores.Scores.undo.Goals as goal

pub invariant_of-self-in-Some-get_index_mut : goal.invariant_of-self-in-Some-get_index_mut
invariant_of-self-in-Some-get_index_mut c =
    subst (λ n. n < 2 ^ 32) (sym (written-length c.self.inside.votes.entries c.args.undo.at _)) c.self.invariant

pub returns-in-None : goal.returns-in-None
returns-in-None c =
    let none : c.args.undo.old ≡ None = search rules in
    ap (λ es. map vote_at es) c.truncate.ensures.entries ∙ cut c.args.undo.at c.self.inside.votes.entries
    ∙ ap (λ votes. take c.args.undo.at votes) c.self.view_is ∙ sym (undone-old c.args.undo None c.args.self.now none)

pub returns-in-Some-get_index_mut : goal.returns-in-Some-get_index_mut
returns-in-Some-get_index_mut c =
    let value = c.in-Some.value in
    let some : c.args.undo.old ≡ Some value = search rules in
    let same : map vote_at (set_value_at c.self.inside.votes.entries c.args.undo.at value) ≡ without_vote c.args.undo c.args.self.now =
    written c.self.inside.votes.entries c.args.undo.at value ∙ ap (λ votes. with_value c.args.undo.at value votes) c.self.view_is
    ∙ sym (undone-old c.args.undo (Some value) c.args.self.now some) in
    search (rules, same)
