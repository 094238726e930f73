use Rattle.std.specs.Prelude.{◌≤ℤ◌}
use Rattle.std.proofs.Common.{rules, ◌≡◌, ◌∙◌, sym, ap, subst, ◌+◌, length, w64}
use Rattle.std.proofs.lemmas.Int.{to_z-of_z}
use Rattle.tap_rows.specs.Kept.{Each}
use Rattle.row_index.specs.Orders.{note_arrival}
use Rattle.script_lang.specs.declared.refusal.Refusal.TheVariants.{Memory}
use Rattle.tap_model.specs.Sessions.{user_of, moment_or_zero}
use Rattle.vote_scores.specs.Tally.{CanUndoVote, without_vote, with_vote}
use Rattle.tap_engine.specs.declared.engine.Engine.{Engine}
use Rattle.tap_engine.proofs.AddedRows.{notes-are}
use Rattle.tap_engine.proofs.UndoLaws.{for-memory, undo-note}
use Rattle.tap_engine.proofs.ReadyLaws.{ready-note, rows-by, moment_or_zero-moment}
use Rattle.tap_engine.proofs.NoteLaws.{note-verdict, note-refuses, note-moment, answers-note, represents-note}
use Rattle.tap_engine.proofs.engine.Engine.note.Goals as goal
use Rattle.tap_base.specs.Numbers.{IsMoment}

pub returns-in_err-note-clause-refusal : goal.returns-in_err-note-clause-refusal
returns-in_err-note-clause-refusal c =
    let by = note-refuses c.args.self.now c.args.doc c.args.kind c.args.value c.args.text _ c.in_err-note.ensures.refusal in
    search (rules, by)

pub returns-in_err-change-clause-refusal : goal.returns-in_err-change-clause-refusal
returns-in_err-change-clause-refusal c =
    let by =
    note-refuses c.args.self.now c.args.doc c.args.kind c.args.value c.args.text Memory (for-memory _ c.in_ok-note.ensures.checks) in
    search (rules, by)

pub returns-clause-ok : goal.returns-clause-ok
returns-clause-ok c = record {
  answer = λ t represents sound.
      let none = sym (note-verdict c.args.self.now t c.args.doc c.args.kind c.args.value c.args.text represents)
      ∙ c.in_ok-note.ensures.checks in
      let answers =
      answers-note t c.args.self.now.session c.args.doc c.args.kind c.args.value c.args.text (length c.args.self.now.index.notes)
      c.in_ok-note.note c.in_ok-change.change c.add_note.new.self.session none (ap length (notes-are represents))
      (c.in_ok-note.ensures.row ∙ ap (λ v. record {
        num = record { 0 = length c.args.self.now.index.notes + 1 };
        doc = record { 0 = c.args.doc };
        author = user_of c.args.self.now.session;
        kind = c.args.kind;
        value = v;
        arrival = moment_or_zero c.args.self.now.session;
        text = c.args.text;
      }) (to_z-of_z w64 c.args.value c.ranges.value))
      c.in_ok-change.ensures.change (ap (λ e. e.session) c.in_ok-change.ensures.engine) in search (rules, answers);
  represents = λ t represents sound.
      rw (c.in_ok-change.ensures.engine, c.in_ok-change.ensures.change)
      (represents-note c.args.self.now t c.in_ok-note.note represents
      (note-moment c.args.self.now c.args.doc c.args.kind c.args.text c.in_ok-note.ensures.checks));
  undo = let before = c.args.self.now in
      let note = c.in_ok-note.note in
      let vote = c.in_ok-change.vote in
      let back = subst (λ (e : Engine). CanUndoVote vote e.votes × (without_vote vote e.votes ≡ before.votes))
      c.in_ok-change.ensures.engine c.in_ok-change.ensures.vote in
      rw c.in_ok-change.ensures.engine (undo-note before note _ vote (with_vote note before.votes) back.0 back.1);
  ready = rw c.in_ok-change.ensures.engine (ready-note c.args.self.now c.in_ok-note.note (with_vote c.in_ok-note.note c.args.self.now.votes)
      (c.args.self.now.bytes + length c.in_ok-note.note.text) c.requires.ready (ap (λ n. n.arrival) c.in_ok-note.ensures.row)
      (note-moment c.args.self.now c.args.doc c.args.kind c.args.text c.in_ok-note.ensures.checks));
  running = search rules;
  short = search rules;
  accepted = search rules;
}

pub add_note-requires-clause-arrives : goal.add_note-requires-clause-arrives
add_note-requires-clause-arrives c =
    let at = note-moment c.args.self.now c.args.doc c.args.kind c.args.text c.in_ok-note.ensures.checks in
    record {
      moment =
          subst IsMoment (sym (ap (λ n. n.arrival) c.in_ok-note.ensures.row)) (moment_or_zero-moment c.args.self.now c.requires.ready at);
      after =
          subst (λ m. Each (λ other. other.arrival ≤ℤ m) c.args.self.now.index.notes) (sym (ap (λ n. n.arrival) c.in_ok-note.ensures.row))
          (rows-by note_arrival c.args.self.now c.args.self.now.index.notes c.requires.ready.notes at);
    }
