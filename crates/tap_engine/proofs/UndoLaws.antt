-- What isn't refused is answered, and its rows can be undone.
use Rattle.std.proofs.Common.{◌≡◌, ◌∙◌, sym, refl, ap, subst, inl, inr, arith, ℕ, ◌+◌, ◌-◌, ◌<◌, ◌≤◌, List, [], ◌∷◌, ◌++◌, length, take}
use Rattle.std.proofs.Common.{true, false, Option, Some, None, if◌then◌else◌}
use Rattle.std.proofs.Math.Seq.{take-append_seam}
use Rattle.std.proofs.lemmas.List.{append-nil, length-append}
use Rattle.std.specs.Prelude.{◌⊎◌, is_some, OnSome}
use Rattle.tap_rows.specs.declared.tables.Tables.{Tables}
use Rattle.tap_rows.specs.declared.change.Change.{Change}
use Rattle.tap_rows.specs.declared.change.Change.TheVariants.{Docs as RowDocs, OneNote as RowNote}
use Rattle.tap_rows.specs.Tables.{after}
use Rattle.query_eval.specs.Hits.{HitsWithRoom}
use Rattle.tap_rows.specs.declared.rows.Doc.{Doc}
use Rattle.tap_rows.specs.declared.rows.Note.{Note}
use Rattle.tap_rows.specs.declared.rows.FilterRow.{FilterRow}
use Rattle.tap_base.specs.Words.{has_text}
use Rattle.script_lang.specs.declared.command.Command.{Command}
use Rattle.tap_model.specs.declared.session.Session.{Session}
use Rattle.script_lang.specs.declared.refusal.Refusal.{Refusal}
use Rattle.script_lang.specs.declared.refusal.Refusal.TheVariants.{Memory}
use Rattle.tap_model.specs.Verdicts.{verdict}
use Rattle.tap_model.specs.Replies.{answer_of, answer_by, accepted}
use Rattle.tap_kept.specs.declared.cached_query.CachedQuery.{CachedQuery}
use Rattle.vote_scores.specs.declared.undo.VoteUndo.{VoteUndo}
use Rattle.vote_scores.specs.Tally.{CanUndoVote, Vote, without_vote}
use Rattle.tap_engine.specs.declared.engine.Engine.{Engine}
use Rattle.tap_engine.specs.declared.undo.Undo.TheVariants.{Docs, Note as OneNote, Query, Filter}
use Rattle.tap_kept.specs.Keeping.{with_owner}
use Rattle.tap_kept.specs.BoxFronts.{AreFrontsOfBoxes}
use Rattle.tap_engine.specs.Standing.{RefusedAfter, RefusedBy}
use Rattle.tap_engine.specs.Answering.{Answers, UndoRestores}

-- what isn't refused is accepted
pub answers-accepted : (t : Tables) (s : Session) (c : Command) → verdict c s t ≡ None
    → Answers t s c (accepted c s t).reply (accepted c s t).change (accepted c s t).session
answers-accepted t s c none =
    let is : answer_of c s t ≡ accepted c s t = ap (λ v. answer_by v c s t) none in
    record {
      fine = none;
      reply_is = sym (ap (λ a. a.reply) is);
      change_is = sym (ap (λ a. a.change) is);
      session_is = sym (ap (λ a. a.session) is);
    }

-- what holds whatever the rows are
pub some-undo : {P : Type 0} (change : Option Change) → P → OnSome change P
some-undo None p = tt
some-undo (Some change) p = p

-- out of memory, if the command isn't refused
pub for-memory : (v : Option Refusal) → v ≡ None → RefusedBy v Memory
for-memory v none = inr (refl, none)

-- the same, if no check before memory is asked for refuses it
pub after-memory : (early v : Option Refusal) → early ≡ None → RefusedAfter early v Memory
after-memory early v none = inr (refl, none)

-- a command that is out of memory isn't one of those that need none
pub refused-after : (early v : Option Refusal) (refusal : Refusal) → RefusedAfter early v refusal
    → (v ≡ Some refusal) ⊎ ((refusal ≡ Memory) × (is_some early ≡ false))
refused-after early v refusal (inl is) = inl is
refused-after early v refusal (inr memory) = inr (memory.0, ap is_some memory.1)

-- documents are undone
pub undo-docs : (e : Engine) (docs : List Doc) (h : HitsWithRoom) (bytes n : ℕ) → n ≡ length e.index.docs → e.hits.room ≤ h.room
    → h.fronts ≡ e.hits.fronts
    → UndoRestores (Docs n e.bytes) (record e { index = after e.index (RowDocs docs); hits = h; bytes = bytes }) e
undo-docs e docs h bytes n is room fronts = record {
  there = tt;
  before_is = record {
    same = ap (λ n. record e { index = record e.index { docs = take n (e.index.docs ++ docs) }; hits = h }) is
        ∙ ap (λ l. record e { index = record e.index { docs = l }; hits = h }) (take-append_seam e.index.docs docs);
    room = room;
    fronts = subst (AreFrontsOfBoxes e.index.docs e.queries) (sym fronts);
  };
}

-- a note is undone
one-back : (notes : List Note) (note : Note) → take (length (notes ++ note ∷ []) - 1) (notes ++ note ∷ []) ≡ notes
one-back notes note = ap (λ n. take (n - 1) (notes ++ note ∷ [])) (length-append notes (note ∷ []))
    ∙ ap (λ n. take n (notes ++ note ∷ [])) (less (length notes)) ∙ take-append_seam notes (note ∷ []) where
      less : (n : ℕ) → n + 1 - 1 ≡ n
      less n = omega arith

some-note : (notes : List Note) (note : Note) → 0 < length (notes ++ note ∷ [])
some-note [] note = omega arith
some-note (x ∷ notes) note = omega arith

pub undo-note : (e : Engine) (note : Note) (bytes : ℕ) (vote : VoteUndo) (votes : List Vote) → CanUndoVote vote votes
    → without_vote vote votes ≡ e.votes
    → UndoRestores (OneNote e.bytes vote) (record e { index = after e.index (RowNote note); votes = votes; bytes = bytes }) e
undo-note e note bytes vote votes can back = record {
  there = (some-note e.index.notes note, can);
  before_is = record {
    same = ap (λ l. record e { index = record e.index { notes = l }; votes = without_vote vote votes }) (one-back e.index.notes note)
        ∙ ap (λ votes. record e { votes = votes }) back;
    room = omega arith;
    fronts = λ are. are;
  };
}

-- an owner is removed again
owner-back : (owners : List (List ℕ)) (owner : List ℕ) → take (length owners) (with_owner owners owner) ≡ owners
owner-back owners owner =
    elim (has_text owners owner) as (λ b. take (length owners) (if b then owners else owners ++ owner ∷ []) ≡ owners) [
      | true ↦ ap (take (length owners)) (sym (append-nil owners)) ∙ take-append_seam owners []
      | false ↦ take-append_seam owners (owner ∷ [])
    ]

-- a query is undone
pub undo-query : (e : Engine) (queries : List CachedQuery) (owner : List ℕ) (bytes n m : ℕ) → n ≡ length e.queries → m ≡ length e.owners
    → UndoRestores (Query n m e.bytes) (record e { queries = e.queries ++ queries; owners = with_owner e.owners owner; bytes = bytes }) e
undo-query e queries owner bytes n m is-n is-m = record {
  there = tt;
  before_is = record {
    same = ap (λ n. record e { queries = take n (e.queries ++ queries); owners = take m (with_owner e.owners owner) }) is-n
        ∙ ap (λ l. record e { queries = l; owners = take m (with_owner e.owners owner) }) (take-append_seam e.queries queries)
        ∙ ap (λ m. record e { owners = take m (with_owner e.owners owner) }) is-m
        ∙ ap (λ l. record e { owners = l }) (owner-back e.owners owner);
    room = omega arith;
    fronts = λ are. are;
  };
}

-- a filter is undone
pub undo-filter : (e : Engine) (filters : List FilterRow) (owner : List ℕ) (bytes n m : ℕ) → n ≡ length e.filters → m ≡ length e.owners
    → UndoRestores (Filter n m e.bytes) (record e { filters = e.filters ++ filters; owners = with_owner e.owners owner; bytes = bytes }) e
undo-filter e filters owner bytes n m is-n is-m = record {
  there = tt;
  before_is = record {
    same = ap (λ n. record e { filters = take n (e.filters ++ filters); owners = take m (with_owner e.owners owner) }) is-n
        ∙ ap (λ l. record e { filters = l; owners = take m (with_owner e.owners owner) }) (take-append_seam e.filters filters)
        ∙ ap (λ m. record e { owners = take m (with_owner e.owners owner) }) is-m
        ∙ ap (λ l. record e { owners = l }) (owner-back e.owners owner);
    room = omega arith;
    fronts = λ are. are;
  };
}
