-- What a look-up shows, why it is refused and what it costs, by what the engine has in memory.
use Rattle.std.specs.Prelude.{ℕ, ◌≡◌, true, [], length, map, Option, None}
use Rattle.std.specs.Option.{option_or}
use Rattle.row_index.specs.Held.{indexed_notes}
use Rattle.script_lang.specs.declared.lookup.Lookup.{Lookup}
use Rattle.script_lang.specs.declared.lookup.Lookup.TheVariants.{ShowDoc, ListNotes, ListQueries, Count}
use Rattle.script_lang.specs.declared.lookup.Found.TheVariants.{DocNotes, UserQueries, Counts}
use Rattle.script_lang.specs.declared.refusal.Refusal.{Refusal}
use Rattle.script_lang.specs.declared.refusal.Refusal.TheVariants.{NoDoc}
use Rattle.script_lang.specs.declared.reply.Reply.{Reply}
use Rattle.script_lang.specs.declared.reply.Reply.TheVariants.{Found}
use Rattle.script_lang.specs.Rows.{note_text}
use Rattle.script_lang.specs.Replies.{HasShortNames, is_accepted}
use Rattle.tap_model.specs.Sessions.{or_zero, user_of}
use Rattle.tap_model.specs.Verdicts.{missing, no_user, no_doc}
use Rattle.tap_model.specs.Lookups.{doc_numbered, shown_doc}
use Rattle.tap_kept.specs.Lines.{owned_lines}
use Rattle.tap_engine.specs.declared.engine.Engine.{Engine}
use Rattle.tap_engine.specs.Standing.{RefusedBy}

-- why a look-up is refused
abbrev pub lookup_refusal : Lookup → Engine → Option Refusal
lookup_refusal (ShowDoc num) engine = missing NoDoc (doc_numbered num engine.index.docs)
lookup_refusal (ListNotes num) engine = no_doc num (length engine.index.docs)
lookup_refusal ListQueries engine = no_user engine.session
lookup_refusal Count engine = None

-- what a look-up is replied
abbrev pub cached_found : Lookup → Engine → Reply
cached_found (ShowDoc num) engine = shown_doc num (doc_numbered num engine.index.docs)
cached_found (ListNotes num) engine = Found (DocNotes num) (map note_text (indexed_notes num engine.index.notes))
cached_found ListQueries engine = Found UserQueries (owned_lines (user_of engine.session) engine.queries)
cached_found Count engine =
    Found (Counts (length engine.index.docs) (length engine.index.notes) (or_zero (option_or engine.session.moment engine.greatest))) []

-- a look-up may be refused so; a count never is
abbrev pub LookupRefuses : Lookup → Engine → Refusal → Type 0
LookupRefuses Count engine refusal = ⊥
LookupRefuses lookup engine refusal = RefusedBy (lookup_refusal lookup engine) refusal

-- the reply to a look-up that isn't refused
pub record IsFoundFor (lookup : Lookup) (engine : Engine) (reply : Reply) : Type 0 where
  -- nothing refuses the look-up
  pub fine : lookup_refusal lookup engine ≡ None
  -- the reply is what is in memory
  pub reply_is : reply ≡ cached_found lookup engine
  -- the names in the reply are no longer than names may be
  pub short : HasShortNames reply
  -- the reply begins `ok`
  pub accepted : is_accepted reply ≡ true

-- the steps that a look-up may take
abbrev pub cached_lookup_work : Lookup → Engine → ℕ
cached_lookup_work (ShowDoc num) engine = 1
cached_lookup_work (ListNotes num) engine = length (indexed_notes num engine.index.notes)
cached_lookup_work ListQueries engine = 0
cached_lookup_work Count engine = 0
