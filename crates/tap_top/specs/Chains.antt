-- Sessions in a row over one store.
use Rattle.std.specs.Prelude.{ℕ, ◌≡◌, List, [], ◌∷◌, ◌++◌}
use Rattle.tap_rows.specs.declared.tables.Tables.{Tables}
use Rattle.script_lang.specs.declared.command.Command.{Command}
use Rattle.script_lang.specs.declared.reply.Reply.{Reply}
use Rattle.tap_model.specs.Sound.{IsStore}
use Rattle.tap_top.specs.Crashes.{IsPrefixOfStory}

-- a session that is over: its commands, their replies, and how many of these were written whole
pub record PastSession : Type 0 where
  pub commands : List Command
  pub replies : List Reply
  pub acknowledged : ℕ

-- the first session began with these tables; each left the tables after some first commands, all acknowledged ones among them,
-- and the next one began with those; the last one left `last`
abbrev pub IsChain : Tables → List PastSession → Tables → Type 0
IsChain tables [] last = last ≡ tables
IsChain tables (session ∷ sessions) last =
    (next : Tables) × IsPrefixOfStory tables session.commands session.replies session.acknowledged next × IsChain next sessions last

-- the later rows are the earlier ones and some more behind them
abbrev pub HasMore : {A : Type 0} → List A → List A → Type 0
HasMore {A} before later = (more : List A) × (later ≡ before ++ more)

-- all rows of the tables stand in the later ones, first and in the same order
pub record OnlyAdds (tables later : Tables) : Type 0 where
  pub docs : HasMore tables.docs later.docs
  pub notes : HasMore tables.notes later.notes
  pub queries : HasMore tables.queries later.queries
  pub runs : HasMore tables.runs later.runs
  pub picks : HasMore tables.picks later.picks
  pub filters : HasMore tables.filters later.filters

-- sessions in a row, each of which may have ended with a crash, leave a store of a store, and lose no row of it
pub record ChainsAreSafe : Type 0 where
  pub kept : (tables last : Tables) (sessions : List PastSession) → IsStore tables → IsChain tables sessions last → IsStore last
  pub added : (tables last : Tables) (sessions : List PastSession) → IsChain tables sessions last → OnlyAdds tables last
