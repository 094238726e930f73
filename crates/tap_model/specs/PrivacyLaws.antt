-- A user's replies depend on what the user sees alone.
use Rattle.std.specs.Prelude.{ℕ, ℤ, ◌≡◌, ◌⊎◌, List, true, false, Some}
use Rattle.tap_rows.specs.Kept.{Each}
use Rattle.tap_model.specs.Privacy.{view_of, is_shared_reply, concerns, deed_of, Move, Tale, acts_of, deeds, replies_in}

-- take two moves from sound points that look alike to the user, at a moment; if both are one deed that concerns the user, they
-- have the same reply and lead to points that look alike, unless one of them meets a shared refusal
abbrev pub SameDeedSameReply : Type 0
SameDeedSameReply =
    (user : List ℕ) (moment : ℤ) (a b : Move)
    → a.session.moment ≡ Some moment
    → view_of user a.session a.tables ≡ view_of user b.session b.tables
    → deed_of a.session a.command ≡ deed_of b.session b.command
    → concerns user a.session a.command ≡ true
    → (is_shared_reply a.reply ≡ true)
    ⊎ ((is_shared_reply b.reply ≡ true)
    ⊎ ((a.reply ≡ b.reply) × (view_of user a.session' a.tables' ≡ view_of user b.session' b.tables')))

-- a command that doesn't concern the user leaves what the user sees unchanged
abbrev pub OthersLeaveTheView : Type 0
OthersLeaveTheView =
    (user : List ℕ) (a : Move) → concerns user a.session a.command ≡ false
    → view_of user a.session' a.tables' ≡ view_of user a.session a.tables

-- take two stories from sound points that look alike to the user, at a moment; if the acts in them that concern the user
-- have the same deeds and meet no shared refusal, they have the same replies, and the ends look alike
abbrev pub SameDeedsSameReplies : Type 0
SameDeedsSameReplies =
    (user : List ℕ) (moment : ℤ) (a b : Tale)
    → a.session.moment ≡ Some moment
    → view_of user a.session a.tables ≡ view_of user b.session b.tables
    → deeds (acts_of user a) ≡ deeds (acts_of user b)
    → Each (λ act. is_shared_reply act.reply ≡ false) (acts_of user a)
    → Each (λ act. is_shared_reply act.reply ≡ false) (acts_of user b)
    → (replies_in (acts_of user a) ≡ replies_in (acts_of user b)) × (view_of user a.session' a.tables' ≡ view_of user b.session' b.tables')
