-- Out of memory, once a command isn't refused.
use Rattle.std.proofs.Common.{◌≡◌, ◌∙◌, sym, refl, ap, ℕ, zero, suc, List, [], ◌∷◌, Option, Some, None, inr}
use Rattle.std.specs.Prelude.{is_some, take}
use Rattle.tap_rows.specs.declared.tables.Tables.{Tables}
use Rattle.mail_lines.specs.declared.block.Block.{Block}
use Rattle.script_lang.specs.declared.command.Command.TheVariants.{Define, Mbox, Filter}
use Rattle.script_lang.specs.declared.refusal.Refusal.{Refusal}
use Rattle.script_lang.specs.declared.refusal.Refusal.TheVariants.{Memory}
use Rattle.tap_model.specs.Stories.{Refuses}
use Rattle.tap_model.specs.Verdicts.{first_refusal, checks}
use Rattle.tap_model.proofs.AnswerLaws.{some-none}
use Rattle.tap_engine.specs.declared.engine.Engine.{Engine}
use Rattle.tap_engine.specs.FilterChecks.{filter_refusal}
use Rattle.tap_engine.specs.Standing.{Represents, define_refusal, mbox_refusal}
use Rattle.tap_engine.proofs.CheckLaws.{define-verdict}
use Rattle.tap_engine.proofs.FilterLaws.{filter-verdict}
use Rattle.tap_engine.proofs.MboxLaws.{mbox-verdict}

-- if no check refuses, none of the first does
pub first-none : (n : ℕ) (list : List (Option Refusal)) → first_refusal list ≡ None → first_refusal (take n list) ≡ None
first-none zero list none = refl
first-none (suc n) [] none = refl
first-none (suc n) (None ∷ list) none = first-none n list none
first-none (suc n) (Some refusal ∷ list) none = absurd (some-none refusal none)

pub define-memory : (e : Engine) (name source : List ℕ) → define_refusal e name source ≡ None → (t : Tables) → Represents e t
    → Refuses Memory (Define name source) e.session t
define-memory e name source none t represents =
    inr (refl, ap is_some (first-none 4 (checks (Define name source) e.session t) (sym (define-verdict e t name source represents) ∙ none)))

pub filter-memory : (e : Engine) (block : Block) → filter_refusal e block ≡ None → (t : Tables) → Represents e t
    → Refuses Memory (Filter block) e.session t
filter-memory e block none t represents =
    inr (refl, ap is_some (first-none 6 (checks (Filter block) e.session t) (sym (filter-verdict e t block represents) ∙ none)))

pub mbox-memory : (e : Engine) (block : Block) → mbox_refusal e block ≡ None → (t : Tables) → Represents e t
    → Refuses Memory (Mbox block) e.session t
mbox-memory e block none t represents =
    inr (refl, ap is_some (first-none 1 (checks (Mbox block) e.session t) (sym (mbox-verdict e t block represents) ∙ none)))
