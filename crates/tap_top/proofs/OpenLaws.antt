-- An engine that was started over the tables that a keeper gave.
use Rattle.std.proofs.Common.{◌≤◌, length, ◌≡◌, ◌∙◌, sym, ap, subst, refl, inl, inr, ℤ, pos, true, Some, None, Result, Ok, Err}
use Rattle.std.proofs.Common.{if◌then◌else◌}
use Rattle.std.specs.Prelude.{◌⊎◌, IfOk, OnOk}
use Rattle.keeper_core.specs.Stored.{is_attachable}
use Rattle.tap_rows.specs.declared.tables.Tables.{Tables}
use Rattle.tap_rows.specs.Kept.{Each}
use Rattle.restart_core.specs.Damages.{damage_of}
use Rattle.restart_core.proofs.DamageLaws as damages
use Rattle.tap_engine.specs.declared.engine.Engine.{Engine}
use Rattle.tap_engine.specs.Standing.{Represents}
use Rattle.tap_engine.proofs.FormedLaws.{formed}
use Rattle.tap_top.specs.declared.store_fault.StoreFault.TheVariants.{Version}
use Rattle.tap_top.specs.Refusals.{row_fault, fault_of}
use Rattle.tap_top.specs.Opened.{HasShortTexts}

-- what follows of a result's value
pub if-ok : {T E : Type 0} (r : Result T E) (P Q : T → Type 0) → ((x : T) → P x → Q x) → IfOk r P → IfOk r Q
if-ok (Ok x) P Q f h = f x h
if-ok (Err y) P Q f h = tt

pub on-ok : {T E : Type 0} (r : Result T E) (P Q : Type 0) → (P → Q) → OnOk r P → OnOk r Q
on-ok (Ok x) P Q f h = f h
on-ok (Err y) P Q f h = tt

pub if-ok-on : {T E : Type 0} (r : Result T E) (S : Type 0) (P Q : T → Type 0) → ((x : T) → S → P x → Q x) → OnOk r S → IfOk r P → IfOk r Q
if-ok-on (Ok x) S P Q f s h = f x s h
if-ok-on (Err y) S P Q f s h = tt

-- an engine over undamaged tables has their documents, whose texts are short
pub short-texts : (tables : Tables) (engine : Engine) → damage_of tables ≡ None → Represents engine tables → HasShortTexts engine
short-texts tables engine none represents =
    subst (λ docs. Each (λ doc. length doc.text ≤ 1048576) docs) (sym (ap (λ (index : Tables). index.docs) represents.rows))
    (formed tables (damages.formed tables none)).short

known-is : (v : ℤ) → (v ≡ pos 1) ⊎ (v ≡ pos 2) → is_attachable v ≡ true
known-is v (inl e) = subst (λ w. is_attachable w ≡ true) (sym e) refl
known-is v (inr e) = subst (λ w. is_attachable w ≡ true) (sym e) refl

-- tables without a damaged row are refused in no known version
pub no-fault : (t tables : Tables) (v : ℤ) → t ≡ tables → row_fault tables ≡ None → (v ≡ pos 1) ⊎ (v ≡ pos 2) → fault_of v t ≡ None
no-fault t tables v same none known = ap (λ b. if b then row_fault t else Some (Version v)) (known-is v known) ∙ ap row_fault same ∙ none
