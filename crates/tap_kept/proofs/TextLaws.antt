-- Why a text is refused.
use Rattle.std.proofs.Common.{◌≡◌, ◌∙◌, sym, ap, ℕ, List, Some, None, inl, inr}
use Rattle.std.specs.Prelude.{◌⊎◌, Ok, Err}
use Rattle.script_lang.specs.declared.refusal.Refusal.{Refusal}
use Rattle.script_lang.specs.declared.refusal.Refusal.TheVariants.{Memory}
use Rattle.tql_core.specs.Condition.{Condition}
use Rattle.tql_text.specs.declared.fault.TextFault.{TextFault}
use Rattle.tql_text.specs.declared.fault.TextFault.TheVariants as T
use Rattle.tql_text.specs.Texts.{condition_of}
use Rattle.tap_model.specs.Queries.{or_never, condition_in}
use Rattle.tap_model.specs.Verdicts.{fault_refusal, reading_refusal, text_fault}

-- a text that is read has no fault, and its condition is the one that is read
pub read-fine : (source : List ℕ) (c : Condition) → condition_of source ≡ Ok c → (condition_in source ≡ c) × (text_fault source ≡ None)
unfolding condition_in text_fault
read-fine source c e = (ap or_never e, ap reading_refusal e)

none-some : (refusal : Refusal) → None ≡ Some refusal → ⊥
none-some refusal e = cc

-- the refusal of a text that can't be read
pub fault-refused : (source : List ℕ) (fault : TextFault) (refusal : Refusal) → (condition_of source ≡ Err fault) ⊎ (fault ≡ T.Memory)
    → (fault_refusal fault ≡ Some refusal) ⊎ (refusal ≡ Memory) → (text_fault source ≡ Some refusal) ⊎ (refusal ≡ Memory)
unfolding text_fault
fault-refused source fault refusal (inl e) (inl f) = inl (ap reading_refusal e ∙ f)
fault-refused source fault refusal (inr e) (inl f) = absurd (none-some refusal (sym (ap fault_refusal e) ∙ f))
fault-refused source fault refusal e (inr m) = inr m
