-- When a store is refused, and the line that is put then.
use Rattle.std.proofs.Common.{◌≡◌, ◌≢◌, ◌∙◌, sym, refl, subst, ℕ, ℤ, pos, List, [], ◌∷◌, length, Bool, true, false, Option, Some, None}
use Rattle.std.proofs.Common.{Err, inl, inr}
use Rattle.std.specs.Prelude.{◌⊎◌, Result, Ok, IsOk}
use Rattle.std.specs.Io.KnownBytes.{Appends}
use Rattle.std.proofs.Math.Seq.{take-length}
use Rattle.tap_edges.proofs.Puts.{Appends-none}
use Rattle.tap_rows.specs.declared.tables.Tables.{Tables}
use Rattle.tap_rows.specs.declared.rows.QueryRow.{QueryRow}
use Rattle.tap_rows.specs.Kept.{Each}
use Rattle.tql_core.specs.Condition.{Condition}
use Rattle.tql_text.specs.declared.fault.TextFault.{TextFault}
use Rattle.tql_text.specs.Texts.{condition_of}
use Rattle.restart_core.specs.Starts.{condition_text}
use Rattle.restart_core.specs.Damages.{is_condition, is_readable}
use Rattle.restart_core.proofs.DamageLaws.{undamaged}
use Rattle.tap_model.specs.Sound.{IsStore}
use Rattle.tap_model.specs.Verdicts.{text_fault}
use Rattle.tap_model.proofs.StoreLaws.{text-read}
use Rattle.tap_engine.specs.declared.engine.Engine.{Engine}
use Rattle.tap_engine.proofs.StartedLaws.{none-unread}
use Rattle.tap_top.specs.declared.store_fault.StoreFault.{StoreFault}
use Rattle.tap_top.specs.declared.opening.OpenFault.{OpenFault}
use Rattle.tap_top.specs.declared.opening.OpenFault.TheVariants.{Refused as RefusedStore}
use Rattle.tap_top.specs.Opened.{IfRefused}
use Rattle.tap_top.specs.Refusals.{row_fault, fault_of, CutLine, Refused}

-- a known version is no fault
pub known-fault : (v : ℤ) (t : Tables) → (v ≡ pos 1) ⊎ (v ≡ pos 2) → fault_of v t ≡ row_fault t
known-fault v t (inl one) = rw one refl
known-fault v t (inr two) = rw two refl

is-condition : (reading : Result Condition TextFault) → IsOk reading → is_condition reading ≡ true
is-condition (Ok condition) ok = refl
is-condition (Err fault) ok = ok

each-readable : (queries : List QueryRow) → Each (λ query. text_fault (condition_text query.source) ≡ None) queries
    → Each (λ query. is_readable query ≡ true) queries
each-readable [] each = tt
each-readable (query ∷ queries) each = (
  is-condition (condition_of (condition_text query.source))
      (text-read (condition_text query.source) each.0),
  each-readable queries each.1,
)

-- the tables that a session left have none
store-fault : (t : Tables) → IsStore t → row_fault t ≡ None
store-fault t store = rw (undamaged t store.formed (each-readable t.queries store.sources), none-unread t.filters store.rules) refl

pub fine-store : (t : Tables) (v : ℤ) → IsStore t → (v ≡ pos 1) ⊎ (v ≡ pos 2) → fault_of v t ≡ None
fine-store t v store known = known-fault v t known ∙ store-fault t store

pub some-or-none : (found : Option StoreFault) (fault : StoreFault) → found ≡ Some fault → found ≡ None → ⊥
some-or-none found fault some none = cc

-- a line that was put whole
pub CutLine-whole : (status : ℕ) (text : List ℕ) (out out' : Option (List ℕ)) → Appends out out' text → CutLine status text out out'
CutLine-whole status text out out' put =
    record { n = length text; written = subst (λ xs. Appends out out' xs) (sym (take-length text)) put; whole = λ _. take-length text }

-- a store that wasn't refused: nothing was put
pub Refused-none : (status : ℕ) (fault : StoreFault) (left left' out out' : Option (List ℕ)) (tells leaves : Tables → Type 0) (t : Tables)
    → status ≡ 2 ⊎ (status ≡ 4 ⊎ (status ≡ 5 ⊎ (status ≡ 6 ⊎ status ≡ 7))) → (status ≡ 6 → ⊥) → left' ≡ left → out' ≡ out
    → (status ≢ 5 → tells t) → ((x : Tables) → leaves x → x ≡ t) → Refused status fault left left' out out' tells leaves t
Refused-none status fault left left' out out' tells leaves t is six unread unwritten told exact = record {
  statuses = is;
  unread = unread;
  line = record { n = 0; written = subst (λ o. Appends out o []) (sym unwritten) (Appends-none out); whole = λ e. absurd (six e) };
  none = λ _ _. refl;
  told = told;
  exact = exact;
}

-- a keeper that isn't stopped
pub not-stopped : {A : Type 0} (b : Bool) → (b ≡ true → A) → (A → ⊥) → b ≡ false
not-stopped true stops never = absurd (never (stops refl))
not-stopped false stops never = refl

-- what holds of the fault of a refused store
pub refused-for : (P : StoreFault → Type 0) (end : OpenFault) (fault : StoreFault) → IfRefused {T = Engine} (Err end) P
    → end ≡ RefusedStore fault → P fault
refused-for P end fault holds is = subst (λ x. IfRefused {T = Engine} (Err x) P) is holds
