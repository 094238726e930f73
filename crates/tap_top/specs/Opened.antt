-- How the opening of a store ended.
use Rattle.std.specs.Prelude.{◌≤◌, ⊤, length, Result, Ok, Err}
use Rattle.tap_rows.specs.declared.tables.TheConstants.{MESSAGE_LIMIT}
use Rattle.tap_rows.specs.Kept.{Each}
use Rattle.tap_engine.specs.declared.engine.Engine.{Engine}
use Rattle.tap_top.specs.declared.store_fault.StoreFault.{StoreFault}
use Rattle.tap_top.specs.declared.opening.OpenFault.{OpenFault}
use Rattle.tap_top.specs.declared.opening.OpenFault.TheVariants.{Refused, Keeper, Memory}

-- no text of the engine's documents is longer than a message may be
abbrev pub HasShortTexts : Engine → Type 0
HasShortTexts engine = Each (λ doc. length doc.text ≤ MESSAGE_LIMIT) engine.index.docs

-- this holds of the fault for which a store was refused
abbrev pub IfRefused : {T : Type 0} → Result T OpenFault → (StoreFault → Type 0) → Type 0
IfRefused (Ok opened) P = ⊤
IfRefused (Err (Refused fault)) P = P fault
IfRefused (Err Keeper) P = ⊤
IfRefused (Err Memory) P = ⊤
