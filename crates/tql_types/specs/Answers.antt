-- What a check gives.
use Rattle.std.specs.Prelude.{◌≡◌, ◌⊎◌, Result, Ok, Err}
use Rattle.tql_core.specs.declared.cond.Cond.{Cond}
use Rattle.tql_core.specs.Condition.{Condition, condition}
use Rattle.tql_types.specs.declared.fault.TypeFault.{TypeFault}
use Rattle.tql_types.specs.declared.fault.TypeFault.TheVariants.{Memory}

-- the result is what typing gives, or out of memory
abbrev pub AgreesWithTyping : Result Condition TypeFault → Result Cond TypeFault → Type 0
AgreesWithTyping expected (Ok cond) = expected ≡ Ok (condition cond)
AgreesWithTyping expected (Err fault) = (expected ≡ Err fault) ⊎ (fault ≡ Memory)
