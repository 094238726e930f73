-- A moment text that is read.
use Rattle.std.proofs.Common.{◌≡◌, ℤ, true, false, Option, Some, None, refl}
use Rattle.std.specs.Prelude.{Ok, Err, is_some}
use Rattle.std.specs.Result.{result_ok}
use Rattle.tap_base.specs.declared.numbers.MomentFault.{MomentFault}
use Rattle.tap_base.specs.Numbers.{moment_result}

pub read-some : (found : Option ℤ) (second : ℤ) → Ok second ≡ moment_result found → is_some found ≡ true
read-some None second e = absurd cc
read-some (Some x) second e = refl

pub read-none : (found : Option ℤ) (fault : MomentFault) → Err fault ≡ moment_result found → is_some found ≡ false
read-none None fault e = refl
read-none (Some x) fault e = absurd cc

pub read-is : (found : Option ℤ) (second : ℤ) → Ok second ≡ moment_result found → found ≡ Some second
read-is None second e = absurd cc
read-is (Some x) second e = cc

pub found-is : (found : Option ℤ) → result_ok (moment_result found) ≡ found
found-is None = refl
found-is (Some x) = refl
