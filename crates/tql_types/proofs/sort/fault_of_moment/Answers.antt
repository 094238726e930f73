use Rattle.std.proofs.Common.{refl}
use Rattle.tap_base.specs.Numbers.{moment_of}
use Rattle.tql_types.proofs.Moments.{read-some, read-none}
use Rattle.tql_types.proofs.sort.fault_of_moment.Goals as goal

pub returns-in-Ok : goal.returns-in-Ok
returns-in-Ok c = rw (read-some (moment_of c.args.text.now) c.in-Ok.field-0 c.in-Ok.ensures) refl

pub returns-in-Err : goal.returns-in-Err
returns-in-Err c = rw (read-none (moment_of c.args.text.now) c.in-Err.field-0 c.in-Err.ensures) refl
