use Rattle.tql_lex.proofs.Causes.{fault_has_cause, cause_gives_fault, long_is_too_long}
use Rattle.tql_lex.proofs.laws.faults_have_causes.Goals as goal

pub returns : goal.returns
returns c = λ text. (long_is_too_long text, λ fault short. (fault_has_cause text fault short, cause_gives_fault text fault short))
