use Rattle.std.proofs.Common.{sym, subst}
use Rattle.sqlite.specs.Files.{over_files}
use Rattle.keeper_file.specs.Cases.{Tells, IsHonest}
use Rattle.keeper_file.specs.Failing.{FailsToCloseOpen}
use Rattle.keeper_file.proofs.closing.close_inner.Goals as goal

pub returns-in-Ok-clause-whole : goal.returns-in-Ok-clause-whole
returns-in-Ok-clause-whole g c clean t told =
    c.in-Ok.ensures.whole clean t (subst (λ k. Tells g.O.Opener.files over_files k t) c.in-File.is told)

pub returns-in-Err-clause-exact : goal.returns-in-Err-clause-exact
returns-in-Err-clause-exact g c clean t told =
    c.in-Err.ensures.exact clean t (subst (λ k. Tells g.O.Opener.files over_files k t) c.in-File.is told)

pub returns-in-Ok-clause-honest : goal.returns-in-Ok-clause-honest
returns-in-Ok-clause-honest g c clean =
    subst (λ k. IsHonest g.O.Opener.files over_files k) (sym c.in-File.is) (c.in-Ok.ensures.honest clean)

pub returns-in-Err-clause-honest_left : goal.returns-in-Err-clause-honest_left
returns-in-Err-clause-honest_left g c clean =
    subst (λ k. IsHonest g.O.Opener.files over_files k) (sym c.in-File.is) (c.in-Err.ensures.honest_left clean)

pub returns-in-Err-clause-fails : goal.returns-in-Err-clause-fails
returns-in-Err-clause-fails g c clean =
    subst (λ k. FailsToCloseOpen k c.in-Err.left.1 c.in-Err.left.0) (sym c.in-File.is) (c.in-Err.ensures.fails clean)
