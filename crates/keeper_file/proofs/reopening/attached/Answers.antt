use Rattle.std.proofs.Common.{◌≡◌, false, sym, subst}
use Rattle.sqlite.specs.Held.{state}
use Rattle.keeper_sql.specs.Store.{TellsAs}
use Rattle.keeper_file.proofs.SameLemmas.{runs_on}
use Rattle.keeper_file.proofs.reopening.attached.Goals as goal

pub returns-in-Ok-clause-told : goal.returns-in-Ok-clause-told
returns-in-Ok-clause-told g c clean t told =
    let was = subst (λ b. TellsAs b (state g.A.Store c.args.again.connection) t) (sym c.requires.free.0) told in
    let running : c.attach.new.self.stopped ≡ false = runs_on c.attach.new.self.stopped c.in-Ok.tables c.in-Ok.ensures.stopped in
    (sym (c.in-Ok.ensures.given clean t was), c.attach.ensures.kept clean t was running)
