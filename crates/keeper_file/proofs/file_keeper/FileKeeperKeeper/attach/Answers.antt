use Rattle.std.proofs.Common.{◌≡◌, Err, inl, inr, ap}
use Rattle.keeper_core.specs.declared.fault.AttachFault.TheVariants as fault
use Rattle.keeper_file.proofs.AttachLemmas.{not_opened, then_attached}
use Rattle.keeper_file.proofs.DurableLemmas.{told_durable}
use Rattle.keeper_file.proofs.file_keeper.FileKeeperKeeper.attach.Goals as goal

pub returns-in-Ok-clause-attaches : goal.returns-in-Ok-clause-attaches
returns-in-Ok-clause-attaches g c =
    let open_now = c.in-Ok.ensures.open in
    then_attached g.O.Opener.files g.A.Store _ _ _ _
    c.attach_open.result c.ready.ensures.honest c.ready.ensures.told c.ready.ensures.version
    open_now.3 open_now.4 c.attach_open.ensures.attaches

pub returns-in-Err-clause-attaches : goal.returns-in-Err-clause-attaches
returns-in-Err-clause-attaches g c =
    let files = g.O.Opener.files in
    not_opened files g.A.Store _ c.ready.new.inner _ c.ready.ensures.honest c.ready.ensures.version
    (λ clean t told.
    told_durable files g.A.Store g.met.O.Opener.exact g.met.A.Store.settled c.ready.new.inner t clean (c.ready.ensures.told clean t told))
    c.in-Err.ensures.free c.ready.ensures.later _ c.in-Err.ensures.kind

pub returns-in-Err-clause-spared : goal.returns-in-Err-clause-spared
returns-in-Err-clause-spared g c shut clean t told =
    told_durable g.O.Opener.files g.A.Store g.met.O.Opener.exact g.met.A.Store.settled c.ready.new.inner t clean
    (c.ready.ensures.told clean t told)

pub returns-in-Err-clause-at_place : goal.returns-in-Err-clause-at_place
returns-in-Err-clause-at_place g c = record {
  memory = λ was now. absurd (let a = c.in-Err.ensures.shut was in let b = now in cc);
  same = c.ready.ensures.same_store;
}

pub returns-in-Ok-clause-fails : goal.returns-in-Ok-clause-fails
returns-in-Ok-clause-fails g c failed = inr (c.ready.new.inner, c.in-Ok.ensures.from, c.attach_open.ensures.fails failed)

pub returns-in-Err-clause-fails : goal.returns-in-Err-clause-fails
returns-in-Err-clause-fails g c failed =
    let is = failed in
    let same : c.in-Err.fault ≡ fault.Failed = cc in
    inl (c.in-Err.ensures.fails (ap Err same))
