use Rattle.std.proofs.Common.{◌≡◌, refl, sym, subst, None, ℤ, pos}
use Rattle.std.specs.Prelude.{◌⊎◌}
use Rattle.tap_rows.specs.declared.tables.Tables.{Tables}
use Rattle.restart_core.specs.Damages.{damage_of}
use Rattle.tap_model.specs.Sessions.{no_session}
use Rattle.tap_engine.specs.Standing.{Represents}
use Rattle.tap_engine.specs.Started.{IsNewOver}
use Rattle.tap_top.specs.Points.{CanPerform}
use Rattle.tap_top.specs.Premises.{IfTold}
use Rattle.tap_top.specs.Refusals.{row_fault, fault_of}
use Rattle.tap_top.specs.Opened.{HasShortTexts}
use Rattle.tap_top.proofs.Refusals.{not-stopped}
use Rattle.tap_top.proofs.OpenLaws.{if-ok, if-ok-on, on-ok, no-fault, short-texts}
use Rattle.tap_top.specs.Versions.{IsMigrated}
use Rattle.tap_top.proofs.Versions.{known-migrated, known-may, alien-migrated, each-refused}
use Rattle.tap_top.proofs.opening.open_store.Goals as goal

pub returns-in-Ok-clause-can : goal.returns-in-Ok-clause-can
returns-in-Ok-clause-can g c =
    if-ok c.start.result (IsNewOver c.in-Ok.tables) (λ engine. CanPerform g.P.Keeper engine c.attach.new.self)
    (λ engine new. record {
      ready = new.ready;
      running = new.running;
      attached = record {
        reachable = c.in-Ok.ensures.attached.1 refl;
        running = not-stopped (g.P.Keeper.stopped c.attach.new.self) c.in-Ok.ensures.stopped.0 (λ e. cc);
      };
    }) c.start.ensures.ok

pub returns-in-Ok-clause-session : goal.returns-in-Ok-clause-session
returns-in-Ok-clause-session g c =
    if-ok c.start.result (IsNewOver c.in-Ok.tables) (λ engine. engine.session ≡ no_session) (λ engine new. new.session) c.start.ensures.ok

pub returns-in-Ok-clause-represents : goal.returns-in-Ok-clause-represents
returns-in-Ok-clause-represents g c =
    if-ok c.start.result (IsNewOver c.in-Ok.tables)
    (λ engine. IfTold g.P.Keeper c.args.keeper.now c.attach.new.self (λ t. Represents engine t))
    (λ engine new. λ honest t told.
    subst (λ (u : Tables). Represents engine u) (sym (c.in-Ok.ensures.given honest t told)) new.represents)
    c.start.ensures.ok

pub returns-in-Ok-clause-short : goal.returns-in-Ok-clause-short
returns-in-Ok-clause-short g c =
    if-ok-on c.start.result (damage_of c.in-Ok.tables ≡ None) (IsNewOver c.in-Ok.tables) HasShortTexts
    (λ engine none new. short-texts c.in-Ok.tables engine none new.represents) c.start.ensures.undamaged c.start.ensures.ok

pub returns-in-Ok-clause-sure : goal.returns-in-Ok-clause-sure
returns-in-Ok-clause-sure g c =
    on-ok c.start.result (row_fault c.in-Ok.tables ≡ None)
    (IfTold g.P.Keeper c.args.keeper.now c.attach.new.self (λ t. (v : ℤ) → g.P.Keeper.has_version c.args.keeper.now v
    → fault_of v t ≡ None))
    (λ none. λ honest t told v has.
    no-fault t c.in-Ok.tables v (c.in-Ok.ensures.given honest t told) none (c.in-Ok.ensures.known honest v has))
    c.start.ensures.sure

pub returns-in-Ok-clause-version : goal.returns-in-Ok-clause-version
returns-in-Ok-clause-version g c =
    on-ok c.start.result (row_fault c.in-Ok.tables ≡ None)
    (IfTold g.P.Keeper c.args.keeper.now c.attach.new.self (λ t. g.P.Keeper.has_version c.attach.new.self (pos 2)))
    (λ none honest t told. c.in-Ok.ensures.version honest t
    (c.in-Ok.ensures.kept honest t told (not-stopped (g.P.Keeper.stopped c.attach.new.self) c.in-Ok.ensures.stopped.0 (λ e. cc))).told)
    c.start.ensures.sure

pub returns-in-Ok-clause-known : goal.returns-in-Ok-clause-known
returns-in-Ok-clause-known g c =
    on-ok c.start.result (row_fault c.in-Ok.tables ≡ None)
    (g.P.Keeper.honest c.attach.new.self → (v : ℤ) → g.P.Keeper.has_version c.args.keeper.now v → (v ≡ pos 1) ⊎ (v ≡ pos 2))
    (λ none. c.in-Ok.ensures.known) c.start.ensures.sure

pub returns-in-Ok-clause-migrated : goal.returns-in-Ok-clause-migrated
returns-in-Ok-clause-migrated g c =
    each-refused c.start.result
    (IfTold g.P.Keeper c.args.keeper.now c.attach.new.self (λ t. (v : ℤ) → g.P.Keeper.has_version c.args.keeper.now v
    → IsMigrated v (g.P.Keeper.has_version c.attach.new.self)))
    (λ honest t told v has. known-migrated v (g.P.Keeper.has_version c.attach.new.self) (c.in-Ok.ensures.known honest v has)
    (c.in-Ok.ensures.version honest t
    (c.in-Ok.ensures.kept honest t told (not-stopped (g.P.Keeper.stopped c.attach.new.self) c.in-Ok.ensures.stopped.0 (λ e. cc))).told))

pub returns-in-Ok-clause-memory : goal.returns-in-Ok-clause-memory
returns-in-Ok-clause-memory g c =
    λ _ honest t told v has. known-may v (g.P.Keeper.has_version c.attach.new.self) (c.in-Ok.ensures.known honest v has)
    (c.in-Ok.ensures.version honest t
    (c.in-Ok.ensures.kept honest t told (not-stopped (g.P.Keeper.stopped c.attach.new.self) c.in-Ok.ensures.stopped.0 (λ e. cc))).told)

pub returns-in-Err-Alien-clause-migrated : goal.returns-in-Err-Alien-clause-migrated
returns-in-Err-Alien-clause-migrated g c = λ honest t told v has.
    alien-migrated c.in-Err-Alien.field-0 c.in-Err-Alien.version v (g.P.Keeper.has_version c.attach.new.self)
    (g.P.Keeper.honest c.attach.new.self) (g.P.Keeper.has_version c.args.keeper.now)
    c.in-Err-Alien.field-0-is c.in-Err-Alien.ensures.alien c.in-Err-Alien.ensures.same honest has
