use Rattle.std.proofs.Common.{◌≡◌, ◌∙◌, [], true, false, refl, sym}
use Rattle.std.specs.Prelude.{codes}
use Rattle.keeper_sql.specs.Calls.{IsRefused}
use Rattle.sqlite.specs.Held.{state}
use Rattle.keeper_sql.proofs.Refusals.{not_refused_fails, refused_rests, test_refused}
use Rattle.keeper_sql.proofs.keep.is_still_open.Goals as goal

pub returns-then-is_refused-clause-same : goal.returns-then-is_refused-clause-same
returns-then-is_refused-clause-same g c clean open_now =
    refused_rests c.prepare.result (state g.S.Store c.args.conn.now) (state g.S.Store c.prepare.new.self) _ []
    (c.if-is_refused.ensures.0 refl) (c.prepare.ensures.err clean)

pub returns-then-is_refused-clause-exact : goal.returns-then-is_refused-clause-exact
returns-then-is_refused-clause-exact g c clean open_now =
    c.is_settled.ensures.exact (returns-then-is_refused-clause-same g c clean open_now).0.is_open

pub returns-else-is_refused-clause-fails : goal.returns-else-is_refused-clause-fails
returns-else-is_refused-clause-fails g c clean shut =
    let never : IsRefused c.prepare.result
    → ⊥ = λ refused. let e : true ≡ false = sym (c.is_refused.ensures.1 refused) ∙ c.if-is_refused.false in
    cc in
    let old = state g.S.Store c.args.conn.now in
    not_refused_fails c.prepare.result old (state g.S.Store c.prepare.new.self) (codes "DROP") (test_refused old.now.schema) never
    (c.prepare.ensures.shape clean) (c.prepare.ensures.err clean)
