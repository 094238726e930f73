use Rattle.std.proofs.Common.{rules, refl}
use Rattle.sqlite.specs.Values.{bound_value}
use Rattle.sqlite_value.specs.Value.{owned}
use Rattle.keeper_sql.specs.RowsAsValues.{given_pick}
use Rattle.keeper_sql.proofs.ReadBack.{read_pick}
use Rattle.keeper_sql.proofs.EightPicks.{five-seen}
use Rattle.keeper_sql.proofs.picks.put_values.Goals as goal

pub returns-clause-given : goal.returns-clause-given
returns-clause-given c =
    five-seen (λ v. bound_value (owned v)) c.args.values.now _ c.args.at _ _ _ _ _ (given_pick c.args.pick.now) c.requires refl
    (search rules)

pub returns-clause-read : goal.returns-clause-read
returns-clause-read c = read_pick c.args.pick.now (search rules, search rules, search rules, search rules)
