use Rattle.sqlite.specs.declared.types.Type.TheVariants.{Integer}
use Rattle.sqlite.specs.Values.{IsInt}
use Rattle.keeper_sql.proofs.TakingLemmas.{fails_to_take, is_integer}
use Rattle.keeper_sql.proofs.reading.integer.Goals as goal

pub returns-clause-fails : goal.returns-clause-fails
returns-clause-fails c = fails_to_take Integer c.args.row.now c.args.at IsInt c.get.result is_integer
    c.get.ensures.index c.get.ensures.kind c.get.ensures.which c.get.ensures.named
