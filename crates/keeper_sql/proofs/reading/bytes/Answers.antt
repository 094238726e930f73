use Rattle.std.proofs.Common.{◌≡◌, ℕ, List, Err}
use Rattle.sqlite_value.specs.declared.value.Value.{Value}
use Rattle.sqlite.specs.declared.types.Type.TheVariants.{Blob}
use Rattle.sqlite_value.specs.declared.value.Value.TheVariants as value
use Rattle.keeper_sql.proofs.TakingLemmas.{fails_to_take, is_blob}
use Rattle.keeper_sql.proofs.reading.bytes.Goals as goal

pub returns-in-Err-clause-fails : goal.returns-in-Err-clause-fails
returns-in-Err-clause-fails c =
    fails_to_take Blob c.args.row.now c.args.at (λ (v : Value). (b : List ℕ) × (v ≡ value.Blob b)) (Err c.in-Err.error) is_blob
    c.in-Err.ensures.index c.in-Err.ensures.kind c.in-Err.ensures.which c.in-Err.ensures.named
