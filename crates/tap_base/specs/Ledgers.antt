-- The ledger on which steps are counted.
use Rattle.std.specs.Prelude.{ℕ, ◌≡◌, ◌<◌}
use Rattle.std.specs.declared.sync.ledger.Blank.{Blank}

-- the blank opens the ledger of this name, on which steps are counted, with this many parts, at least one
pub record IsBlankOf (own-name own-parts : ℕ) (blank : Blank) : Type 0 where
  pub name : blank.name ≡ own-name
  pub parts : blank.parts ≡ own-parts
  pub some : 0 < blank.parts
