use Rattle.sqlite_wal.specs.Files.{image_at}
use Rattle.keeper_file.specs.OneDatabase.{holds_one}
use Rattle.keeper_file.proofs.opening.files_hold_one.Goals as goal

pub returns : goal.returns
returns g c a b held other = holds_one (image_at g.S.Start) a b held other
