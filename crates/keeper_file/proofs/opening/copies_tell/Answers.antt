use Rattle.sqlite_wal.specs.Files.{image_at}
use Rattle.keeper_file.proofs.CloseLemmas.{copy_tells}
use Rattle.keeper_file.proofs.opening.copies_tell.Goals as goal

pub returns : goal.returns
returns g c t whole = copy_tells g.D.Disk c.args.files.now (image_at g.S.Start) t c.requires.copied whole
