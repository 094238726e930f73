-- What an opener of a path says of its files.
use Rattle.std.specs.Prelude.{is_some}
use Rattle.sqlite_disk.specs.declared.Disk as disk
use Rattle.sqlite_disk.specs.declared.start.Start as start
use Rattle.sqlite_wal.specs.Files.{image_at}
use Rattle.keeper_file.specs.Leftovers.{AreCleanSoFar, MayLeaveSoFar}
use Rattle.keeper_file.specs.OpenerFiles.{FilesOf}
use Rattle.keeper_file.specs.declared.path_opener.PathOpener.{PathOpener}

abbrev pub path_files : {S D : Type 0} (held : start.Ghosts S) {g : disk.Ghosts D} → FilesOf (PathOpener S D held g)
path_files held = record {
  image = image_at held;
  is_unused = λ o. is_some o.start;
  clean = λ o. AreCleanSoFar (image_at held) o.start o.left;
  leaves = λ o t. MayLeaveSoFar (image_at held) o.start o.left t;
}
