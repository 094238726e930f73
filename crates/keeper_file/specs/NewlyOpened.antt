-- What a keeper has just opened.
use Rattle.std.specs.Prelude.{◌≡◌, ℤ, true, false, []}
use Rattle.tap_rows.specs.declared.tables.Tables.{Tables}
use Rattle.sqlite_trees.specs.declared.store.Store.{Ghosts}
use Rattle.keeper_file.specs.Images.{ImageTells, ImageHasVersion}
use Rattle.keeper_file.specs.OpenerFiles.{FilesOf}
use Rattle.keeper_file.specs.Cases.{Tells, HasVersion, IsHonest, has_open_store, is_attached, is_stopped, faults_of, path_of}
use Rattle.keeper_file.specs.declared.inner.Inner.{Inner}

module _ {A O : Type 0} (files : FilesOf O) (g : Ghosts A) where
  -- a store is open, and was never attached; if the disk was honest, it tells the tables and the version that the files held
  pub record IsNewlyOpened (new : Inner A O g) : Type 0 where
    pub opened : has_open_store new ≡ true
    pub unattached : is_attached new ≡ false
    pub running : is_stopped new ≡ false
    pub pathless : path_of new ≡ []
    pub calm : faults_of new ≡ 0
    pub told : IsHonest files g new → (t : Tables) → ImageTells files.image t → Tells files g new t
    pub version : IsHonest files g new → (v : ℤ) → ImageHasVersion files.image v → HasVersion files g new v
