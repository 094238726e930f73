-- A store tells the tables of one store, and a crash leaves these.
use Rattle.std.proofs.Common.{◌≡◌, ◌∙◌, sym, ap, Bool, true, false, inl, inr, IsTrue}
use Rattle.tap_rows.specs.declared.tables.Tables.{Tables}
use Rattle.sqlite_trees.specs.Tree.{Trees}
use Rattle.sqlite.specs.State.{State}
use Rattle.keeper_sql.specs.Calls.{IsSettled}
use Rattle.keeper_sql.specs.Store.{TellsAs, MayLeave, tables_of}

told_trees : (b : Bool) (s : State) (t : Tables) → TellsAs b s t → t ≡ tables_of s.now.trees
told_trees true s t told = told.tables
told_trees false s t (inl told) = told.tables
told_trees false s t (inr told) = told.tables

told_open : (b : Bool) (s : State) (t : Tables) → TellsAs b s t → IsTrue s.is_open
told_open true s t told = told.is_open
told_open false s t (inl told) = told.is_open
told_open false s t (inr told) = told.is_open

pub tells_one : (b : Bool) (s : State) (x y : Tables) → TellsAs b s x → TellsAs b s y → x ≡ y
tells_one b s x y one two = told_trees b s x one ∙ sym (told_trees b s y two)

module _ (s : State) (b : Bool) (t : Tables) (told : TellsAs b s t) (settled : IsSettled s) where
  -- if a crash may leave the last commit
  pub told_left : (IsTrue s.is_open → s.may_leave s.committed.trees) → MayLeave s t
  told_left stays = let now = told_open b s t told in (s.committed.trees, stays now, told_trees b s t told ∙ ap tables_of (settled now))

  -- if it leaves nothing else
  pub told_alone : ((db : Trees) → IsTrue s.is_open → s.may_leave db → db ≡ s.committed.trees) → (x : Tables) → MayLeave s x → x ≡ t
  told_alone only x left =
      let now = told_open b s t told in
      left.2 ∙ ap tables_of (only left.0 now left.1) ∙ ap tables_of (sym (settled now)) ∙ sym (told_trees b s t told)
