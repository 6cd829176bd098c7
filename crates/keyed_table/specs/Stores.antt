-- A database that holds a value, as the map of a table, between two statements.
use Rattle.std.specs.Prelude.{◌≡◌, ◌⊎◌, false, Result, OnOk, OnErr, IsTrue}
use Rattle.sqlite.specs.Effect.{Database, IsDatabase}
use Rattle.sqlite.specs.State.{State, HasCleanDisk}
use Rattle.sqlite_trees.specs.Tree.{Trees}

-- the connection is open, with no open transaction, over a sound database
pub record IsSettledOpen (s : State) : Type 0 where
  pub is_open : IsTrue s.is_open
  pub idle : s.in_transaction ≡ false
  pub settled : s.now ≡ s.committed
  pub sound : IsDatabase s.now

-- if the connection is still open, it shows the same database as before, with no open transaction
abbrev pub KeepsDatabaseIfStillOpen : (old new : State) → Type 0
KeepsDatabaseIfStillOpen old new = IsTrue new.is_open → IsSettledOpen old → IsSettledOpen new × (new.now ≡ old.now)

-- when a database holds a value
module _ {M : Type 0} (Holds : Database → M → Type 0) where
  -- the trees are those of a database that holds this value
  pub record HoldsIn (trees : Trees) (m : M) : Type 0 where
    pub db : Database
    pub same : db.trees ≡ trees
    pub sound : IsDatabase db
    pub holds : Holds db m

  -- the connection is open with no open transaction, and the database holds this value
  pub record IsReadyWith (s : State) (m : M) : Type 0 where
    pub is_open : IsTrue s.is_open
    pub idle : s.in_transaction ≡ false
    pub settled : s.now ≡ s.committed
    pub sound : IsDatabase s.now
    pub holds : Holds s.now m

  pub record IsReady (s : State) : Type 0 where
    pub held : M
    pub shows : IsReadyWith s held

  -- while the disk is clean, an open connection is ready
  abbrev pub IsReadyIfOpen : State → Type 0
  IsReadyIfOpen s = HasCleanDisk s → IsTrue s.is_open → IsReady s

  -- if the connection is still open, it was open before, and the database holds the same value
  abbrev pub KeepsValueIfStillOpen : (old new : State) → Type 0
  KeepsValueIfStillOpen old new = IsTrue new.is_open → IsTrue old.is_open
      × ((m : M) → IsReadyWith old m → IsReadyWith new m)

  -- nothing is written
  pub record WritesNothing (old new : State) : Type 0 where
    pub clean : HasCleanDisk new → HasCleanDisk old
    pub crash : HasCleanDisk new → (trees : Trees) → new.may_leave trees → old.may_leave trees
    pub goes_on : HasCleanDisk new → KeepsValueIfStillOpen old new

  -- the update is made and committed; or it failed, and then a crash may leave it nevertheless
  pub record CommitsOrMayBeLeft {T E : Type 0} (old new : State) (update : M → M) (result : Result T E) : Type 0 where
    pub clean : HasCleanDisk new → HasCleanDisk old
    pub crash : HasCleanDisk new → (trees : Trees) → new.may_leave trees → old.may_leave trees
        ⊎ (IsTrue old.is_open × ((m : M) → IsReadyWith old m → HoldsIn trees (update m)))
    pub made : HasCleanDisk new → OnOk result ((m : M) → IsReadyWith old m → IsReadyWith new (update m))
    pub failed : HasCleanDisk new → OnErr result (KeepsValueIfStillOpen old new)
