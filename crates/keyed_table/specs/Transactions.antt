-- A transaction: what it has run so far, with nothing committed.
use Rattle.std.specs.Prelude.{◌≡◌, ℕ, List, [], ◌∷◌, IsTrue, Ok}
use Rattle.sqlite.specs.State.{State, HasCleanDisk, Survives, KeepsCommit, ExecutesInside}
use Rattle.sqlite.specs.Held.{Held, state}
use Rattle.sqlite_trees.specs.declared.store.Store.{Ghosts}

-- Nothing was committed since the first state: a crash leaves what it could leave then, and a rollback what was
-- committed then.
pub record IsUncommitted (old new : State) : Type 0 where
  pub crash : Survives old new (λ _. ⊥)
  pub kept : HasCleanDisk new → KeepsCommit old new

-- these texts were run in turn inside a transaction, and each changed the database as its text means
abbrev pub HasRunStatements : {S : Type 0} → Ghosts S → List (List ℕ) → (old new : Held S) → Type 0
HasRunStatements g [] old new = old ≡ new
HasRunStatements g (text ∷ texts) old new =
    (mid : Held _) × (count : ℕ) × ExecutesInside 0 text [] (state g old) (state g mid) (Ok count)
    × HasRunStatements g texts mid new

-- the transaction is open, and shows the result of these texts on what it showed first
pub record IsMidTransaction {S : Type 0} (g : Ghosts S) (texts : List (List ℕ)) (old new : Held S) : Type 0 where
  pub uncommitted : IsUncommitted (state g old) (state g new)
  pub inside : HasCleanDisk (state g new) → IsTrue (state g new).in_transaction
  pub ran : HasCleanDisk (state g new) → HasRunStatements g texts old new
