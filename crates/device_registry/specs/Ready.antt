-- The registry between two of its statements, and the effect of each on it.
use Rattle.std.specs.Prelude.{◌≡◌, false, Result}
use Rattle.sqlite.specs.State.{State}
use Rattle.sqlite.specs.Effect.{Database}
use Rattle.sqlite.specs.Table.{Table}
use Rattle.sqlite_rules.specs.Lists.{Has}
use Rattle.sqlite_schema.specs.Names.{same_name}
use Rattle.device_registry.specs.declared.table.Version.{Version}
use Rattle.device_registry.specs.Table.{meta_name, device_table_name}
use Rattle.learned_devices.specs.Devices.{Devices, DeviceUpdate, apply_update}
use Rattle.keyed_table.specs.Stores as stores
use Rattle.device_registry.specs.Stored.{IsVersion2RegistryOf}

-- the registry is open with no open transaction, and has these devices
abbrev pub IsReadyWith : State → Devices → Type 0
IsReadyWith = stores.IsReadyWith IsVersion2RegistryOf

abbrev pub IsReady : State → Type 0
IsReady = stores.IsReady IsVersion2RegistryOf

-- ready before and after
abbrev pub AreReady : (old new : State) → Type 0
AreReady old new = IsReady old × IsReady new

-- while the disk is clean, an open connection is ready
abbrev pub IsReadyIfOpen : State → Type 0
IsReadyIfOpen = stores.IsReadyIfOpen IsVersion2RegistryOf

-- nothing is written
abbrev pub WritesNothing : State → State → Type 0
WritesNothing = stores.WritesNothing IsVersion2RegistryOf

-- the update is made and committed; or it failed, and then a crash may leave it nevertheless
abbrev pub CommitsOrMayBeLeft : {T E : Type 0} → (old new : State) → DeviceUpdate → Result T E → Type 0
CommitsOrMayBeLeft old new update =
    stores.CommitsOrMayBeLeft IsVersion2RegistryOf old new (λ devices. apply_update devices update)

-- each table has the rows that it had
pub record KeepsRows (old new : State) : Type 0 where
  pub schema : new.now.schema ≡ old.now.schema
  pub rows : (table : Table) → Has old.now.schema.tables table → new.now.trees table.tree ≡ old.now.trees table.tree

-- each table with none of our names, of either version, still exists with its rows
abbrev pub KeepsOtherTables : (old new : Database) → Type 0
KeepsOtherTables old new = (table : Table) → Has old.schema.tables table → same_name table.name meta_name ≡ false
    → ((version : Version) → same_name table.name (device_table_name version) ≡ false)
    → Has new.schema.tables table × (new.trees table.tree ≡ old.trees table.tree)
