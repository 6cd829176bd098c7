-- The devices that a log and its database file hold.
use Rattle.sqlite.specs.State.{HasCleanDisk}
use Rattle.sqlite.specs.Held.{Held}
use Rattle.sqlite.specs.Files.{HoldsDatabase, file_state}
use Rattle.sqlite.specs.Recovery.{Image}
use Rattle.sqlite_disk.specs.declared.Disk.{Ghosts}
use Rattle.sqlite_store.specs.declared.store.FileStore.{FileStore}
use Rattle.sqlite_store.specs.FileStore.{state as stored}
use Rattle.sqlite_trees.specs.Tree.{Trees}
use Rattle.learned_devices.specs.Devices.{Devices}
use Rattle.device_registry.specs.Holding.{MayRecover, OpenFinds}

-- the two files hold a database in which an open finds these devices
abbrev pub FilesHold : Image → Devices → Type 0
FilesHold image devices = (trees : Trees) × HoldsDatabase image trees × OpenFinds trees devices

-- whatever a crash leaves in the two files of a registry, they hold devices that this crash could leave
abbrev pub CrashedFilesHold : {D : Type 0} {g : Ghosts D} → Held (FileStore D g) → Type 0
CrashedFilesHold stopped = (image : Image) → (stored stopped.store).may_leave image
    → ∥ ((left : Devices) × MayRecover (file_state stopped) left × FilesHold image left) ∥₁

-- If the next open finds these devices in whatever a crash leaves, the two files hold them. A failed start leaves such
-- a connection.
abbrev pub CrashedFilesHoldFound : {D : Type 0} {g : Ghosts D} → Held (FileStore D g) → Type 0
CrashedFilesHoldFound stopped = (devices : Devices) (image : Image)
    → ((trees : Trees) → (file_state stopped).may_leave trees → OpenFinds trees devices)
    → (stored stopped.store).may_leave image → ∥ FilesHold image devices ∥₁

-- a crash leaves some contents in the two files
abbrev pub SomeFilesAreLeft : {D : Type 0} {g : Ghosts D} → Held (FileStore D g) → Type 0
SomeFilesAreLeft crashed =
    HasCleanDisk (file_state crashed) → ∥ ((image : Image) × (stored crashed.store).may_leave image) ∥₁
