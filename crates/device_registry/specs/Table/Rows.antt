-- The rows of the two tables, and the rows that the queries on them show.
use Rattle.std.specs.Prelude.{◌≡◌, ◌≤◌, ◌≤ℤ◌, ◌==◌, ◌&&◌, nat_le, ◌*◌, ◌+◌, ◌/◌, ◌%◌, ℕ, ℤ, pos, negsuc, Bool, true}
use Rattle.std.specs.Prelude.{false, List, [], ◌∷◌, map, Option, Some, None}
use Rattle.std.specs.FinMap.{from_entries}
use Rattle.erp1_telegrams.specs.declared.eep.Eep.{Eep}
use Rattle.sqlite.specs.declared.types.Value.{Value}
use Rattle.sqlite.specs.declared.types.Value.TheVariants.{Null, Int, Real, Text, Blob}
use Rattle.sqlite.specs.Order.{Row, column}
use Rattle.learned_devices.specs.declared.Device.{Device}
use Rattle.learned_devices.specs.Labels.{is_label}
pub use Rattle.keyed_table.specs.Rows.{natural_in, RowidsDiffer}
use Rattle.device_registry.specs.declared.table.Version.{Version}
use Rattle.device_registry.specs.declared.table.Version.TheVariants.{First, Second}
use Rattle.learned_devices.specs.Devices.{DeviceData, Devices, device}
use Rattle.device_registry.specs.Table.{version_number, max_sender, max_profile, max_maker}

-- ---- the values

-- a profile as it is stored: its three numbers, one byte each
abbrev pub eep_number : Eep → ℕ
eep_number eep = eep.rorg * 65536 + eep.func * 256 + eep.typ

abbrev pub eep_of : (number : ℕ) → Eep
eep_of number = record { rorg = number / 65536 % 256; func = number / 256 % 256; typ = number % 256 }

-- a manufacturer ID as it is stored: -1 for none
abbrev pub maker_number : Option ℕ → ℤ
maker_number (Some maker) = pos maker
maker_number None = negsuc 0

abbrev pub maker_in : Value → Option ℕ
maker_in (Int (pos n)) = Some n
maker_in (Int (negsuc n)) = None
maker_in Null = None
maker_in (Real x) = None
maker_in (Text t) = None
maker_in (Blob b) = None

abbrev pub label_in : Value → List ℕ
label_in (Text label) = label
label_in (Int n) = []
label_in Null = []
label_in (Real x) = []
label_in (Blob b) = []

-- ---- the rows of the tables

-- a row of the device table has its rowid, which is the sender, and then the columns
abbrev pub entry_of : Row → ℕ × DeviceData
entry_of row = (
  natural_in (column row 0),
  record { eep = eep_of (natural_in (column row 2)); maker = maker_in (column row 3); label = label_in (column row 4) },
)

abbrev pub devices_in : List Row → Devices
devices_in rows = from_entries (map entry_of rows)

-- a row of version 1 with the empty label added, as in version 2
abbrev pub with_empty_label : Row → Row
with_empty_label row = column row 0 ∷ Null ∷ column row 2 ∷ column row 3 ∷ Text [] ∷ []

-- the rows of a version as rows of version 2
abbrev pub upgraded_rows : Version → List Row → List Row
upgraded_rows First rows = map with_empty_label rows
upgraded_rows Second rows = rows

-- a row of the device table: a sender, a profile and a manufacturer ID, each in its range, and a label
pub record IsDeviceRow (row : Row) : Type 0 where
  pub id : ℕ
  pub id_is : column row 0 ≡ Int (pos id)
  pub is_sender : id ≤ max_sender
  pub eep : ℕ
  pub eep_is : column row 2 ≡ Int (pos eep)
  pub is_profile : eep ≤ max_profile
  pub maker : ℤ
  pub maker_is : column row 3 ≡ Int maker
  pub is_maker : (negsuc 0 ≤ℤ maker) × (maker ≤ℤ pos max_maker)
  pub label : List ℕ
  pub label_is : column row 4 ≡ Text label
  pub is_label : is_label label ≡ true

-- the row of a device
abbrev pub device_row : (id : ℕ) → DeviceData → Row
device_row id it =
    Int (pos id) ∷ Null ∷ Int (pos (eep_number it.eep)) ∷ Int (maker_number it.maker) ∷ Text it.label ∷ []

-- the parameters of the statement that upserts that row
abbrev pub upsert_params : (id : ℕ) → DeviceData → Row
upsert_params id it =
    Int (pos id) ∷ Int (pos (eep_number it.eep)) ∷ Int (maker_number it.maker) ∷ Text it.label ∷ []

-- the version row
pub record IsVersionRow (version : Version) (row : Row) : Type 0 where
  pub key : column row 0 ≡ Int (pos 1)
  pub number : column row 2 ≡ Int (pos (version_number version))

-- ---- the rows that queries show

-- the device that a query shows by its sender, its profile, its manufacturer ID and its label
abbrev pub shown_device : Row → Device
shown_device row = device (natural_in (column row 0)) (record {
  eep = eep_of (natural_in (column row 1));
  maker = maker_in (column row 2);
  label = label_in (column row 3);
})

-- the row of this device is shown, or none if there is no device
abbrev pub IsDeviceOrNone : Option Device → List Row → Type 0
IsDeviceOrNone None rows = rows ≡ []
IsDeviceOrNone (Some it) rows = (row : Row) × (rows ≡ row ∷ []) × (shown_device row ≡ it)

-- the rows show the version row
pub record ShowsVersion (version : Version) (rows : List Row) : Type 0 where
  pub row : Row
  pub are : rows ≡ row ∷ []
  pub key : column row 0 ≡ Int (pos 1)
  pub number : column row 1 ≡ Int (pos (version_number version))

-- a number that is not above the last
abbrev pub is_natural_up_to : (last : ℕ) → Value → Bool
is_natural_up_to last (Int (pos n)) = nat_le n last
is_natural_up_to last (Int (negsuc n)) = false
is_natural_up_to last Null = false
is_natural_up_to last (Real x) = false
is_natural_up_to last (Text t) = false
is_natural_up_to last (Blob b) = false

-- a manufacturer ID, or the number of none
abbrev pub is_maker : Value → Bool
is_maker (Int (pos n)) = nat_le n max_maker
is_maker (Int (negsuc n)) = n == 0
is_maker Null = false
is_maker (Real x) = false
is_maker (Text t) = false
is_maker (Blob b) = false

-- a text that is a label
abbrev pub is_label_text : Value → Bool
is_label_text (Text label) = is_label label
is_label_text (Int n) = false
is_label_text Null = false
is_label_text (Real x) = false
is_label_text (Blob b) = false

-- the row shows a device: each number in its range, and a label
abbrev pub shows_device : Row → Bool
shows_device row =
    is_natural_up_to max_sender (column row 0) && is_natural_up_to max_profile (column row 1) && is_maker (column row 2)
    && is_label_text (column row 3)

-- the rows show devices, by ascending sender from this one on
abbrev pub are_ascending_devices : (least : ℕ) → List Row → Bool
are_ascending_devices least [] = true
are_ascending_devices least (row ∷ rows) =
    shows_device row && nat_le least (natural_in (column row 0))
    && are_ascending_devices (natural_in (column row 0) + 1) rows
