-- The rows of the device table: the CHECKs, the test of the rows that queries show, the ranges of the numbers, and the
-- devices that the rows encode. The table of version 2 is a keyed table.
use Rattle.std.proofs.lemmas.Grind.{common_steps}
use Rattle.keyed_table.proofs.Common.{◌≡◌, ◌≤◌, ◌<◌, ℕ, ℤ, ◌≤ℤ◌, pos, negsuc, true, List, refl, arith, Some, None}
use Rattle.keyed_table.proofs.Common.{Option, length, and_parts, nat_tests, ints, Value, Int, Text, Row, column}
use Rattle.keyed_table.proofs.Common.{passes_checks, Codec, IsCodec, AllByRecursion, all_weaker, HasKey, AreKeyed}
use Rattle.std.proofs.lemmas.Bool.{le-leb, leb-true}
use Rattle.device_registry.proofs.Common.{is_label, DeviceData, device, Second, First, device_table, device_table_name}
use Rattle.device_registry.proofs.Common.{find_sql, find_all_sql, count_others_sql, upsert_sql, delete_sql, IsDeviceRow}
use Rattle.device_registry.proofs.Common.{entry_of, is_label_text, RowidsDiffer, with_empty_label, upgraded_rows}
use Rattle.device_registry.proofs.Common.{upsert_params, Version}
use Rattle.learned_devices.specs.Ranges.{HasDeviceNumbersInRange}
use Rattle.keyed_table.proofs.Columns.{casts, is_between, lies_between}
use Rattle.device_registry.proofs.StatementTexts.{shown, device_terms, upsert_terms}
use Rattle.keyed_table.proofs.RowsAsMap.{apart_from}
use Rattle.device_registry.specs.Table.{max_sender, max_profile, max_maker, device_columns}
use Rattle.device_registry.specs.Table.Rows.{device_row, eep_number, maker_number, maker_in, is_natural_up_to, is_maker}
use Rattle.device_registry.specs.Table.Rows.{shows_device, eep_of}
use Rattle.sqlite_trees.proofs.ListLemmas.{all_from_map, ascending_from_map}
use Rattle.erp1_telegrams.specs.declared.eep.Eep.{Eep}

-- ---- values

numbered : (last : ℕ) (v : Value) → is_natural_up_to last v ≡ true → (n : ℕ) × (v ≡ Int (pos n)) × (n ≤ last)
numbered last (Int (pos n)) passes = (n, refl, leb-true n last passes)
numbered last _ passes = absurd cc

-- a manufacturer ID, or the number of none
abbrev IsMaker : ℤ → Type 0
IsMaker n = (negsuc 0 ≤ℤ n) × (n ≤ℤ pos max_maker)

maker_numbered : (v : Value) → is_maker v ≡ true → (n : ℤ) × (v ≡ Int n) × IsMaker n
maker_numbered (Int (pos n)) passes = (pos n, refl, grind (arith, ints, nat_tests))
maker_numbered (Int (negsuc n)) passes = (negsuc n, refl, grind (arith, ints, nat_tests))
maker_numbered _ passes = absurd cc

maker_passes : (n : ℤ) → IsMaker n → is_maker (Int n) ≡ true
maker_passes (pos n) maker = grind (arith, ints, nat_tests)
maker_passes (negsuc n) maker = grind (arith, ints, nat_tests)

labelled : (v : Value) → is_label_text v ≡ true → (label : List ℕ) × (v ≡ Text label) × (is_label label ≡ true)
labelled (Text label) passes = (label, refl, passes)
labelled _ passes = absurd cc

-- ---- rows

-- a row that is shown as a device is the row of a device
pub device_is : (row : Row) → shows_device (shown row) ≡ true → IsDeviceRow row
device_is row passes =
    let (three, label_passes) = and_parts _ _ passes in
    let (two, maker_passes) = and_parts _ _ three in
    let id = numbered max_sender (column row 0) (and_parts _ _ two).0 in
    let eep = numbered max_profile (column row 2) (and_parts _ _ two).1 in
    let maker = maker_numbered (column row 3) maker_passes in
    let label = labelled (column row 4) label_passes in
    record {
      id = id.0;
      id_is = id.1;
      is_sender = id.2;
      eep = eep.0;
      eep_is = eep.1;
      is_profile = eep.2;
      maker = maker.0;
      maker_is = maker.1;
      is_maker = maker.2;
      label = label.0;
      label_is = label.1;
      is_label = label.2;
    }

-- a row that passes the CHECKs and has a valid label is the row of a device
pub checked : (d id : ℕ) (row : DeviceData) → is_label row.label ≡ true
    → passes_checks (device_table Second d) (device_row id row) ≡ true → IsDeviceRow (device_row id row)
checked d id row label passes =
    let eep = eep_number row.eep in
    let sender = and_parts (is_between (pos 0) (pos max_sender) (pos id)) _ passes in
    let profile = and_parts (is_between (pos 0) (pos max_profile) (pos eep)) _ sender.1 in
    let maker = and_parts (is_between (negsuc 0) (pos max_maker) (maker_number row.maker)) true profile.1 in
    device_is (device_row id row) (rw (
      le-leb id max_sender (omega (arith, ints, (lies_between (pos 0) (pos max_sender) (pos id) sender.0).1)),
      le-leb eep max_profile (omega (arith, ints, (lies_between (pos 0) (pos max_profile) (pos eep) profile.0).1)),
      maker_passes (maker_number row.maker) (lies_between (negsuc 0) (pos max_maker) (maker_number row.maker) maker.0),
      label,
    ) refl)

-- the row of a device is shown as a device
pub device_shows : (row : Row) → IsDeviceRow row → shows_device (shown row) ≡ true
device_shows row is = grind (arith, common_steps)

-- the numbers of a device are in range
pub row-in : (row : Row) → IsDeviceRow row → HasDeviceNumbersInRange (device (entry_of row).0 (entry_of row).1)
row-in row is = grind (arith, common_steps)

-- ---- the devices that rows encode

-- the device that a row encodes, without its sender, which is the key
abbrev pub data_in : Row → DeviceData
data_in row = (entry_of row).1

maker_back : (maker : Option ℕ) → maker_in (Int (maker_number maker)) ≡ maker
maker_back (Some n) = refl
maker_back None = refl

-- each number of the profile is a byte
pub record IsShort (eep : Eep) : Type 0 where
  pub rorg : eep.rorg < 256
  pub func : eep.func < 256
  pub typ : eep.typ < 256

eep_back : (eep : Eep) → IsShort eep → eep_of (eep_number eep) ≡ eep
eep_back eep short = grind (arith, common_steps)

pub key_of : (row : Row) → IsDeviceRow row → HasKey row
key_of row is = record { id = is.id; id_is = is.id_is }

pub keyed : (rows : List Row) → AllByRecursion IsDeviceRow rows → RowidsDiffer rows → AreKeyed rows
keyed rows all differ =
    let keys = all_weaker IsDeviceRow HasKey key_of rows all in
    record { keys = keys; apart = apart_from rows keys differ }

-- in either version, the stored rows have keys, and no two the same
pub stored_keyed : (version : Version) (rows : List Row) → AllByRecursion IsDeviceRow (upgraded_rows version rows)
    → RowidsDiffer (upgraded_rows version rows) → AreKeyed rows
stored_keyed First rows all differ =
    let keys = all_weaker (λ r. IsDeviceRow (with_empty_label r)) HasKey
    (λ r is. record { id = is.id; id_is = is.id_is }) rows (all_from_map IsDeviceRow with_empty_label rows all) in
    record { keys = keys; apart = apart_from rows keys (ascending_from_map _ with_empty_label rows differ) }
stored_keyed Second rows all differ = keyed rows all differ

-- ---- the device table of version 2 as a keyed table

abbrev pub devices : Codec DeviceData
devices = record {
  name = device_table_name Second;
  columns = device_columns Second;
  checks = (device_table Second 0).checks;
  IsRow = IsDeviceRow;
  Fits = λ id device. IsShort device.eep × (is_label device.label ≡ true);
  value = data_in;
  row = device_row;
  select_terms = device_terms Second;
  params = upsert_params;
  upsert_terms = upsert_terms;
  upsert_width = length upsert_terms;
  find_sql = find_sql;
  all_sql = find_all_sql Second;
  count_others_sql = count_others_sql;
  upsert_sql = upsert_sql;
  delete_sql = delete_sql;
}

pub codec : IsCodec devices
codec = record {
  key_of = key_of;
  key_is = λ id device. record { id = id; id_is = refl };
  key_back = λ id device. refl;
  back = λ id device fits i.
      record device { eep = eep_back device.eep fits.0 i; maker = maker_back device.maker i };
  stored = λ tree id device. simp casts;
  mends = λ tree id device. refl;
  upsert_row_is = λ db tree id device rows given. given.1;
  passing_is_row = λ tree id device fits judged. checked tree id device fits.1 judged.3;
}
