-- Re-exports the definitions that several proofs cite. Declares nothing.
pub use Rattle.device_registry.specs.Holding.{HasDevicesIfOpen, OpenFinds, registry_state}
pub use Rattle.device_registry.specs.Opening.{IsRegistryIn, IsSettledOpen}
pub use Rattle.device_registry.specs.Ready.{AreReady, IsReady, IsReadyWith, KeepsOtherTables, KeepsRows}
pub use Rattle.device_registry.specs.SchemaChecks.{admits_tables}
pub use Rattle.device_registry.specs.Stored.{AreTablesListed, HasCatalogText, HasNoReferenceToOurs, HasTables}
pub use Rattle.device_registry.specs.Stored.{HasValidRows, HoldsInVersion, HoldsVersion2, IsRegistry}
pub use Rattle.device_registry.specs.Stored.{IsRegistryOfVersion, IsTableAt, IsVersion2RegistryOf, NoneRefersToOurs}
pub use Rattle.device_registry.specs.Table.{copy_sql, count_others_sql, create_device_sql, create_meta_sql, delete_sql}
pub use Rattle.device_registry.specs.Table.{device_table, device_table_name, drop_sql, find_all_sql, find_sql}
pub use Rattle.device_registry.specs.Table.{list_objects_sql, meta_table, read_version_sql, rewrite_version_sql}
pub use Rattle.device_registry.specs.Table.{upsert_sql, write_version_sql}
pub use Rattle.device_registry.specs.Table.Rows.{IsDeviceRow, RowidsDiffer, are_ascending_devices, devices_in}
pub use Rattle.device_registry.specs.Table.Rows.{entry_of, is_label_text, natural_in, shown_device, upgraded_rows}
pub use Rattle.device_registry.specs.Table.Rows.{upsert_params, with_empty_label}
pub use Rattle.device_registry.specs.declared.schema_check.TablesStatus.{TablesStatus}
pub use Rattle.device_registry.specs.declared.schema_check.TablesStatus.TheVariants.{Absent, Present, Unusable}
pub use Rattle.device_registry.specs.declared.table.Version.{Version}
pub use Rattle.device_registry.specs.declared.table.Version.TheVariants.{First, Second}
pub use Rattle.device_registry.specs.private.TableCalls.{OperationMakesDevice}
pub use Rattle.device_registry.specs.private.TablesStatus.{tables_status}
pub use Rattle.device_registry.specs.private.Transaction.{IsMidTransaction}
pub use Rattle.learned_devices.specs.DeviceStoreState.{Keeps}
pub use Rattle.learned_devices.specs.Devices.{DeviceData, DeviceUpdate, Devices, Learn, Operation, apply_update}
pub use Rattle.learned_devices.specs.Devices.{data_after, device, device_data, device_of, devices_by_ascending_id}
pub use Rattle.learned_devices.specs.Devices.{forget_update, is_full_for, learn_update, max_devices, with_entry}
pub use Rattle.learned_devices.specs.Labels.{is_label}
pub use Rattle.learned_devices.specs.StoreCalls.{Updates}
pub use Rattle.learned_devices.specs.declared.Device.{Device}
pub use Rattle.learned_devices.specs.declared.fault.StoreFault.{StoreFault}
pub use Rattle.lru.specs.LruCache.{LruCache, lru_cache}
