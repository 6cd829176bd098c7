-- For private postconditions: no public contract depends on these.
pub mod Cached
pub mod CatalogRows
pub mod TablesStatus
pub mod TableCalls
pub mod Transaction
