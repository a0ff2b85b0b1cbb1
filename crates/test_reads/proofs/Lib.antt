pub mod StoredTable
