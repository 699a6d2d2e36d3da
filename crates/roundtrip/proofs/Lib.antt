pub mod RoundTrips
pub mod StoredRows
