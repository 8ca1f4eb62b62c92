pub mod WorkTables
pub mod States
