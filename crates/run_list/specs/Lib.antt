pub mod Entries
pub mod Inserted
pub mod Claims
