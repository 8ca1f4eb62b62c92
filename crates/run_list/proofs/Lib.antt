pub mod Entries
pub mod Inserting
pub mod Shifting
pub mod Laws
