pub mod Examples
pub mod Entries
pub mod Differences
pub mod Sums
pub mod Halves
pub mod Bits
