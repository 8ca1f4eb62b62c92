pub mod Clearing
pub mod Parts
pub mod Invariants
pub mod Strings
pub mod Settling
pub mod Walking
