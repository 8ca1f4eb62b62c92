pub mod Scanning
pub mod Judging
pub mod Bounds
pub mod Laws
