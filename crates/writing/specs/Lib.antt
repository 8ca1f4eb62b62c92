pub mod Writing
pub mod Text
