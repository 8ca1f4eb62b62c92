pub mod LittleEndian
pub mod File
pub mod Refusals
pub mod Answers
pub mod Claims
