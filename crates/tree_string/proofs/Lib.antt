pub mod Examples
pub mod Numbers
pub mod Building
pub mod Matches
pub mod Answering
pub mod Laws
pub mod Writing
