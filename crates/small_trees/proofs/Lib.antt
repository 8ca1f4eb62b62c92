pub mod Changing
pub mod Turning
pub mod Answering
pub mod Laws
pub mod Examples
