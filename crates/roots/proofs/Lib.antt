pub mod Gathering
pub mod Clearing
pub mod Refusing
