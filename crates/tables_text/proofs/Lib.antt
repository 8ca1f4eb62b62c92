pub mod Sizes
pub mod Builds
pub mod Examples
