pub mod Examples
pub mod Walks
pub mod Signed
pub mod Bytes
pub mod On
pub mod Back
pub mod Within
pub mod Laws
