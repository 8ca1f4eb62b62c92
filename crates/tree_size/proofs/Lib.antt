pub mod Input
pub mod Laws
pub mod Examples
