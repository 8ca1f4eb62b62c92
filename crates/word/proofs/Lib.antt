pub mod Duval
pub mod Laws
