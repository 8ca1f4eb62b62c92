pub mod Ranks
pub mod Masking
pub mod BothOrders
pub mod Laws
