pub mod Lines
pub mod Beginning
pub mod Running
pub mod Laws
pub mod Examples
