pub mod Version
pub mod Replies
pub mod Claims
