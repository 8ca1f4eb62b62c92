pub mod Answers
pub mod Alone
