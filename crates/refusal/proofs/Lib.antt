pub mod Examples
pub mod Numbers
pub mod Answers
pub mod Tables
