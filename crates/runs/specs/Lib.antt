pub mod Lists
pub mod Reported
