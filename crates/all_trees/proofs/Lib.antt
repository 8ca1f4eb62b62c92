pub mod Lists
pub mod BracketLists
pub mod Closing
pub mod Trees
pub mod Counting
pub mod Laws
pub mod Examples
