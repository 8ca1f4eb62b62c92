-- In the specs of every crate, words in quotation marks are those of document 01, or of the demand that is named; .. marks words left
-- out. Numbered lemmas are named, not quoted.
--
-- y is a list of ranks, the numbers by which letters compare, and n is length y; ranks/specs/Ranks.antt has the rank of a letter.
pub mod Search
pub mod Order
pub mod Nearest
pub mod Rows
pub mod Lyndon
pub mod Periods
pub mod Tree
pub mod Claims
