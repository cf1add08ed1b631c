pub mod Growing
pub mod Least
pub mod Meanings
pub mod Parts
pub mod Serves
