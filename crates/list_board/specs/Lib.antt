pub mod Kept
pub mod Listed
pub mod Listing
