pub mod Firsts
pub mod Listings
pub mod Places
