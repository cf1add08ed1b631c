pub mod Buffers
pub mod Examples
pub mod Laws
pub mod Limits
pub mod Orders
pub mod Places
pub mod Refusals
pub mod Tapes
