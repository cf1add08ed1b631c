pub mod Boards
pub mod Chains
pub mod Laws
