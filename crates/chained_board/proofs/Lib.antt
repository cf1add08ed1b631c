pub mod Tables
pub mod Puts
pub mod Widens
pub mod Walks
pub mod Fresh
pub mod Steps
