pub mod Answering
pub mod Laws
pub mod Meaning
pub mod Serving
