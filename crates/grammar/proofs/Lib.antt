pub mod Comparing
pub mod Exemplars
pub mod Placing
pub mod Taping
pub mod Writing
