pub mod Contents
pub mod Layout
pub mod Laws
pub mod RoundTrips
pub mod Writing
