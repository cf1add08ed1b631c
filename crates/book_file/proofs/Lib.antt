pub mod Accepted
pub mod Files
pub mod Fronts
pub mod Numbers
pub mod Putting
pub mod RoundTrips
pub mod Tables
