pub mod RoundTrips
pub mod Algorithm
