pub mod TableTold
pub mod RoundTrip
