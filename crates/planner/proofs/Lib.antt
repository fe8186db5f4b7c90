pub mod Bringing
pub mod Carries
