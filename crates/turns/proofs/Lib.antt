pub mod Bottleneck
pub mod Peeling
