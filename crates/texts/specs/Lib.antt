pub mod Decimal
pub mod Triples
pub mod Words
pub mod Lines
pub mod Put
pub mod Page
