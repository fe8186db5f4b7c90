pub mod Decimal
pub mod Triples
pub mod Putting
pub mod InOrder
pub mod Spaces
pub mod Paging
