pub mod Lasting
pub mod Lent
pub mod Tests
