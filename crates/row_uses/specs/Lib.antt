pub mod Given
pub mod Uses
pub mod Files
