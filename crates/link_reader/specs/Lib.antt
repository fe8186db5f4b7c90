pub mod LinkAnswer
