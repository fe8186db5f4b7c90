pub mod MostTold
