pub mod FirstBad
pub mod AllGood
pub mod Values
