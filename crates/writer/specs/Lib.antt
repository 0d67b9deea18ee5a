pub mod WithinLimits
