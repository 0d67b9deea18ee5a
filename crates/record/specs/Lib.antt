pub mod Record
pub mod Good
pub mod Bad
pub mod Value
