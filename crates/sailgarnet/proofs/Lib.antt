pub mod Outer
pub mod Numbers
