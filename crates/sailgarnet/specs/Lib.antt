pub mod Packed
pub mod Lists
