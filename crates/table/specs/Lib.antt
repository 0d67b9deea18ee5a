pub mod Layout
pub mod Device
