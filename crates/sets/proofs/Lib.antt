pub mod Bits
pub mod Ends
pub mod Laws
pub mod Machine
