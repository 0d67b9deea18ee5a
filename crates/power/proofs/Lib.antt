pub mod StateLaws
pub mod Members
pub mod RangeLaws
pub mod WakeLaws
