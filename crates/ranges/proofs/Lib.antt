pub mod RangeLaws
pub mod Chains
