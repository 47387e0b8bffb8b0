pub mod Refusals
pub mod Stands
pub mod Model
