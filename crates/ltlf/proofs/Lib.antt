pub mod Passages
pub mod Heads
pub mod Prefixes
pub mod Places
pub mod Sides
pub mod Marking
pub mod Walks
pub mod Theorem
