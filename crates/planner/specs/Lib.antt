pub mod ArenaTables
pub mod Faults
pub mod GroundFormat
pub mod GroundReading
pub mod Planned
pub mod Writing
pub mod ArenaLaws
