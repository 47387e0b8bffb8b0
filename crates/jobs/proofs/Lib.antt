pub mod TurnLaws
pub mod CountLaws
pub mod LoadLaws
pub mod CheckedLaws
pub mod ComposeLaws
pub mod OffsetLaws
