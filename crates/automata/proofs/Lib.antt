pub mod WalkLaws
pub mod LayerLaws
