pub mod FewLawful
pub mod Filling
pub mod GroundLaws
pub mod GroundPlaces
pub mod Halves
pub mod PlanLaws
pub mod Written
