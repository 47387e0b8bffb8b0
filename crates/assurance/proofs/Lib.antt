mod CauseLaws
mod ConductLaws
mod FrontLaws
mod JoinLaws
mod KeptLaws
mod RankLaws
mod RunLaws
mod StandLaws
pub mod GroundJoin
pub mod AssureLaws
