pub mod LevelLaws
pub mod ClimbLaws
pub mod RecordLaws
pub mod SearchLaws
pub mod FreshLaws
pub mod CountLaws
