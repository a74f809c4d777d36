pub mod LiveLaws
pub mod GroupLaws
pub mod KeyLaws
pub mod LevelLaws
pub mod RecordLaws
pub mod Collected
