pub mod ChainLaws
pub mod OwnLaws
pub mod RecordsLaws
