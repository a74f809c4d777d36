pub mod ChainLaws
pub mod FirstLaws
pub mod FindLaws
pub mod GiveLaws
pub mod AllocateLaws
