pub mod ClassLaws
pub mod FieldLaws
pub mod HandleLaws
pub mod OnesLaws
