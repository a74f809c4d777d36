pub mod AnswerLaws
pub mod Examples
pub mod HeldLaws
pub mod OrderLaws
