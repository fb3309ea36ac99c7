pub mod FaultLaws
pub mod FieldLaws
