pub mod FormLaws
pub mod RecordLaws
pub mod RuleLaws
pub mod WrittenRows
pub mod WrittenBytes
pub mod Written
pub mod Numbers
