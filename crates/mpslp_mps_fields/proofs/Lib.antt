pub mod FieldsLemmas
