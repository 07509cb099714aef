pub mod ByForm
