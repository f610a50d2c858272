pub mod SumLemmas
pub mod GridLemmas
