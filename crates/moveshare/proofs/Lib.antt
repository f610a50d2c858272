pub mod Going
pub mod Lists
pub mod Answering
pub mod Playing
