pub mod Refresh
pub mod KeepingView
pub mod View
