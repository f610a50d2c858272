pub mod Numbers
pub mod Steps
pub mod NameLaws
pub mod NowLaws
pub mod ShareLaws
