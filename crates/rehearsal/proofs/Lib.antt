pub mod Agreeing
pub mod Beginning
pub mod Growing
pub mod Living
pub mod Played
