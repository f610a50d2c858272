pub mod Counts
pub mod Ends
pub mod Laying
pub mod Record
pub mod Records
