pub mod Answer
pub mod Rehearse
pub mod Meaning
pub mod Crews
pub mod Uncut
pub mod Plain
pub mod Recovery
