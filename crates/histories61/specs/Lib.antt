pub mod Phases
pub mod Course
pub mod Laws
pub mod Witness
pub mod Playing
pub mod Same
