pub mod Standing
pub mod Down
pub mod Played
pub mod Rehearsal
pub mod Laws
