pub mod Picks
pub mod EndLemmas
pub mod SettleLemmas
pub mod RingLemmas
pub mod LayLemmas
