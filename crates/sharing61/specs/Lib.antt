pub mod Count
pub mod Rules
pub mod Instance
pub mod Agreement
pub mod Translation
