pub mod Orders
pub mod Text
pub mod Word
pub mod Law
