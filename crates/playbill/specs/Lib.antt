pub mod Text
pub mod Printed
pub mod Law
