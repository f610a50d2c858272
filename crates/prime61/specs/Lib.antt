pub mod Divisor
