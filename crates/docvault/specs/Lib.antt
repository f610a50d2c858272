pub mod Keys
pub mod Hmac
pub mod Box
pub mod Masking
pub mod Opening
