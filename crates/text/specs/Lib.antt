pub mod Decimal
pub mod Hexadecimal
pub mod Search
pub mod Words
pub mod laws
