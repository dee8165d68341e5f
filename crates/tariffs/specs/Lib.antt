pub mod Amounts
pub mod Charges
pub mod Prices
pub mod Bounds
pub mod Lexical
