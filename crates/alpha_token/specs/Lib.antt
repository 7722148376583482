pub mod Bytes
pub mod Numeral
pub mod Quoted
pub mod Tokens
