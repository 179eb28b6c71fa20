pub mod Valid
pub mod Spelling
pub mod Reading
pub mod Taking
pub mod Decoding
pub mod Rows
pub mod Laws
