pub mod Text
pub mod Forms
pub mod Due
pub mod Ends
