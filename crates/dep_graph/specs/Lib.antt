pub mod Table
pub mod Places
pub mod GraphView
pub mod Links
