pub mod Reaction
pub mod Manager
pub mod Evolves
pub mod Server
pub mod Cache
pub mod Client
pub mod Laws
