pub mod Heads
pub mod Stages
pub mod Writing
pub mod Certificates
pub mod Laws
pub mod Stating
