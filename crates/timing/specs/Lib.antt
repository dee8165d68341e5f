pub mod Bounds
pub mod Demand
pub mod Times
pub mod Windows
