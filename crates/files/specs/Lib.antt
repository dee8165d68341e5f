pub mod Blocks
pub mod Columns
pub mod Faults
pub mod Layout
pub mod OneProof
