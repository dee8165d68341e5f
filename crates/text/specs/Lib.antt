pub mod Left
pub mod Lines
pub mod Reading
pub mod Values
