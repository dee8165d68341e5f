pub mod Numbering
pub mod Numbers
pub mod Reading
pub mod Skips
pub mod Turning
