pub mod Density
pub mod Floors
pub mod Laws
pub mod Parts
pub mod Floorings
pub mod Growths
pub mod Zipped
