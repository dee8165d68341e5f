pub mod Chosen
pub mod Demands
pub mod Blockers
pub mod Faster
pub mod Judgements
pub mod Fronts
pub mod Limits
pub mod Systems
