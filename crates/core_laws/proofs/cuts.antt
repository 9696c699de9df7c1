pub mod Cuts
pub mod LawfulThetas
pub mod WithinWholeMaps
