pub mod CompactState
pub mod Mapped
