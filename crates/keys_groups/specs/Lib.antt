pub mod Names
pub mod Groups
pub mod States
pub mod Reading
pub mod Tabs
pub mod United
pub mod Files
