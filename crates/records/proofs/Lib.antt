pub mod Pushed
pub mod Pushes
