pub mod Asked
pub mod Boards
pub mod Courses
pub mod Openings
pub mod Tests
pub mod Uses
pub mod Views
