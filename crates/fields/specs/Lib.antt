pub mod Record
pub mod Table
pub mod Writing
pub mod Grades
pub mod Algorithm
