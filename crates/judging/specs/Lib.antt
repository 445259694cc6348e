pub mod Tables
pub mod Courses
pub mod Causes
