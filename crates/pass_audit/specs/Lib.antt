pub mod Audits
pub mod Courses
