pub mod Spelling
pub mod Data
pub mod Told
pub mod Texts
pub mod Inquiries
pub mod Tables
