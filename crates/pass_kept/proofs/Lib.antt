pub mod Causes
pub mod Receipts
pub mod Savings
