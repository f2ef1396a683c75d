pub mod Digests
pub mod Faults
pub mod Names
pub mod Numbers
pub mod Reports
pub mod Statements
pub mod Splits
pub mod Scripts
