-- The laws that the proofs of `root` share.
pub mod Units
pub mod Patterns
