-- each answer's number, document 01's
pub mod Numbers
-- lists of checks, and the first refusal of one
pub mod Checks
