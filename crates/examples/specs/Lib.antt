-- Document 01's marked examples, and numbers of the Rust original. Marked is the table of
-- P1 to P12, from the definitions that the contracts cite; Picture shows P2 in a picture;
-- Kinds has entries and samples of each kind, Fine of lists with finer heights; Computed names what
-- their computation opens. No code waits for them.
pub mod Computed
pub mod Marked
pub mod Picture
pub mod Kinds
pub mod Fine
