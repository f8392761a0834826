-- the ten kinds and all that is known of them
pub mod Kinds
-- a kind is known by its number and what it carries
pub mod KindLaws
-- samples, entries, and the calls that build tables
pub mod Tables
-- the lengths of a fine table
pub mod Lengths
-- kinds and answers, computed
pub mod Examples
