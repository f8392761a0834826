-- a case split on a test
pub mod Test
-- lists given by a rule
pub mod Tabulate
-- lists changed place by place
pub mod Each
-- what a loop that stores leaves: the invariant of nearly all loops
pub mod Stored
-- the same of a loop that replaces in place
pub mod Replaced
-- a part that is lent and comes back
pub mod Part
-- what a loop that copies leaves
pub mod Copied
