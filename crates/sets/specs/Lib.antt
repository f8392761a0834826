-- what a set is, its members replaced, the checks of its lists
pub mod Sets
-- what holds of every list of a set
pub mod Lists
-- a replaced member and no other
pub mod Replaced
-- what a set is that passes
pub mod Legal
-- 20 of a whole set
pub mod Heights
-- when two sets are the same
pub mod Same
-- and what follows
pub mod SameLaws
-- the order of the checks, computed
pub mod Examples
