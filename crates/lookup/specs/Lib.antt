-- the fine lookup and its call
pub mod Lookup
-- both entries are inside the table
pub mod Laws
-- calls, computed
pub mod Examples
