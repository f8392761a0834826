-- the record of a set, and what the writer leaves
pub mod Encode
-- what the writer's definition comes to
pub mod Cases
-- what the writer's functions say of its structs
pub mod Statements
-- 522 bytes suffice
pub mod Lengths
-- the bit map read back
pub mod Map
-- records, computed
pub mod Examples
