-- the one-table call
pub mod OneTable
-- the set call: what it is given, what it answers, what it writes
pub mod Runs
-- what is known once it is done
pub mod RunLaws
-- whole calls, computed: values of document 01
pub mod Examples
