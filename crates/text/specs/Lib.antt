-- what `tonetable` prints
pub mod Text
-- texts, computed
pub mod Examples
