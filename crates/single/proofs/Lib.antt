pub mod Nearest
-- why the rounded root has its binade
pub mod Binade
