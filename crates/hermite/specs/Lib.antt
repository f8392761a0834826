-- the cubic piece between two knots
pub mod Hermite
