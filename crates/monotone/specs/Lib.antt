-- the tangents of MonotoneCubic and MonotoneCubicBox
pub mod Monotone
