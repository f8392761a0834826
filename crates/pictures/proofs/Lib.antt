pub mod Kernels
pub mod Owned
pub mod Ends
-- what a call of specs/Examples leaves
pub mod ExampleLaws
