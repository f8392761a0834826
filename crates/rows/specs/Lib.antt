-- what becomes of a byte by its place in a row
pub mod Bytes
-- the rows of a plane, and tight rows
pub mod Rows
-- what the kernels are lent, in those words
pub mod Lent
-- where a byte lies, in whole numbers
pub mod Places
-- what is at each place of a plane and of tight rows
pub mod Laws
-- small planes, computed
pub mod Examples
