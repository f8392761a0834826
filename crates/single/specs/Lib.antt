-- each constant under one name, with its value
pub mod Constants
-- the quotients by 2 and by 256 as products
pub mod Products
-- clamp, to a byte, floor, guarded quotient
pub mod Rules
-- their laws
pub mod RuleLaws
-- those of the byte and of the whole part
pub mod ByteLaws
-- the square root
pub mod Root
-- the rounded root by squares alone
pub mod NearestRoot
-- the root of whole units as a float
pub mod RootUnits
-- what the root of a float is
pub mod RootLaws
-- the rules at their edges, computed
pub mod Examples
