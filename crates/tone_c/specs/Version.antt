-- The version of the C boundary, which the archive answers and the header states. Definitions only.
use Rattle.std.specs.Prelude.{ℕ}

-- It grows by one with every change that a program linked before would notice: a call with other
-- arguments, a call taken away, a number that means something else or a new one (a kind, a format,
-- a refusal), another default kind, another limit, points or a record read or written otherwise. A
-- new call beside the old ones and a quicker one that answers the same leave it as it is.
-- TONE_VERSION of bindings/c/tone.h and VERSION of bindings/rust/src/version.rs change with it.
abbrev pub version : ℕ
version = 3
