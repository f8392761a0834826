-- `sqrt` meets its contract: each way through it has a law of `Patterns`.
use Rattle.std.proofs.Common.{◌≡◌, refl, sym, ap, ◌∙◌, ℕ, arith, T, to_bits}
use lib.Ieee.{binary32, fits, div, of_bits, nan}
use lib.Ieee.Bits.{of_bits-to_bits, to_bits-lt}
use Rattle.single.specs.Root.{root_of}
use Rattle.single.proofs.root.Patterns.{nan-root, own_root, negative-root, subnormal-root, normal-root}
use Rattle.single.proofs.root.sqrt.Goals.{Start}
use Rattle.single.proofs.root.sqrt.Goals as goal

abbrev B : Start → ℕ
B c = to_bits binary32 c.args.x

held : (c : Start) → T (fits binary32 c.args.x)
held c = rw c.well_formed.0.1 tt

is : (c : Start) → of_bits binary32 (B c) ≡ c.args.x
is c = of_bits-to_bits binary32 c.args.x (held c)

made : div binary32 (of_bits binary32 0) (of_bits binary32 0) ≡ nan
unfolding div of_bits
made = refl

pub returns-then-is_nan : goal.returns-then-is_nan
returns-then-is_nan c = nan-root c.args.x (sym c.is_nan.ensures.value ∙ c.if-is_nan.true)

pub returns-then-b-gt2147483648 : goal.returns-then-b-gt2147483648
returns-then-b-gt2147483648 c =
    rw (made, ← is c.before.before.before.before) (negative-root (B c.before.before.before.before) c.if-b-gt2147483648.true (to_bits-lt binary32 c.args.x (held c.before.before.before.before)))

pub returns-then-b-ge2139095040 : goal.returns-then-b-ge2139095040
returns-then-b-ge2139095040 c = rw (is c.before.before.before.before) at (own_root (B c.before.before.before.before) c.if-b-ge2139095040.true c.if-b-gt2147483648.false)

pub returns-then-b-eq0 : goal.returns-then-b-eq0
unfolding root_of of_bits
returns-then-b-eq0 c = rw (← is c.before.before.before.before.before, c.if-b-eq0.true)

pub returns-then-b-lt8388608 : goal.returns-then-b-lt8388608
returns-then-b-lt8388608 c =
    let z = c.missing_digits-z in
    c.root_of.ensures
    ∙ subnormal-root (B c.before.before.before.before.before.before.before) z.result (omega arith) (omega arith) z.ensures.1 z.ensures.2
    ∙ ap root_of (is c.before.before.before.before.before.before.before)

pub returns : goal.returns
returns c =
    c.root_of-2.ensures ∙ normal-root (B c.before.before.before.before.before) (omega arith) (omega arith) ∙ ap root_of (is c.before.before.before.before.before)
