-- Laws of the kinds: a kind is known by its number and what it carries, and what it carries is
-- known by its number.
use Rattle.std.specs.Prelude.{ℕ, ◌<◌, ◌≤◌, ◌≡◌, refl, ◌⊎◌, cond, ltb}
use Rattle.std.proofs.Common.{arith, sym, ap, ◌∙◌, inl, inr, lit<, lit≤, ltb-true, ltb-false, ne_eqb}
use Rattle.std.proofs.Math.ListN.{get_or-eq_default}
use Rattle.std.specs.Int.Signed.{mag}
use Rattle.lists.specs.Test.{by_test}
use Rattle.lists.specs.Tabulate.{tabulate, tabulate_agree}
use Rattle.sampling.specs.declared.Form.TheVariants.{Straight, Cubic, Spline}
use Rattle.tables.specs.declared.CurveInterpolation.{CurveInterpolation}
use Rattle.tables.specs.declared.CurveInterpolation.TheVariants.{
  Linear,
  CatmullRom,
  MonotoneCubic,
  MonotoneCubicBox,
  NaturalCubic,
  CentripetalCatmullRom,
  ChordalCatmullRom,
  Cardinal,
  ClampedCubic,
  NotAKnotCubic,
}
use Rattle.tables.specs.declared.Carried.{Carried}
use Rattle.tables.specs.Kinds.{
  nothing,
  a_tension,
  two_slopes,
  kind_number,
  carried_of,
  form_of,
  last_kind,
  in_order,
  kind_of,
  carries_tension,
  carries_slopes,
  LegalKind,
}

-- ---- numbers
pub number_known : (k : CurveInterpolation) → kind_number k ≤ last_kind
number_known Linear = lit≤ tt
number_known CatmullRom = lit≤ tt
number_known MonotoneCubic = lit≤ tt
number_known MonotoneCubicBox = lit≤ tt
number_known NaturalCubic = lit≤ tt
number_known CentripetalCatmullRom = lit≤ tt
number_known ChordalCatmullRom = lit≤ tt
number_known (Cardinal q) = lit≤ tt
number_known (ClampedCubic start end) = lit≤ tt
number_known NotAKnotCubic = lit≤ tt

-- the kind of number n that carries c, or what of c it can carry
abbrev pub kind_with : ℕ → Carried → CurveInterpolation
kind_with n c = kind_of n c.tension c.start c.end

pub kind_past : (n : ℕ) (c : Carried) → last_kind < n → kind_with n c ≡ Linear
unfolding kind_of
kind_past n c h = get_or-eq_default (in_order c.tension c.start c.end) Linear h

-- two rules agree on all numbers that agree on those of the kinds, by tables that antt computes,
-- and past them
by_number : {A : Type 0} (f g : ℕ → A) → tabulate 10 f ≡ tabulate 10 g
    → ((n : ℕ) → last_kind < n → f n ≡ g n) → (n : ℕ) → f n ≡ g n
by_number f g e past n =
    by_test (ltb last_kind n) (λ t. past n (ltb-true last_kind n t))
    (λ t. let h = ltb-false last_kind n t in tabulate_agree {n = 10} f g e n (omega arith))

pub number_back : (n : ℕ) (c : Carried) → n ≤ last_kind → kind_number (kind_with n c) ≡ n
unfolding kind_of tabulate
number_back n c h =
    tabulate_agree {n = 10} (λ m. kind_number (kind_with m c)) (λ m. m) refl n (omega arith)

-- ---- what a kind carries
-- the kind of this number that carries this
pub kind_back : (k : CurveInterpolation) → kind_with (kind_number k) (carried_of k) ≡ k
unfolding kind_of
kind_back Linear = refl
kind_back CatmullRom = refl
kind_back MonotoneCubic = refl
kind_back MonotoneCubicBox = refl
kind_back NaturalCubic = refl
kind_back CentripetalCatmullRom = refl
kind_back ChordalCatmullRom = refl
kind_back (Cardinal q) = refl
kind_back (ClampedCubic start end) = refl
kind_back NotAKnotCubic = refl

pub kind_unique : (a b : CurveInterpolation) → kind_number a ≡ kind_number b
    → carried_of a ≡ carried_of b → a ≡ b
kind_unique a b e c =
    sym (kind_back a) ∙ ap (λ n. kind_with n (carried_of a)) e ∙ ap (kind_with (kind_number b)) c
    ∙ kind_back b

-- what of c the kind of number n carries
abbrev pub carried_for : ℕ → Carried → Carried
carried_for n c =
    cond (carries_tension n) (a_tension c.tension)
    (cond (carries_slopes n) (two_slopes c.start c.end) nothing)

pub carried_back : (n : ℕ) (c : Carried) → carried_of (kind_with n c) ≡ carried_for n c
unfolding kind_of tabulate
carried_back n c =
    by_number (λ m. carried_of (kind_with m c)) (λ m. carried_for m c) refl
    (λ m h. rw (kind_past m c h, ne_eqb m 7 (λ e. omega arith), ne_eqb m 8 (λ e. omega arith))) n

-- the rest of c goes unread
pub kind_unread : (n : ℕ) (c : Carried) → kind_with n (carried_for n c) ≡ kind_with n c
unfolding kind_of tabulate
kind_unread n c =
    by_number (λ m. kind_with m (carried_for m c)) (λ m. kind_with m c) refl
    (λ m h. kind_past m (carried_for m c) h ∙ sym (kind_past m c h)) n

-- so a kind is known by its number and the part that its number carries
pub kind_carries : (k : CurveInterpolation)
    → kind_with (kind_number k) (carried_for (kind_number k) (carried_of k)) ≡ k
kind_carries k = kind_unread (kind_number k) (carried_of k) ∙ kind_back k

-- a kind made of a byte and two numbers of 16 bits
module _ (n : ℕ) (c : Carried) (byte : c.tension < 256) (first : mag c.start < 32768)
    (last : mag c.end < 32768) where
  pub kind_legal : LegalKind (kind_with n c)
  kind_legal =
      rw (carried_back n c) (by_test (carries_tension n)
      (λ t. rw t (record { tension = byte; start = lit< tt; end = lit< tt }))
      (λ t. by_test (carries_slopes n)
      (λ u. rw (t, u) (record { tension = lit< tt; start = first; end = last }))
      (λ u. rw (t, u) (record { tension = lit< tt; start = lit< tt; end = lit< tt }))))

-- ---- how it is drawn: "Splines (4, 8, 9)"
straight_differs : Straight ≡ Spline → ⊥
straight_differs e = let z : ◌≡◌ {A = ℕ} 0 1 = cc in omega arith

cubic_differs : Cubic ≡ Spline → ⊥
cubic_differs e = let z : ◌≡◌ {A = ℕ} 0 1 = cc in omega arith

pub spline_number : (k : CurveInterpolation) → form_of k ≡ Spline
    → (kind_number k ≡ 4) ⊎ (kind_number k ≡ 8) ⊎ (kind_number k ≡ 9)
spline_number Linear e = absurd (straight_differs e)
spline_number CatmullRom e = absurd (cubic_differs e)
spline_number MonotoneCubic e = absurd (cubic_differs e)
spline_number MonotoneCubicBox e = absurd (cubic_differs e)
spline_number NaturalCubic e = inl refl
spline_number CentripetalCatmullRom e = absurd (cubic_differs e)
spline_number ChordalCatmullRom e = absurd (cubic_differs e)
spline_number (Cardinal q) e = absurd (cubic_differs e)
spline_number (ClampedCubic start end) e = inr (inl refl)
spline_number NotAKnotCubic e = inr (inr refl)
