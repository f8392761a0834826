-- Bit 7 of a record, "new default": a record without it is read as before there was one, with kind
-- 2 where it names none; with it "a missing kind means 3", and it changes nothing else.
use Rattle.std.specs.Prelude.{ℕ, ◌+◌, ◌/◌, ◌%◌, ◌<◌, ◌≡◌, refl, true, false, cond, List, [], ◌∷◌, eqb}
use Rattle.std.proofs.Common.{arith, ap, ◌∙◌}
use Rattle.lists.specs.Test.{by_test}
use Rattle.tables.specs.declared.CurveInterpolation.{CurveInterpolation}
use Rattle.tables.specs.declared.CurveInterpolation.TheVariants.{MonotoneCubic, MonotoneCubicBox}
use Rattle.tables.specs.Kinds.{kind_of}
use Rattle.sets.specs.declared.Colour.TheVariants.{Red, Green, Blue}
use Rattle.sets.specs.Sets.{View, empty_view, with_kind}
use Rattle.records.specs.Parse.{Parse, good, refused, ◌▷◌}
use Rattle.records.specs.Map.{bit, carried_bits}
use Rattle.records.specs.Kinds.{unnamed_kind, read_number, read_carried, read_agreed, read_kind}
use Rattle.records.specs.Format.{
  master_step,
  colour_step,
  kind_step,
  end_step,
  read_fields,
  Read,
  read_result,
  read_record,
}
use Rattle.record_facts.specs.Spelling.{unnamed_kind_lem}
use Rattle.answers.specs.Numbers.{done}

-- ---- without bit 7, and with it
module _ (m : ℕ) (s : List ℕ) where
  pub old_as_before : bit 128 m ≡ false → read_record (m ∷ s) ≡ read_result (read_fields MonotoneCubic m s)
  unfolding read_record
  old_as_before older = rw older

  module _ (accepted : (read_record (m ∷ s)).answer ≡ done) (unnamed : bit 16 m ≡ false) where
    pub old_kind : bit 128 m ≡ false → (read_record (m ∷ s)).set.kind ≡ MonotoneCubic
    old_kind older = unnamed_kind_lem m s accepted unnamed ∙ ap unnamed_kind older

    pub new_kind : bit 128 m ≡ true → (read_record (m ∷ s)).set.kind ≡ MonotoneCubicBox
    new_kind newer = unnamed_kind_lem m s accepted unnamed ∙ ap unnamed_kind newer

-- ---- bit 7 set in a map that is without it
-- the other bits stay
record SameBits (m n : ℕ) : Type 0 where
  master : bit 1 m ≡ bit 1 n
  red : bit 2 m ≡ bit 2 n
  green : bit 4 m ≡ bit 4 n
  blue : bit 8 m ≡ bit 8 n
  named : bit 16 m ≡ bit 16 n
  carried : carried_bits m ≡ carried_bits n

same_bit : (w m n : ℕ) → m / w % 2 ≡ n / w % 2 → bit w m ≡ bit w n
same_bit w m n e = rw e

bits_stay : (m : ℕ) → SameBits (m + 128) m
bits_stay m = record {
  master = same_bit 1 (m + 128) m (omega arith);
  red = same_bit 2 (m + 128) m (omega arith);
  green = same_bit 4 (m + 128) m (omega arith);
  blue = same_bit 8 (m + 128) m (omega arith);
  named = same_bit 16 (m + 128) m (omega arith);
  carried = omega arith;
}

-- one reading after another, each the same
then_same : {A B : Type 0} {p q : Parse A} (f g : A → List ℕ → Parse B) → p ≡ q
    → ((v : A) (s : List ℕ) → f v s ≡ g v s) → (p ▷ f) ≡ (q ▷ g)
then_same {p = good v s} f g e same = same v s ∙ ap (λ r. r ▷ g) e
then_same {p = refused a} f g e same = ap (λ r. r ▷ g) e

-- so the lists are the same
abbrev lists_read : ℕ → List ℕ → Parse View
lists_read m s =
    good empty_view s ▷ master_step m ▷ colour_step Red m ▷ colour_step Green m ▷ colour_step Blue m

lists_stay : (m n : ℕ) (s : List ℕ) → SameBits m n → lists_read m s ≡ lists_read n s
lists_stay m n s b =
    then_same (colour_step Blue m) (colour_step Blue n)
    (then_same (colour_step Green m) (colour_step Green n)
    (then_same (colour_step Red m) (colour_step Red n)
    (then_same {p = good empty_view s} (master_step m) (master_step n) refl
    (λ v t. rw b.master))
    (λ v t. rw b.red))
    (λ v t. rw b.green))
    (λ v t. rw b.blue)

-- and the kind, if it is named; if not, it is 3 where it was 2
abbrev kind_read : CurveInterpolation → ℕ → View → List ℕ → Read
kind_read unnamed m v s = read_result (kind_step unnamed m v s ▷ end_step)

kind_stays : (unnamed : CurveInterpolation) (m n : ℕ) (v : View) (s : List ℕ) → SameBits m n
    → kind_read unnamed m v s ≡ kind_read unnamed n v s
unfolding read_kind
kind_stays unnamed m n v s b =
    ap (λ (p : Parse CurveInterpolation). read_result (p ▷ (λ k t. good (with_kind k v) t) ▷ end_step))
    (then_same (read_agreed m) (read_agreed n) (ap (λ t. read_number unnamed t s) b.named)
    (λ k t. rw b.carried))

-- what is handed back, with kind 3 where the map m names none
abbrev pub new_default_in : ℕ → Read → Read
new_default_in m r = record {
  answer = r.answer;
  set = cond (bit 16 m) r.set (with_kind MonotoneCubicBox r.set);
}

kind_named : (m : ℕ) (v : View) (s : List ℕ) → bit 16 m ≡ true
    → kind_read MonotoneCubicBox m v s ≡ new_default_in m (kind_read MonotoneCubic m v s)
unfolding read_kind read_number
kind_named m v [] named = rw named
kind_named m v (k ∷ s) named = rw named

kind_unnamed : (m : ℕ) (v : View) (s : List ℕ) → bit 16 m ≡ false
    → kind_read MonotoneCubicBox m v s ≡ new_default_in m (kind_read MonotoneCubic m v s)
unfolding read_kind read_number read_carried kind_of
kind_unnamed m v [] unnamed =
    by_test (eqb (carried_bits m) 0) (λ t. rw (unnamed, t)) (λ t. rw (unnamed, t))
kind_unnamed m v (b ∷ s) unnamed =
    by_test (eqb (carried_bits m) 0) (λ t. rw (unnamed, t)) (λ t. rw (unnamed, t))

after_lists : (m : ℕ) (p : Parse View)
    → read_result (p ▷ kind_step MonotoneCubicBox (m + 128) ▷ end_step)
    ≡ new_default_in m (read_result (p ▷ kind_step MonotoneCubic m ▷ end_step))
after_lists m (good v s) =
    kind_stays MonotoneCubicBox (m + 128) m v s (bits_stay m)
    ∙ by_test (bit 16 m) (kind_named m v s) (kind_unnamed m v s)
after_lists m (refused a) = by_test (bit 16 m) (λ t. rw t) (λ t. rw t)

-- bit 7 changes nothing but the kind of a record that names none: neither the answer nor a list,
-- nor a kind that is named
pub bit_7_alone : (m : ℕ) (s : List ℕ) → m < 128
    → read_record ((m + 128) ∷ s) ≡ new_default_in m (read_record (m ∷ s))
unfolding read_record read_fields
bit_7_alone m s small =
    let newer : (m + 128) / 128 % 2 ≡ 1 = omega arith in
    let older : m / 128 % 2 ≡ 0 = omega arith in
    rw (newer, older, lists_stay (m + 128) m s (bits_stay m)) (after_lists m (lists_read m s))
