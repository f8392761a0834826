-- Texts character by character, and how long they are.
use Rattle.std.specs.Prelude.{◌≡◌, ℕ, ◌+◌, ◌*◌, ◌/◌, ◌%◌, ◌<◌, ◌≤◌, List, [], ◌∷◌, ◌++◌, length, get_or, take, min, ltb, Ok, Err}
use Rattle.std.proofs.Common.{sym, ap, ◌∙◌, arith, lit<, lit≤, length-append, take_all, ltb-true, ltb-false}
use Rattle.std.proofs.lemmas.List.{get_or_append_left, get_or_push}
use Rattle.lists.specs.Test.{by_test}
use Rattle.lists.specs.Tabulate.{tabulate, length_tabulate, get_d_tabulate, is_tabulate}
use Rattle.answers.specs.declared.Refusal.TheVariants.{RecordTruncated, PointCount, PointsNotRising, UnknownKind, FieldMismatch, TrailingBytes, UnsupportedFormat, PictureTooLarge, MissingPlane, RowStep, PlaneTooShort, OutputTooSmall, TableLength, HeightRange}
use Rattle.answers.specs.Numbers.{Answer, number_of, is_done}
use Rattle.tables.specs.Tables.{byte_table}
use Rattle.records.specs.Format.{read_record}
use Rattle.text.specs.Text.{character, character_at, refusal_text, printed}

-- one element more
pub tabulate_next : (n : ℕ) (f : ℕ → ℕ) (l m : List ℕ) (x : ℕ) → l ≡ tabulate n f → m ≡ l ++ x ∷ []
    → x ≡ f n → m ≡ tabulate (n + 1) f
tabulate_next n f l m x e next is =
    let long : length l ≡ n = ap length e ∙ length_tabulate n f in
    is_tabulate 0 (omega (arith, ap length next, length-append l (x ∷ []), long))
    (λ k lt.
    rw next
    (by_test (ltb k n)
    (λ t.
    let below : k < n = ltb-true k n t in
    get_or_append_left l (x ∷ []) 0 k (omega arith) ∙ ap (λ (l : List ℕ). get_or l k 0) e
    ∙ get_d_tabulate n f k 0 below)
    (λ t.
    let above : n ≤ k = ltb-false k n t in
    let last : k ≡ n = omega arith in
    get_or_push l x 0 k (omega arith) ∙ is ∙ ap f (sym last))))

-- no more than there is
pub take_min : (n m : ℕ) (l : List ℕ) → length l ≡ m → take (min n m) l ≡ take n l
take_min n m l e =
    by_test (ltb n m)
    (λ t.
    let below : n < m = ltb-true n m t in
    let is : min n m ≡ n = omega arith in
    rw is)
    (λ t.
    let above : m ≤ n = ltb-false n m t in
    let is : min n m ≡ m = omega arith in
    rw is (take_all m l (omega arith) ∙ sym (take_all n l (omega arith))))

-- two digits hold every number
pub two_digits : (a : Answer) → number_of a < 100
two_digits (Ok tt) = lit< tt
two_digits (Err RecordTruncated) = lit< tt
two_digits (Err PointCount) = lit< tt
two_digits (Err PointsNotRising) = lit< tt
two_digits (Err UnknownKind) = lit< tt
two_digits (Err FieldMismatch) = lit< tt
two_digits (Err TrailingBytes) = lit< tt
two_digits (Err UnsupportedFormat) = lit< tt
two_digits (Err PictureTooLarge) = lit< tt
two_digits (Err MissingPlane) = lit< tt
two_digits (Err RowStep) = lit< tt
two_digits (Err PlaneTooShort) = lit< tt
two_digits (Err OutputTooSmall) = lit< tt
two_digits (Err TableLength) = lit< tt
two_digits (Err HeightRange) = lit< tt

-- the characters of entry i
module _ (table : List ℕ) (i j k : ℕ) (e : k ≡ i * 3 + j) (h : j < 3) where
  pub place : character_at table k ≡ character i (get_or table i 0) j
  unfolding character_at
  place =
      let whole : k / 3 ≡ i = omega arith in
      let part : k % 3 ≡ j = omega arith in
      rw (whole, part)

-- no text is longer than that of a table
refusal_fits : (n : ℕ) → length (refusal_text n) ≤ 768
refusal_fits n = by_test (ltb n 10) (λ t. rw t (lit≤ tt)) (λ t. rw t (lit≤ tt))

pub printed_fits : (s : List ℕ) → length (printed s) ≤ 768
unfolding printed
printed_fits s =
    let r = read_record s in
    by_test (is_done r.answer)
    (λ t. rw t (omega (arith, length_tabulate 768 (character_at (byte_table r.set.kind r.set.master)))))
    (λ t. rw t (refusal_fits (number_of r.answer)))
