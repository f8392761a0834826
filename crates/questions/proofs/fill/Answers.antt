-- `fill`: a read goes behind what is there, which stays.
use Rattle.std.proofs.Common.{◌≡◌, ℕ, ◌+◌, ◌-◌, ◌≤◌, List, ◌++◌, rules, length, take, drop}
use Rattle.std.proofs.Common.{sym, ap, ◌∙◌, subst, le_refl, drop_at, length-take-le}
use Rattle.std.proofs.lemmas.Slice.{take-put_mid_below}
use Rattle.std.specs.Io.KnownBytes.{Consumes}
use Rattle.std.proofs.KnownBytes.{Consumes-trans}
use borrow.Rule.Slice.PartMut.{put_mid, post_of}
use lib.Seq.{take-add, take-append-le}
use Rattle.questions.proofs.fill.Goals as goal

-- the first a + n of what xs is once ys was put there from a on
module _ (a k n : ℕ) (xs ys : List ℕ) where
  abbrev put : List ℕ
  put = put_mid a k xs ys

  take_put : a ≤ length xs → n ≤ length ys → take a xs ++ take n ys ≡ take (a + n) put
  take_put within fits =
      let front : take a put ≡ take a xs = take-put_mid_below a k xs ys a (le_refl a) within in
      let behind : take n (drop a put) ≡ take n ys =
      ap (take n) (drop_at (take a xs) _ a (length-take-le a xs within))
      ∙ take-append-le n ys (post_of a k xs) fits in
      sym (take-add a n put ∙ ap (λ l. l ++ take n (drop a put)) front ∙ ap (λ l. take a xs ++ l) behind)

pub loop-filled-preserved : goal.loop-filled-preserved
loop-filled-preserved g c =
    let a = c.loop-filled.filled in
    let xs = c.loop-filled.buffer in
    let before = c.loop-filled.invariant in
    let read = c.in_ok-more.ensures in
    let joined = take_put a (length xs - a) c.in_ok-more.more xs c.read_retried.new.buffer before.1 read.bound.0 in (
      search rules,
      search rules,
      subst (Consumes _ _) joined (Consumes-trans _ _ _ _ _ before.2 read.ok),
    )
