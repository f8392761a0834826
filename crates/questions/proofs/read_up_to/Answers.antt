-- `read_up_to`: a piece goes behind the bytes that are there, and a short one is the last.
use Rattle.std.proofs.Common.{arith, ◌≡◌, ℕ, ◌+◌, ◌<◌, ◌≤◌, List, ◌++◌, length, take, drop}
use Rattle.std.proofs.Common.{Option, None, Some, IfSome, Result, Ok, Err, IsErr}
use Rattle.std.proofs.Common.{refl, ap, sym, ◌∙◌, subst, take-add, drop-drop, take_all}
use Rattle.std.proofs.lemmas.Bool.{false≢true}
use Rattle.std.proofs.lemmas.List.{length-drop, length-take}
use Rattle.questions.specs.Reading.{IsPast, Takes}
use Rattle.questions.proofs.read_up_to.Goals as goal
use Rattle.questions.proofs.read_up_to.Goals.{
  else-loop-at-test,
  then-loop-at-test+in_ok-piece+in_ok-extend_from_slice+else-len-part+else-n-at-gt1024,
}

-- xs are the first n bytes, or all
abbrev AreFirst : ℕ → Option (List ℕ) → List ℕ → Type 0
AreFirst n old xs = IfSome old (λ s. xs ≡ take n s)

-- a read of a bytes, and then one of m: k in all
module _ (a m k : ℕ) (both : a + m ≡ k) (mid : Option (List ℕ)) where
  past_both : (old new : Option (List ℕ)) → IsPast a old mid → IsPast m mid new → IsPast k old new
  past_both None new p q = tt
  past_both (Some s) new p q =
      subst (λ t. IsPast m t new) p q ∙ ap Some (drop-drop m a s ∙ ap (λ n. drop n s) both)

  module _ (xs ys zs : List ℕ) (joined : zs ≡ xs ++ ys) where
    first_both : (old : Option (List ℕ)) → IsPast a old mid → AreFirst a old xs
        → AreFirst m mid ys → AreFirst k old zs
    first_both None p e f = tt
    first_both (Some s) p e f =
        joined
        ∙ ap (λ l. l ++ ys) e
        ∙ ap (λ l. take a s ++ l) (subst (λ t. AreFirst m t ys) p f)
        ∙ sym (take-add a m s)
        ∙ ap (λ n. take n s) both

-- a read of m bytes behind a gave fewer: there are no more
module _ (a m n : ℕ) (mid : Option (List ℕ)) (ys zs : List ℕ) where
  all_first : length ys < m → a + m ≤ n → (old : Option (List ℕ)) → IsPast a old mid
      → AreFirst m mid ys → AreFirst (a + m) old zs → AreFirst n old zs
  all_first short within None p f q = tt
  all_first short within (Some s) p f q =
      let f' : ys ≡ take m (drop a s) = subst (λ t. AreFirst m t ys) p f in
      let few : length s < a + m =
      omega (arith, ap length f', length-take m (drop a s), length-drop a s, short) in
      q ∙ take_all (a + m) s (omega (arith, few)) ∙ sym (take_all n s (omega (arith, few, within)))

failed : {V E : Type 0} (n k : ℕ) (old new : Option (List ℕ)) (r : Result V E) → IsErr r
    → k ≤ n → IsPast k old new → Takes n old new r
failed n k old new (Ok v) bad few past = absurd (false≢true bad)
failed n k old new (Err e) bad few past = (k, few, past)

pub returns-in_err-piece-clause-left : goal.returns-in_err-piece-clause-left
returns-in_err-piece-clause-left g c =
    let read = c.in_err-piece.ensures.left in
    failed _ _ _ _ _ c.from_residual.ensures.0 (omega (arith, read.1))
    (past_both _ read.0 _ refl _ _ _ c.loop-at.invariant.2 read.2)

pub returns-in_err-extend_from_slice-clause-left :
    goal.returns-in_err-extend_from_slice-clause-left
returns-in_err-extend_from_slice-clause-left g c =
    failed _ _ _ _ _ c.from_residual-in_err-extend_from_slice.ensures.0 (omega arith)
    (past_both _ _ _ refl _ _ _
    c.loop-at.invariant.2 c.in_ok-piece.ensures.left)

pub returns-then-len-part-clause-front : goal.returns-then-len-part-clause-front
returns-then-len-part-clause-front g c =
    all_first _ _ _ _ _ _ (omega arith) (omega arith) _
    c.loop-at.invariant.2 c.in_ok-piece.ensures.front
    (first_both _ _ _ refl _ _ _ _
    (rw (c.in_ok-extend_from_slice.ensures.items, c.as_slice.ensures.value) refl) _
    c.loop-at.invariant.2 c.loop-at.invariant.1 c.in_ok-piece.ensures.front)

pub loop-at-preserved : goal.loop-at-preserved
loop-at-preserved g c = (
  omega arith,
  first_both _ _ _ (omega arith) _ _ _ _
      (rw (c.in_ok-extend_from_slice.ensures.items, c.as_slice.ensures.value) refl) _
      c.loop-at.invariant.2 c.loop-at.invariant.1 c.in_ok-piece.ensures.front,
  past_both _ _ _ (omega arith) _ _ _ c.loop-at.invariant.2 c.in_ok-piece.ensures.left,
)

pub returns-clause-front : goal.returns-clause-front
returns-clause-front g c =
    elim c.loop-at-test.branch [
      | else-loop-at-test w ↦
          let all : c.loop-at.at ≡ c.args.n = omega arith in
          rw w.bytes-is
          (subst (λ k. AreFirst k (g.R.Read.remaining c.args.input.now) c.loop-at.bytes.items) all
          c.loop-at.invariant.1)
      | then-loop-at-test+in_ok-piece+in_ok-extend_from_slice+else-len-part+else-n-at-gt1024 w ↦
          first_both _ _ _ (omega arith) _ _ _ _
          (rw (w.bytes-is, w.in_ok-extend_from_slice.ensures.items, w.as_slice.ensures.value) refl)
          _ c.loop-at.invariant.2 c.loop-at.invariant.1 w.in_ok-piece.ensures.front
    ]
