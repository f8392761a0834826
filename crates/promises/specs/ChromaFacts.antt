-- The chroma outputs of a run that is not refused: for YUV each plane is copied whole, and the
-- chroma outputs of other formats stay. Two runs alike in chroma write the same of it.
use Rattle.std.specs.Prelude.{ℕ, ◌+◌, ◌-◌, ◌≤◌, ◌≡◌, true, false, List, ◌++◌, get_or, take}
use Rattle.std.proofs.Common.{arith, sym, ◌∙◌, length-append, length-drop, get_or-append-add, get_or-drop}
use Rattle.std.proofs.Math.ListN.{length, drop}
use Rattle.std.proofs.Math.Seq.{take-append_seam}
use Rattle.lists.specs.Test.{by_test}
use Rattle.pictures.specs.Runs.{PlaneOf, has_chroma, chroma}
use Rattle.promises.specs.Words.{Call, Accepted, Share, IsYuv, Copied, written_chroma}
use Rattle.promises.specs.RunFacts.{passed_checks, not_refused}

-- past a list that was copied to the front of another
front_rest : (l m : List ℕ) (k : ℕ) → length l ≤ k → get_or (l ++ drop (length l) m) k 0 ≡ get_or m k 0
front_rest l m k h =
    let past : length l + (k - length l) ≡ k = omega arith in
    rw past at (get_or-append-add l (drop (length l) m) (k - length l) 0)
    ∙ rw past at (get_or-drop (length l) m (k - length l) 0)

-- each plane is in front of its output
pub record WholeChroma (c : Call) : Type 0 where
  pub cb : IsYuv c.given
      → take (length c.given.lent.cb.bytes) c.after.cb ≡ c.given.lent.cb.bytes
  pub cr : IsYuv c.given
      → take (length c.given.lent.cr.bytes) c.after.cr ≡ c.given.lent.cr.bytes

module _ (c : Call) (ok : Accepted c) where
  pub chroma_copied : (plane : PlaneOf) {before after : List ℕ} → IsYuv c.given
      → after ≡ chroma c.given plane before
      → length plane.bytes ≤ length before → Copied plane.bytes before after
  unfolding chroma
  chroma_copied plane {before} {after} yuv e room =
      let n = length plane.bytes in
      let is : after ≡ plane.bytes ++ drop n before = rw (not_refused c ok, yuv) at e in
      record {
        whole = rw is (take-append_seam plane.bytes (drop n before));
        past = λ k h. rw is (front_rest plane.bytes before k h);
        long = rw is (simp (length-append, length-drop) (omega arith));
      }

  pub chroma_stays : (plane : PlaneOf) {before after : List ℕ} → (IsYuv c.given → ⊥)
      → after ≡ chroma c.given plane before → after ≡ before
  unfolding chroma
  chroma_stays plane other e =
      by_test (has_chroma c.given) (λ t. absurd (other t)) (λ t. rw (not_refused c ok, t) at e)

  pub whole_chroma : WholeChroma c
  whole_chroma =
      let is = c.contract in
      let lent = c.given.lent in
      let room = (passed_checks c ok).chroma_room in
      record {
        cb = λ yuv. (chroma_copied lent.cb yuv is.cb (room yuv).0).whole;
        cr = λ yuv. (chroma_copied lent.cr yuv is.cr (room yuv).1).whole;
      }

-- ---- two runs
module _ (a b : Call) (share : Share a b) where
  pub same_chroma : {a-plane b-plane : List ℕ} (a-out b-out : List ℕ)
      → (IsYuv a.given → take (length a-plane) a-out ≡ a-plane)
      → (IsYuv b.given → take (length b-plane) b-out ≡ b-plane)
      → (IsYuv a.given → a-plane ≡ b-plane)
      → written_chroma a a-plane a-out ≡ written_chroma b b-plane b-out
  same_chroma a-out b-out a-whole b-whole alike =
      let format : has_chroma a.given ≡ has_chroma b.given = rw share.format in
      by_test (has_chroma a.given)
      (λ t. let u : has_chroma b.given ≡ true = sym format ∙ t in
      rw (t, u) (a-whole t ∙ alike t ∙ sym (b-whole u)))
      (λ t. let u : has_chroma b.given ≡ false = sym format ∙ t in rw (t, u))
