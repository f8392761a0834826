-- Runs alike in their rows and chroma write the same bytes, and planes of one row step that differ
-- in their padding alone are alike in their rows: no place is padding.
use Rattle.std.specs.Prelude.{ℕ, ◌+◌, ◌*◌, ◌<◌, ◌≡◌, get_or}
use Rattle.std.proofs.Common.{arith, sym, ap, ◌∙◌, get_or-take, ext_get_or, lt-ltb}
use Rattle.std.proofs.lemmas.Bool.{false≢true}
use Rattle.sets.specs.Sets.{View}
use Rattle.sets.specs.SameLaws.{same_view}
use Rattle.rows.specs.Bytes.{toned}
use Rattle.rows.specs.Rows.{in_row}
use Rattle.rows.specs.Places.{place_row, place_in}
use Rattle.formats.specs.declared.PixelFormat.{PixelFormat}
use Rattle.formats.specs.Formats.{alpha_of}
use Rattle.pictures.specs.Runs.{row_bytes, size, tables_of}
use Rattle.pictures.specs.RunLaws as Checked
use Rattle.promises.specs.Words.{
  Call,
  Accepted,
  Share,
  Place,
  Within,
  along,
  in_plane,
  input,
  IsPadding,
  AlikeInRows,
  AlikeInChroma,
  written,
  WriteTheSame,
}
use Rattle.promises.specs.PlaceFacts.{place_at, along_row}
use Rattle.promises.specs.RunFacts.{tight, at_place, written_long}
use Rattle.promises.specs.ChromaFacts.{same_chroma, whole_chroma}
use Rattle.promises.specs.ShareFacts.{same_size, same_place}

toned_alike : {f g : PixelFormat} {v w : View} {x y : ℕ} (j : ℕ) → f ≡ g → v ≡ w → x ≡ y
    → toned (alpha_of f) (tables_of f v) j x ≡ toned (alpha_of g) (tables_of g w) j y
toned_alike {g = g} {v = v} {w = w} {x = x} j format view e =
    ap (λ (k : PixelFormat). toned (alpha_of k) (tables_of k v) j x) format
    ∙ ap (λ (u : View). toned (alpha_of g) (tables_of g u) j x) view
    ∙ ap (toned (alpha_of g) (tables_of g w) j) e

module _ (a b : Call) (share : Share a b) (a-ok : Accepted a) (b-ok : Accepted b) where
  -- the same byte in, the same byte out
  same_byte : (p : Place) → Within a.given p → input a p ≡ input b p → tight a p ≡ tight b p
  same_byte p w e =
      at_place a a-ok p w
      ∙ toned_alike p.channel share.format
      (same_view a.given.job.set b.given.job.set share.set) e
      ∙ sym (at_place b b-ok p (same_place a b share p w))

  -- index k of the tight rows is a place's in both
  same_at : (p : Place) (k : ℕ) → Within a.given p
      → p.row * row_bytes a.given + along a.given p ≡ k
      → input a p ≡ input b p
      → get_or a.after.first k 0 ≡ get_or b.after.first k 0
  same_at p k w index e =
      let b-index : p.row * row_bytes b.given + along b.given p ≡ k =
      rw (← share.format, ← share.width) index in
      rw index at (same_byte p w e) ∙ rw b-index

  same_rows : AlikeInRows a b → written a ≡ written b
  same_rows alike =
      let same = same_size a b share in
      let long = written_long a a-ok in
      ext_get_or 0 (written a) (written b) (long ∙ same ∙ sym (written_long b b-ok))
      (λ k h.
      let place = place_at a.given k (omega arith) in
      get_or-take (size a.given) a.after.first k 0 (omega arith)
      ∙ same_at place.0 k place.1 place.2 (alike place.0 place.1)
      ∙ sym (get_or-take (size b.given) b.after.first k 0 (omega arith)))

  pub same_bytes : AlikeInRows a b → AlikeInChroma a b → WriteTheSame a b
  same_bytes rows alike =
      let a-passed = whole_chroma a a-ok in
      let b-passed = whole_chroma b b-ok in
      record {
        out = same_rows rows;
        cb =
            same_chroma a b share a.after.cb b.after.cb
            a-passed.cb b-passed.cb alike.cb;
        cr =
            same_chroma a b share a.after.cr b.after.cr
            a-passed.cr b-passed.cr alike.cr;
      }

-- ---- no place is padding
no_padding : (c : Call) → Accepted c → (p : Place) → Within c.given p
    → IsPadding c.given (in_plane c.given p) → ⊥
unfolding in_row
no_padding c ok p w padding =
    let r = c.given in
    let inside = along_row r p w in
    let below : along r p < r.lent.plane.step =
    omega (arith, (Checked.accepted_run r ok).plane.rows.stepped) in
    false≢true
    (sym (rw (
      place_row p.row r.lent.plane.step (along r p) below,
      place_in p.row r.lent.plane.step (along r p) below,
      lt-ltb p.row r.job.height w.row,
      lt-ltb (along r p) (row_bytes r) inside,
    ) at padding))

pub alike_but_padding : (a b : Call) → Share a b → Accepted a
    → a.given.lent.plane.step ≡ b.given.lent.plane.step
    → ((k : ℕ) → (IsPadding a.given k → ⊥)
    → get_or a.given.lent.plane.bytes k 0 ≡ get_or b.given.lent.plane.bytes k 0)
    → AlikeInRows a b
alike_but_padding a b share ok step alike p w =
    alike (in_plane a.given p) (no_padding a ok p w) ∙ rw (step, share.format)
