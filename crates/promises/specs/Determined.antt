-- What the words of a result say, byte by byte, is all that the result is: two results of which
-- they hold are one. And what they say of what is handed back, of Cr as of Cb, is said here once
-- more without them. So a field that is dropped, or asks for more, is refused here.
use Rattle.std.specs.Prelude.{ℕ, ◌*◌, ◌/◌, ◌%◌, ◌<◌, ◌≡◌, true, List, ltb, length, get_or, take, Ok}
use Rattle.std.proofs.Common.{div-add-mod', arith, sym, ap, ◌∙◌, get_or-take, ext_get_or, ltb-true}
use Rattle.std.proofs.Math.Decide.{ℕ_discrete, dec_lt}
use Rattle.std.proofs.lemmas.Bool.{false≢true}
use Rattle.std.proofs.Math.Bool.{and-eq-true_iff}
use Rattle.lists.specs.Test.{by_test}
use Rattle.tables.specs.Tables.{entry_of}
use Rattle.rows.specs.Rows.{in_row}
use Rattle.formats.specs.declared.PixelFormat.{PixelFormat}
use Rattle.formats.specs.Formats.{bytes_a_pixel, alpha_of}
use Rattle.pictures.specs.declared.Steps.{Steps}
use Rattle.pictures.specs.Runs.{Run, size, row_bytes, has_chroma}
use Rattle.promises.specs.Words.{
  Call,
  Place,
  Within,
  in_plane,
  in_output,
  output,
  list_that_tones,
  kind_in,
  IsYuv,
  Copied,
  ExactPicture,
  steps_or_none,
  PassedThrough,
  WriteTheSame,
}
use Rattle.promises.specs.Results.{byte_index, ExactPlane}
use Rattle.promises.specs.PlaceFacts.{split_index, place_at}

-- ---- a chroma output
-- by the plane in front and what is behind it, where it keeps its length
one_list : {plane before a b : List ℕ} → Copied plane before a → Copied plane before b
    → length a ≡ length b → a ≡ b
one_list {plane} {before} {a} {b} c d long =
    ext_get_or 0 a b long
    (λ k h. elim (dec_lt k (length plane)) [
      | yes front ↦
          sym (get_or-take (length plane) a k 0 front)
          ∙ ap (λ (l : List ℕ). get_or l k 0) (c.whole ∙ sym d.whole)
          ∙ get_or-take (length plane) b k 0 front
      | no behind ↦ c.past k (omega arith) ∙ sym (d.past k (omega arith))
    ])

pub one_copy : {plane before a b : List ℕ} → Copied plane before a → Copied plane before b → a ≡ b
one_copy c d = one_list c d (c.long ∙ sym d.long)

-- the byte of a run's plane at a place
abbrev input_of : Run → Place → ℕ
input_of r p = get_or r.lent.plane.bytes (in_plane r p) 0

-- ---- a picture: of two runs on the same, by what is said of its bytes
module _ (a b : Call) (same : a.given ≡ b.given) (c : ExactPicture a) (d : ExactPicture b) where
  one_byte : (p : Place) → Within a.given p → output a p ≡ output b p
  one_byte p w = elim (ℕ_discrete p.channel (alpha_of a.given.job.format)) [
    | yes alpha ↦
        c.alpha p w alpha ∙ ap (λ (r : Run). input_of r p) same
        ∙ sym (d.alpha p (rw (← same) w) (rw (← same) alpha))
    | no other ↦
        c.toned p (record { within = w; not_alpha = other })
        ∙ ap (λ (r : Run). entry_of (kind_in r) (list_that_tones r p) (input_of r p)) same
        ∙ sym (d.toned p (rw (← same) (record { within = w; not_alpha = other })))
  ]

  one_index : (p : Place) (k : ℕ) → Within a.given p → in_output a.given p ≡ k
      → get_or a.after.first k 0 ≡ get_or b.after.first k 0
  one_index p k w e =
      ap (λ (i : ℕ). get_or a.after.first i 0) (sym e) ∙ one_byte p w
      ∙ ap (λ (i : ℕ). get_or b.after.first i 0) (ap (λ (r : Run). in_output r p) (sym same) ∙ e)

  pub one_picture : a.after.first ≡ b.after.first
  one_picture =
      ext_get_or 0 a.after.first b.after.first
      (c.long ∙ ap (λ (r : Run). length r.lent.outputs.first) same ∙ sym d.long)
      (λ k h. elim (dec_lt k (size a.given)) [
        | yes inside ↦
            let place = place_at a.given k inside in
            one_index place.0 k place.1 place.2
        | no past ↦
            c.past k (omega arith) ∙ ap (λ (r : Run). get_or r.lent.outputs.first k 0) same
            ∙ sym (d.past k (omega (arith, ap size same)))
      ])

  pub one_chroma : (a.after.cb ≡ b.after.cb) × (a.after.cr ≡ b.after.cr)
  one_chroma =
      by_test (has_chroma a.given)
      (λ t.
      let b-cb : Copied a.given.lent.cb.bytes a.given.lent.outputs.cb b.after.cb =
      rw same (d.cb (rw (← same) t)) in
      let b-cr : Copied a.given.lent.cr.bytes a.given.lent.outputs.cr b.after.cr =
      rw same (d.cr (rw (← same) t)) in (
        one_list (c.cb t) b-cb ((c.cb t).long ∙ sym b-cb.long),
        one_list (c.cr t) b-cr ((c.cr t).long ∙ sym b-cr.long),
      ))
      (λ t.
      let a-none : IsYuv a.given → ⊥ = λ u. false≢true (sym t ∙ u) in
      let b-none : IsYuv b.given → ⊥ = rw (← same) a-none in (
        c.other_cb a-none ∙ ap (λ (r : Run). r.lent.outputs.cb) same ∙ sym (d.other_cb b-none),
        c.other_cr a-none ∙ ap (λ (r : Run). r.lent.outputs.cr) same ∙ sym (d.other_cr b-none),
      ))

-- ---- a plane toned by one table
-- a byte in a row has its pixel and its channel
pixel_of : (f : PixelFormat) (w h step k : ℕ) → in_row (w * bytes_a_pixel f) h step k ≡ true
    → (y x j : ℕ) × (y < h) × (x < w) × (j < bytes_a_pixel f) × (byte_index f step y x j ≡ k)
unfolding in_row
pixel_of f w h step k inside =
    let n = bytes_a_pixel f in
    let both = (and-eq-true_iff (ltb (k / step) h) (ltb (k % step) (w * n))).0 inside in
    let of_row = split_index w n (k % step) (ltb-true (k % step) (w * n) both.1) in (
      k / step,
      k % step / n,
      k % step % n,
      ltb-true (k / step) h both.0,
      of_row.0,
      of_row.1,
      rw (div-add-mod' (k % step) n) (div-add-mod' k step),
    )

pub one_plane : (f : PixelFormat) (w h step : ℕ) (table old a b : List ℕ)
    → ExactPlane f w h step table old a → ExactPlane f w h step table old b → a ≡ b
one_plane f w h step table old a b c d =
    ext_get_or 0 a b (c.long ∙ sym d.long)
    (λ k inside. by_test (in_row (w * bytes_a_pixel f) h step k)
    (λ t.
    let place = pixel_of f w h step k t in
    let y = place.0 in
    let x = place.1 in
    let j = place.2 in
    let index = place.6 in
    elim (ℕ_discrete j (alpha_of f)) [
      | yes alpha ↦
          rw index at (c.alpha y x j place.3 place.4 place.5 alpha)
          ∙ sym (rw index at (d.alpha y x j place.3 place.4 place.5 alpha))
      | no other ↦
          rw index at (c.toned y x j place.3 place.4 place.5 other)
          ∙ sym (rw index at (d.toned y x j place.3 place.4 place.5 other))
    ])
    (λ t. c.padding k t ∙ sym (d.padding k t)))

-- ---- what is handed back, and where the bytes lie
pub handed_back : (a : Call) → ExactPicture a
    → (steps : Steps) × (a.answered ≡ Ok steps) × (steps.step ≡ row_bytes a.given)
handed_back a e = (e.steps, e.done, e.step)

pub steps_handed_back : (a : Call) → PassedThrough a → has_chroma a.given ≡ true
    → ((steps_or_none a.answered).cb_step ≡ a.given.lent.cb.step)
    × ((steps_or_none a.answered).cr_step ≡ a.given.lent.cr.step)
steps_handed_back a p yuv = (p.cb_step yuv, p.cr_step yuv)

pub every_place_held : (a : Call) → ExactPicture a → (p : Place) → Within a.given p
    → (in_plane a.given p < length a.given.lent.plane.bytes)
    × (in_output a.given p < length a.after.first)
every_place_held a e p w = (e.in_plane_lem p w, e.in_output_lem p w)

-- ---- both chroma planes
pub chroma_copied : (a : Call) → PassedThrough a → has_chroma a.given ≡ true
    → (take (length a.given.lent.cb.bytes) a.after.cb ≡ a.given.lent.cb.bytes)
    × (take (length a.given.lent.cr.bytes) a.after.cr ≡ a.given.lent.cr.bytes)
chroma_copied a p yuv = (p.cb yuv, p.cr yuv)

pub chroma_the_same : (a b : Call) → WriteTheSame a b → has_chroma a.given ≡ true
    → has_chroma b.given ≡ true
    → (take (length a.given.lent.cb.bytes) a.after.cb
    ≡ take (length b.given.lent.cb.bytes) b.after.cb)
    × (take (length a.given.lent.cr.bytes) a.after.cr
    ≡ take (length b.given.lent.cr.bytes) b.after.cr)
chroma_the_same a b w a-yuv b-yuv = (rw (a-yuv, b-yuv) at w.cb, rw (a-yuv, b-yuv) at w.cr)
