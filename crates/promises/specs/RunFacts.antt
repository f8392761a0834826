-- What is at each place of the first output of a run that is not refused, how long that output is,
-- and that each place lies in the plane and in the output.
-- It is said in the terms of the definitions that the contract names. Where a word of Words says
-- the same, as `output` and `list_that_tones` do, the pages that speak by it put the two together,
-- and `toned_entry` here, so that a word that says another thing is refused where it is used.
use Rattle.std.specs.Prelude.{ℕ, ◌+◌, ◌*◌, ◌≤◌, ◌<◌, ◌≡◌, true, List, length, get_or}
use Rattle.std.proofs.Common.{arith, ◌∙◌, length-take-le}
use Rattle.lists.specs.Tabulate.{filled, length_filled, get_d_filled_rest}
use Rattle.points.specs.declared.Point.{Point}
use Rattle.tables.specs.Tables.{entry_of}
use Rattle.sets.specs.Sets.{view_of}
use Rattle.rows.specs.Bytes.{toned, row_byte}
use Rattle.rows.specs.Rows.{tight_byte}
use Rattle.rows.specs.Places.{mul_room}
use Rattle.rows.specs.Laws.{toned_through, toned_kept, rows_inside, tight_pixel}
use Rattle.formats.specs.Formats.{bytes_a_pixel, alpha_of}
use Rattle.pictures.specs.Runs.{Run, row_bytes, size, accepted, tables_of, toned_by, first}
use Rattle.pictures.specs.RunLaws as Checked
use Rattle.promises.specs.Words.{
  Call,
  Accepted,
  Place,
  Within,
  along,
  in_plane,
  input,
  output,
  IsAlpha,
  TonedAt,
  list_that_tones,
  kind_in,
  written,
}
use Rattle.promises.specs.ListFacts.{toning_table}
use Rattle.promises.specs.PlaceFacts.{along_row}

-- the tables of a run by channel
abbrev tables_in : Run → ℕ → List ℕ
tables_in r = tables_of r.job.format (view_of r.job.set)

-- the list that tones channel j
abbrev pub toning : Run → ℕ → List Point
toning r j = toned_by r.job.format (view_of r.job.set) j

-- a place's byte in the tight rows
abbrev pub tight : Call → Place → ℕ
tight c p = get_or c.after.first (p.row * row_bytes c.given + along c.given p) 0

module _ (c : Call) where
  pub input_byte : (p : Place) → input c p < 256
  input_byte p = c.contract.in_types.plane (in_plane c.given p)

-- ---- one run that is not refused
module _ (c : Call) (ok : Accepted c) where
  pub passed_checks : Checked.Accepted c.given
  passed_checks = Checked.accepted_run c.given ok

  pub not_refused : accepted c.given ≡ true
  not_refused = rw ok

  pub out_filled : c.after.first ≡ filled (size c.given)
      (tight_byte (row_bytes c.given) c.given.lent.plane.step
      (row_byte (bytes_a_pixel c.given.job.format) (alpha_of c.given.job.format)
      (tables_in c.given))
      c.given.lent.plane.bytes) c.given.lent.outputs.first
  unfolding first
  out_filled = c.contract.first ∙ rw not_refused

  -- what is at a place
  pub at_place : (p : Place) → Within c.given p
      → tight c p
      ≡ toned (alpha_of c.given.job.format) (tables_in c.given) p.channel (input c p)
  at_place p w =
      let r = c.given in
      rw out_filled
      (tight_pixel r.job.width r.job.height r.lent.plane.step
      (bytes_a_pixel r.job.format) (alpha_of r.job.format) (tables_in r)
      r.lent.plane.bytes r.lent.outputs.first
      p.row p.column p.channel w.row w.column w.channel)

  -- it lies in the plane and in the output
  pub plane_holds : (p : Place) → Within c.given p
      → in_plane c.given p < length c.given.lent.plane.bytes
  plane_holds p w =
      omega (
        arith,
        along_row c.given p w,
        rows_inside p.row passed_checks.plane.rows (λ none. omega (arith, w.column))
            w.row,
      )

  pub out_long : length c.after.first ≡ length c.given.lent.outputs.first
  out_long =
      rw out_filled
      (length_filled (size c.given) _ c.given.lent.outputs.first passed_checks.room)

  pub output_holds : (p : Place) → Within c.given p
      → p.row * row_bytes c.given + along c.given p < length c.after.first
  output_holds p w =
      omega (
        arith,
        along_row c.given p w,
        mul_room p.row c.given.job.height (row_bytes c.given) w.row,
        out_long,
        passed_checks.room,
      )

  -- a toned byte is its entry in the table of the list that tones it; alpha is copied
  pub tight_entry : (p : Place) → TonedAt c.given p
      → tight c p ≡ entry_of (kind_in c.given) (toning c.given p.channel) (input c p)
  tight_entry p t =
      let r = c.given in
      at_place p t.within
      ∙ toned_through (alpha_of r.job.format) p.channel (tables_in r) (input c p)
      t.not_alpha
      ∙ toning_table r.job.format (view_of r.job.set) p.channel (input c p)
      (input_byte c p)

  -- the same in the words of the demands. Nothing rests on this
  pub toned_entry : (p : Place) → TonedAt c.given p
      → output c p ≡ entry_of (kind_in c.given) (list_that_tones c.given p) (input c p)
  toned_entry = tight_entry

  pub alpha_copied : (p : Place) → Within c.given p → IsAlpha c.given p
      → tight c p ≡ input c p
  alpha_copied p w alpha =
      let r = c.given in
      at_place p w
      ∙ toned_kept (alpha_of r.job.format) p.channel (tables_in r) (input c p) alpha

  -- past the rows it stays
  pub past_stays : (k : ℕ) → size c.given ≤ k
      → get_or c.after.first k 0 ≡ get_or c.given.lent.outputs.first k 0
  past_stays k h =
      rw out_filled (get_d_filled_rest (size c.given) _ c.given.lent.outputs.first k 0 h)

  pub written_long : length (written c) ≡ size c.given
  written_long =
      length-take-le (size c.given) c.after.first
      (omega (arith, out_long, passed_checks.room))
