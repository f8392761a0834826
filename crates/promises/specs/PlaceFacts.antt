-- The places of a picture: each lies in its row, and every byte of the tight rows has one.
use Rattle.std.specs.Prelude.{ℕ, ◌+◌, ◌*◌, ◌/◌, ◌%◌, ◌<◌, ◌≡◌}
use Rattle.std.proofs.Common.{mod-lt, div-lt_iff_lt-mul, eq-zero-or-pos, mul-zero, div-add-mod', arith, ⊎_elim}
use Rattle.rows.specs.Places.{mul_room}
use Rattle.formats.specs.Formats.{bytes_a_pixel}
use Rattle.pictures.specs.Runs.{Run, row_bytes, size}
use Rattle.promises.specs.Words.{Place, Within, along, in_output}

-- index k of m rows of n bytes each: its row, and how far along
pub split_index : (m n k : ℕ) → k < m * n → (k / n < m) × (k % n < n)
split_index m n k h =
    let some : 0 < n = ⊎_elim (λ e. absurd (omega (arith, rw (e, mul-zero) at h))) (λ s. s)
    (eq-zero-or-pos n) in
    ((div-lt_iff_lt-mul {x = k} {y = m} some).1 h, mod-lt k some)

-- every byte of the tight rows has a place
pub place_at : (r : Run) (k : ℕ) → k < size r
    → (p : Place) × Within r p × (p.row * row_bytes r + along r p ≡ k)
place_at r k h =
    let n = bytes_a_pixel r.job.format in
    let row = row_bytes r in
    let of-rows = split_index r.job.height row k h in
    let of_row = split_index r.job.width n (k % row) of-rows.1 in (
      record { row = k / row; column = k % row / n; channel = k % row % n },
      record { row = of-rows.0; column = of_row.0; channel = of_row.1 },
      rw (div-add-mod' (k % row) n) (div-add-mod' k row),
    )

-- where the words say that it lies in the output. Nothing rests on this
pub place_of : (r : Run) (k : ℕ) → k < size r → (p : Place) × Within r p × (in_output r p ≡ k)
place_of = place_at

-- a place lies in its row
pub along_row : (r : Run) (p : Place) → Within r p → along r p < row_bytes r
along_row r p w =
    omega (
      arith,
      mul_room p.column r.job.width (bytes_a_pixel r.job.format) w.column,
      w.channel,
    )
