-- Controls of the third demand at the C boundary. The bytes that it speaks of are those of the
-- call's own slices. Two calls share a set that two different records hold: one leaves kind 2 out,
-- one names it. And what the clauses ask of a call is met by one.
use Rattle.std.specs.Prelude.{ℕ, ◌+◌, ◌*◌, ◌<◌, ◌≡◌, refl, false, List, [], ◌∷◌, get_or, replicate}
use Rattle.std.proofs.Common.{arith, ap, lit<}
use Rattle.answers.specs.Numbers.{number_of, done}
use Rattle.answers.specs.Checks.{first_refusal}
use Rattle.points.specs.declared.Curve.{Curve}
use Rattle.points.specs.Joined.{FullRows}
use Rattle.points.specs.Points.{all_allowed}
use Rattle.tables.specs.declared.CurveInterpolation.{CurveInterpolation}
use Rattle.tables.specs.declared.CurveInterpolation.TheVariants.{Linear, MonotoneCubic}
use Rattle.sets.specs.declared.Channel.{Channel}
use Rattle.sets.specs.Sets.{set_answer}
use Rattle.sets.specs.SameLaws.{Full}
use Rattle.tables.specs.Kinds.{carried_of}
use Rattle.rows.specs.Rows.{needed}
use Rattle.formats.specs.Formats.{format_of, bytes_a_pixel}
use Rattle.records.specs.declared.RecordRead.{RecordRead}
use Rattle.records.specs.Views.{ReadRecordCall}
use Rattle.pictures.specs.Runs.{Run, InTypes, first, chroma}
use Rattle.pictures.specs.Examples.{answered}
use Rattle.examples.specs.Computed as Computed
use Rattle.tone_c.specs.Boundary.{PictureAsked, run_of, tone_picture_checks, TonePictureCall}
use Rattle.promises.specs.Words.{Call, Place}
use Rattle.promises.specs.BoundaryDemand3.{
  AcceptedCall,
  Share,
  input,
  output,
  TonedAt,
  IsLinear,
  NoListFalls,
}
use Rattle.promises.specs.Pixels.{no_bytes, byte_at, ran_on, here}

-- ---- a place's byte in y, and in the first output
pub plain_bytes : (c : AcceptedCall) (p : Place)
    → let n = bytes_a_pixel (format_of c.asked.format) in
    let y = c.asked.lent.plane in
    let along = p.column * n + p.channel in
    (input c p ≡ get_or y.bytes (p.row * y.step + along) 0)
    × (output c p ≡ get_or c.after.first (p.row * (c.asked.width * n) + along) 0)
plain_bytes c p = (refl, refl)

-- ---- what a reader hands back: the master (0,0) alone, of a kind, in lists of 64 places
abbrev sixty_four : ℕ → Curve
sixty_four n = record { xs = replicate 64 0; ys = replicate 64 0; count = n }

abbrev none : Channel
none = record { present = false; curve = sixty_four 0 }

module _ (kind : CurveInterpolation) (tension : (carried_of kind).tension < 256) where
  abbrev handed : RecordRead
  handed = record {
    answer = done;
    set = record {
      master = sixty_four 1;
      red = none;
      green = none;
      blue = none;
      interpolation = kind;
    };
  }

  handed_full : Full handed.set
  handed_full =
      let rows : (n : ℕ) → FullRows (sixty_four n) = λ n. record { xs = refl; ys = refl } in
      record { master = rows 1; red = rows 0; green = rows 0; blue = rows 0 }

  -- a grey pixel of 5, asked of the C call with a record, and its run
  abbrev asked_by : List ℕ → PictureAsked
  asked_by stored = record {
    stored = stored;
    format = 0;
    width = 1;
    height = 1;
    planes = 1;
    lent = record {
      plane = record { bytes = 5 ∷ []; step = 1 };
      cb = no_bytes;
      cr = no_bytes;
      outputs = record { first = 0 ∷ []; cb = []; cr = [] };
    };
  }

  abbrev pixel : Run
  pixel = run_of (asked_by []) handed.set

  pixel_types : InTypes pixel
  pixel_types = record {
    plane = byte_at (5 ∷ []) (lit< tt, tt);
    points = record { master = ((lit< tt, lit< tt), tt); red = tt; green = tt; blue = tt };
    tension = tension;
  }

  abbrev ran : Call
  ran = ran_on pixel pixel_types

  -- the same pixel by the C call, with a record that is read as this set
  toned : (stored : List ℕ) → ReadRecordCall stored handed
      → 0 ≡ number_of (first_refusal (tone_picture_checks (asked_by stored)))
      → TonePictureCall (asked_by stored) 0 ran.after
  unfolding answered format_of first chroma
  toned stored read accepted = record {
    number = accepted;
    unchanged = λ other. absurd (other refl);
    run = λ zero. record {
      handed = handed;
      toned = ran.answered;
      read = read;
      call = ran.contract;
      done = refl;
    };
  }

  abbrev called : (stored : List ℕ) → ReadRecordCall stored handed
      → 0 ≡ number_of (first_refusal (tone_picture_checks (asked_by stored)))
      → AcceptedCall
  called stored read accepted =
      record { asked = asked_by stored; after = ran.after; contract = toned stored read accepted }

-- ---- kind 2 left out, and named
pub two_records_one_set :
    (a b : AcceptedCall) × Share a b × (a.asked.stored ≡ b.asked.stored → ⊥)
unfolding Computed.read set_answer all_allowed format_of needed
two_records_one_set =
    let byte : (carried_of MonotoneCubic).tension < 256 = lit< tt in
    let short : List ℕ = 0x01 ∷ 1 ∷ 0 ∷ 0 ∷ [] in
    let long : List ℕ = 0x11 ∷ 1 ∷ 0 ∷ 0 ∷ 2 ∷ [] in
    let full = handed_full MonotoneCubic byte in (
      called MonotoneCubic byte short
          (record { answer = refl; set = refl; legal = refl; full = full }) refl,
      called MonotoneCubic byte long
          (record { answer = refl; set = refl; legal = refl; full = full }) refl,
      record { set = refl; format = refl; width = refl; height = refl },
      λ e. omega (arith, ap (λ (l : List ℕ). get_or l 0 0) e),
    )

-- ---- what the clauses ask is met: a Linear set, of which no list falls, tones a byte
pub premises_met : (a : AcceptedCall) × IsLinear a × NoListFalls a × TonedAt a here
unfolding Computed.read set_answer all_allowed format_of needed
premises_met =
    let byte : (carried_of Linear).tension < 256 = lit< tt in
    let stored : List ℕ = 0x11 ∷ 1 ∷ 0 ∷ 0 ∷ 0 ∷ [] in
    let full = handed_full Linear byte in (
      called Linear byte stored
          (record { answer = refl; set = refl; legal = refl; full = full }) refl,
      refl,
      record { master = tt; red = tt; green = tt; blue = tt },
      record {
        within = record { row = lit< tt; column = lit< tt; channel = lit< tt };
        not_alpha = λ e. omega (arith, e);
      },
    )
