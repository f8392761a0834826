-- Runs for the controls, with what the contract says that they answer and write: of any picture,
-- and of one column by a master alone, made of a list, a kind and bytes.
use Rattle.std.specs.Prelude.{ℕ, zero, suc, ◌+◌, ◌*◌, ◌<◌, ◌≡◌, refl, true, false, List, [], ◌∷◌, length, get_or}
use Rattle.std.proofs.Common.{arith, ◌∙◌, lit<}
use Rattle.std.proofs.Math.Seq.{take-length}
use Rattle.points.specs.Joined.{curve_of, joined_back}
use Rattle.points.specs.declared.Point.{Point}
use Rattle.points.specs.declared.Curve.{Curve}
use Rattle.points.specs.Points.{list_of}
use Rattle.points.specs.Order.{All, Typed}
use Rattle.tables.specs.declared.CurveInterpolation.{CurveInterpolation}
use Rattle.tables.specs.Kinds.{carried_of}
use Rattle.tables.specs.declared.CurveInterpolation.TheVariants.{Linear}
use Rattle.tables.specs.Tables.{entry_of}
use Rattle.sets.specs.declared.Channel.{Channel}
use Rattle.sets.specs.declared.Curves.{Curves}
use Rattle.sets.specs.SameLaws.{same_refl}
use Rattle.formats.specs.declared.PixelFormat.{PixelFormat}
use Rattle.formats.specs.declared.PixelFormat.TheVariants.{Gray8}
use Rattle.pictures.specs.Runs.{
  PlaneOf,
  Run,
  InTypes,
  first,
  chroma,
  handed,
}
use Rattle.promises.specs.Words.{Call, Accepted, Share, Place, TonedAt, input, output}
use Rattle.promises.specs.RunFacts.{tight_entry}

-- a list and a kind, as the types have them
pub record Toning : Type 0 where
  pub list : List Point
  pub kind : CurveInterpolation
  pub typed : All Typed list
  pub tension : (carried_of kind).tension < 256

-- a picture one pixel wide, with one chroma plane
pub record Strip : Type 0 where
  pub by : Toning
  pub format : PixelFormat
  pub height : ℕ
  pub plane : List ℕ
  pub step : ℕ
  pub chroma : List ℕ

-- a list as a curve holds it, and as a colour that is present
abbrev stored : List Point → Curve
stored l = curve_of l (length l)

pub stored_typed : (l : List Point) → All Typed l → All Typed (list_of (stored l))
stored_typed l typed = rw (joined_back l 0, take-length l) typed

abbrev pub own : List Point → Channel
own l = record { present = true; curve = stored l }

abbrev absent : Channel
absent = record { present = false; curve = stored [] }

-- the Linear set of a master and a red list
abbrev pub linear : List Point → Channel → Curves
linear master red =
    record {
      master = stored master;
      red = red;
      green = absent;
      blue = absent;
      interpolation = Linear;
    }

abbrev pub no_bytes : PlaneOf
no_bytes = record { bytes = []; step = 0 }

abbrev pub run_of : Strip → Run
run_of g = record {
  job = record {
    set = record {
      master = stored g.by.list;
      red = absent;
      green = absent;
      blue = absent;
      interpolation = g.by.kind;
    };
    format = g.format;
    width = 1;
    height = g.height;
    planes = 3;
  };
  lent = record {
    plane = record { bytes = g.plane; step = g.step };
    cb = record { bytes = g.chroma; step = 1 };
    cr = no_bytes;
    outputs = record { first = 0 ∷ 0 ∷ 0 ∷ 0 ∷ []; cb = 0 ∷ []; cr = [] };
  };
}

-- each number is a byte
abbrev pub AreBytes : List ℕ → Type 0
AreBytes [] = Unit {0}
AreBytes (x ∷ l) = (x < 256) × AreBytes l

pub byte_at : (l : List ℕ) → AreBytes l → (k : ℕ) → get_or l k 0 < 256
byte_at [] a k = lit< tt
byte_at (x ∷ l) a zero = a.0
byte_at (x ∷ l) a (suc k) = byte_at l a.1 k

pub types_of : (g : Strip) → AreBytes g.plane → InTypes (run_of g)
types_of g bytes = record {
  plane = byte_at g.plane bytes;
  points = record {
    master = stored_typed g.by.list g.by.typed;
    red = tt;
    green = tt;
    blue = tt;
  };
  tension = g.by.tension;
}

-- the call that a run is
abbrev pub ran_on : (r : Run) → InTypes r → Call
ran_on r in_types = record {
  given = r;
  answered = handed r;
  after = record {
    first = first r;
    cb = chroma r r.lent.cb r.lent.outputs.cb;
    cr = chroma r r.lent.cr r.lent.outputs.cr;
  };
  contract = record {
    handed = refl;
    first = refl;
    cb = refl;
    cr = refl;
    in_types = in_types;
  };
}

abbrev pub ran : (g : Strip) → AreBytes g.plane → Call
ran g bytes = ran_on (run_of g) (types_of g bytes)

pub shared : (g h : Strip) (g-bytes : AreBytes g.plane) (h-bytes : AreBytes h.plane)
    → g.by ≡ h.by → g.format ≡ h.format
    → g.height ≡ h.height → Share (ran g g-bytes) (ran h h-bytes)
shared g h g-bytes h-bytes by format height = record {
  set = rw by (same_refl (run_of h).job.set);
  format = format;
  width = refl;
  height = height;
}

-- the first byte
abbrev pub here : Place
here = record { row = 0; column = 0; channel = 0 }

-- ---- a grey pixel
abbrev pub grey : Toning → ℕ → Strip
grey s v = record { by = s; format = Gray8; height = 1; plane = v ∷ []; step = 1; chroma = [] }

abbrev pub ran_grey : (s : Toning) (v : ℕ) → v < 256 → Call
ran_grey s v byte = ran (grey s v) (byte, tt)

pub grey_toned : (s : Toning) (v : ℕ) → TonedAt (run_of (grey s v)) here
grey_toned s v =
    record {
      within = record { row = lit< tt; column = lit< tt; channel = lit< tt };
      not_alpha = λ e. omega arith;
    }

module _ (s : Toning) (v : ℕ) (byte : v < 256) where
  pub grey_input : (p : Place) → p.row < 1 → p.column < 1 → p.channel < 1
      → input (ran_grey s v byte) p ≡ v
  grey_input p row column channel = let only : p.row * 1 + (p.column * 1 + p.channel) ≡ 0 =
      omega arith in rw only

  pub grey_output : Accepted (ran_grey s v byte)
      → output (ran_grey s v byte) here ≡ entry_of s.kind s.list v
  grey_output ok =
      tight_entry (ran_grey s v byte) ok here (grey_toned s v)
      ∙ rw (joined_back s.list 0, take-length s.list)
