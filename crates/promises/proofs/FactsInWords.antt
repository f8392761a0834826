-- Facts below the pages, in the words of the pages. In specs/ they are said in the terms of the
-- definitions that the contract names, so that a must-fail edit of a word is refused by the page
-- that puts a fact and the word together, and by nothing that rests on it.
use Rattle.std.specs.Prelude.{ℕ, ◌<◌, ◌≤◌, ◌≡◌, length}
use mathlib.Core.List.{Memᴰ}
use Rattle.rows.specs.Bytes.{toned}
use Rattle.formats.specs.Formats.{alpha_of}
use Rattle.sets.specs.Sets.{view_of}
use Rattle.pictures.specs.Runs.{tables_of}
use Rattle.points.specs.declared.Point.{Point}
use Rattle.points.specs.Points.{rounded}
use Rattle.points.specs.Knots.{OnLine}
use Rattle.promises.specs.Words.{
  Call,
  Accepted,
  Share,
  Place,
  Within,
  IsAlpha,
  TonedAt,
  input,
  output,
  in_output,
  list_that_tones,
  kind_in,
  IsLinear,
  IsSpline,
  NoListFalls,
  WholeHeights,
  Nearest,
  NearlyNearest,
  ExactPicture,
  PassedThrough,
}
use Rattle.promises.specs.RunFacts as RunFacts
use Rattle.promises.specs.ShareFacts as ShareFacts
use Rattle.promises.specs.TonedFacts as TonedFacts
use Rattle.promises.specs.Demand3 as Demand3
use Rattle.promises.specs.Request9 as Request9

module _ (c : Call) (ok : Accepted c) where
  pub output_holds : (p : Place) → Within c.given p → in_output c.given p < length c.after.first
  output_holds = RunFacts.output_holds c ok

  pub at_place : (p : Place) → Within c.given p
      → output c p
      ≡ toned (alpha_of c.given.job.format) (tables_of c.given.job.format (view_of c.given.job.set)) p.channel
      (input c p)
  at_place = RunFacts.at_place c ok

  pub alpha_copied : (p : Place) → Within c.given p → IsAlpha c.given p → output c p ≡ input c p
  alpha_copied = RunFacts.alpha_copied c ok

  pub toned_nearest : IsLinear c.given → (p : Place) → TonedAt c.given p
      → WholeHeights (list_that_tones c.given p)
      → (n d : ℕ) → OnLine (list_that_tones c.given p) (input c p) n d → Nearest n d (output c p)
  toned_nearest = TonedFacts.toned_nearest c ok

  pub toned_nearly : IsLinear c.given → (p : Place) → TonedAt c.given p
      → (n d : ℕ) → OnLine (list_that_tones c.given p) (input c p) n d
      → NearlyNearest n d (output c p)
  toned_nearly = Request9.near c ok

  pub through_point : (IsSpline (kind_in c.given) → ⊥) → (p : Place) → TonedAt c.given p
      → (q : Point) → Memᴰ q (list_that_tones c.given p) → input c p ≡ q.x
      → output c p ≡ rounded q.y
  through_point = TonedFacts.through_point c ok

  pub as_defined : ExactPicture c
  as_defined = Demand3.exact c ok

  pub alpha_and_chroma : PassedThrough c
  alpha_and_chroma = Demand3.passed_through c ok

pub same_list : (a b : Call) → Share a b → (p : Place)
    → list_that_tones a.given p ≡ list_that_tones b.given p
same_list a b share p = ShareFacts.same_list a b share p.channel

pub by_input_alone : (a b : Call) → Accepted a → Accepted b → kind_in a.given ≡ kind_in b.given
    → (p q : Place) → TonedAt a.given p → TonedAt b.given q
    → list_that_tones a.given p ≡ list_that_tones b.given q → input a p ≡ input b q
    → output a p ≡ output b q
by_input_alone = TonedFacts.by_input_alone

module _ (a b : Call) (share : Share a b) (a-ok : Accepted a) (b-ok : Accepted b) where
  pub in_order : IsLinear a.given → NoListFalls a.given → (p : Place) → TonedAt a.given p
      → input a p ≤ input b p → output a p ≤ output b p
  in_order = TonedFacts.in_order a b share a-ok b-ok
