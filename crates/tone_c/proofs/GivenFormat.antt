-- A format's number that is read: refused by its check, or the format of that number.
use Rattle.std.specs.Prelude.{ℕ, ◌≡◌, [], ◌∷◌, ltb, Ok, Err}
use Rattle.std.proofs.Common.{sym, ap, ◌∙◌}
use Rattle.answers.specs.declared.Refusal.{Refusal}
use Rattle.answers.specs.Numbers.{answer_of, done}
use Rattle.answers.specs.Checks.{first_refusal}
use Rattle.lists.specs.Test.{by_test}
use Rattle.formats.specs.declared.PixelFormat.{PixelFormat}
use Rattle.formats.specs.Formats.{format_of, last_format, numbered_format}
use Rattle.tone_c.specs.Boundary.{format_check}

numbered : (n : ℕ) → answer_of (numbered_format n) ≡ first_refusal (format_check n ∷ [])
numbered n = by_test (ltb last_format n) (λ t. rw t) (λ t. rw t)

pub format_refused : (n : ℕ) {e : Refusal} → numbered_format n ≡ Err e
    → first_refusal (format_check n ∷ []) ≡ Err e
format_refused n e = sym (numbered n) ∙ ap answer_of e

pub format_passed : (n : ℕ) {f : PixelFormat} → numbered_format n ≡ Ok f
    → first_refusal (format_check n ∷ []) ≡ done
format_passed n e = sym (numbered n) ∙ ap answer_of e

pub format_is : (n : ℕ) {f : PixelFormat} → numbered_format n ≡ Ok f → f ≡ format_of n
format_is n {f} e =
    by_test (ltb last_format n) (λ t. let no = rw t at e in cc) (λ t. let is = rw t at e in cc)
