-- What the record reader's steps answer beside the record's checks, and that it hands back the
-- empty set where one of them fails. That it answers their first refusal is in proofs/AnswerLaws.
use Rattle.std.specs.Prelude.{ℕ, ◌*◌, ◌≡◌, refl, Bool, true, false, cond, not, List, [], ◌∷◌, ◌++◌, ltb, length, get_or, drop, Err}
use Rattle.std.proofs.Common.{arith, sym, ap, true≢false, le-ltb}
use Rattle.lists.specs.Test.{by_test}
use Rattle.answers.specs.declared.Refusal.{Refusal}
use Rattle.answers.specs.declared.Refusal.TheVariants.{RecordTruncated, TrailingBytes}
use Rattle.answers.specs.Numbers.{is_done, Answer, done}
use Rattle.answers.specs.Checks.{
  Check,
  ◌when◌,
  first_refusal,
  first_append,
  AllPassed,
  all_passed,
}
use Rattle.answers.proofs.CheckLaws.{first_stops}
use Rattle.tables.specs.Kinds.{carries_tension, carries_slopes}
use Rattle.sets.specs.Sets.{View, empty_view}
use Rattle.records.specs.Parse.{Parse, good, refused, ◌▷◌, checked}
use Rattle.records.specs.Map.{bit}
use Rattle.records.specs.declared.point_lists.Edition.TheVariants.{One}
use Rattle.records.specs.PointLists.{point_bytes, pairs, read_points, read_list, read_field}
use Rattle.records.specs.Kinds.{
  unnamed_kind,
  bits_check,
  read_tension,
  read_slopes,
  read_carried,
  read_agreed,
}
use Rattle.records.specs.Format.{end_step, read_result, read_fields, read_record}
use Rattle.records.specs.Checks.{
  is_empty,
  stored_list_checks,
  field_checks,
  after_field,
  carried_length,
}

-- ---- what a reading behind checks finds: a refusal of theirs, or what it finds without them
module _ {A : Type 0} (p : Parse A) where
  checked_refused : (cs : List Check) {r : Refusal} → first_refusal cs ≡ Err r
      → checked cs p ≡ refused r
  checked_refused [] e = absurd (true≢false (ap is_done e))
  checked_refused (c ∷ cs) e =
      by_test c.fails (λ t. rw t (ap refused (cc (rw t at e))))
      (λ t. rw t (checked_refused cs (rw t at e)))

  pub checked_stops : (cs ds : List Check) {r : Refusal} → first_refusal cs ≡ Err r
      → checked (cs ++ ds) p ≡ refused r
  checked_stops cs ds e = checked_refused (cs ++ ds) (sym (first_stops cs ds e))

  pub checked_goes_on : (cs ds : List Check) → first_refusal cs ≡ done
      → checked (cs ++ ds) p ≡ checked ds p
  checked_goes_on [] ds done = refl
  checked_goes_on (c ∷ cs) ds done =
      let q = all_passed (c ∷ cs) done in
      rw q.0 (checked_goes_on cs ds (rw q.0 at done))

-- what every refusal has, and the reading once its checks have passed
pub checked_has : {A : Type 0} (P : Parse A → Type 0)
    → ((r : Refusal) → P (refused r))
    → (cs : List Check) (p : Parse A) → (AllPassed cs → P p) → P (checked cs p)
checked_has P refusals [] p holds = holds tt
checked_has P refusals (c ∷ cs) p holds =
    by_test c.fails (λ t. rw t (refusals c.refusal))
    (λ t. rw t (checked_has P refusals cs p (λ passed. holds (t, passed))))

-- ---- the reader against the flat list
abbrev answer_of : {A : Type 0} → Parse A → Answer
answer_of (good v s) = done
answer_of (refused r) = Err r

abbrev GoesOn : {A : Type 0} → List ℕ → Parse A → Type 0
GoesOn t (good v s) = s ≡ t
GoesOn t (refused r) = Unit {0}

-- a reading answers the first refusal of the checks, and where it refuses nothing it goes on with t
pub record Reads {A : Type 0} (cs : List Check) (t : List ℕ) (p : Parse A) : Type 0 where
  pub answer : answer_of p ≡ first_refusal cs
  pub goes_on : GoesOn t p

reads_on : {A : Type 0} (v : A) (s : List ℕ) → Reads [] s (good v s)
reads_on v s = record { answer = refl; goes_on = refl }

-- one reading after another
pub reads_then :
    {A B : Type 0} {cs ds : List Check} {t u : List ℕ} {p : Parse A} (next : A → List ℕ → Parse B)
    → Reads cs t p
    → ((v : A) → Reads ds u (next v t)) → Reads (cs ++ ds) u (p ▷ next)
reads_then {cs = cs} {ds = ds} {p = good v s} next f g =
    let h = rw (← f.goes_on) at (g v) in
    record { answer = rw (first_append cs ds, ← f.answer) h.answer; goes_on = h.goes_on }
reads_then {cs = cs} {ds = ds} {p = refused r} next f g =
    record { answer = first_stops cs ds (sym f.answer); goes_on = tt }

-- a reading behind checks
behind : {A : Type 0} (c : Check) (t : Bool)
    → {cs : List Check} {u : List ℕ} {p : Parse A}
    → Reads cs u p
    → (answer_of (cond t (refused c.refusal) p) ≡ cond t (Err c.refusal) (first_refusal cs))
    × GoesOn u (cond t (refused c.refusal) p)
behind c true f = (refl, tt)
behind c false f = (f.answer, f.goes_on)

pub checked_read : {A : Type 0} (cs : List Check) {ds : List Check} {u : List ℕ} {p : Parse A}
    → Reads ds u p
    → Reads (cs ++ ds) u (checked cs p)
checked_read [] f = f
checked_read (c ∷ cs) f =
    let r = behind c c.fails (checked_read cs f) in
    record { answer = r.0; goes_on = r.1 }

-- a list
list_read : (least : ℕ) (s : List ℕ)
    → Reads (stored_list_checks least s) (drop (get_or s 0 0 * point_bytes One) (drop 1 s))
    (read_list least s)
unfolding read_list read_points
list_read least [] = record { answer = refl; goes_on = tt }
list_read least (n ∷ s) =
    checked_read (stored_list_checks least (n ∷ s))
    (reads_on (pairs One n s) (drop (n * point_bytes One) s))

pub field_read : (present : Bool) (least : ℕ) (s : List ℕ)
    → Reads (field_checks present least s) (after_field present s) (read_field present least s)
field_read true least s = list_read least s
field_read false least s = reads_on [] s

-- a field read, and a member replaced by it
pub step_read : {A B : Type 0} {cs : List Check} {t : List ℕ} {p : Parse A} (f : A → B)
    → Reads cs t p
    → Reads cs t (p ▷ λ v s. good (f v) s)
step_read {p = good v s} f h = record { answer = h.answer; goes_on = h.goes_on }
step_read {p = refused r} f h = record { answer = h.answer; goes_on = h.goes_on }

-- the kind
tension_read : (k : ℕ) (s : List ℕ)
    → Reads (RecordTruncated when ltb (length s) 1 ∷ []) (drop 1 s) (read_tension k s)
unfolding read_tension
tension_read k [] = record { answer = refl; goes_on = tt }
tension_read k (q ∷ s) =
    rw (le-ltb (length (q ∷ s)) 1 (omega arith))
    (checked_read (RecordTruncated when false ∷ []) (reads_on _ s))

carried_read : (k : ℕ) (s : List ℕ)
    → Reads (RecordTruncated when ltb (length s) (carried_length k) ∷ []) (drop (carried_length k) s)
    (read_carried k s)
unfolding read_carried read_slopes
carried_read k s =
    by_test (carries_tension k) (λ t. rw t (tension_read k s))
    (λ t.
    by_test (carries_slopes k)
    (λ u. rw (t, u)
    (checked_read (RecordTruncated when ltb (length s) 4 ∷ []) (reads_on _ (drop 4 s))))
    (λ u. rw (t, u, le-ltb (length s) 0 (omega arith))
    (checked_read (RecordTruncated when false ∷ []) (reads_on _ s))))

pub agreed_read : (m k : ℕ) (s : List ℕ)
    → Reads (bits_check m k ∷ RecordTruncated when ltb (length s) (carried_length k) ∷ [])
    (drop (carried_length k) s) (read_agreed m k s)
agreed_read m k s = checked_read (bits_check m k ∷ []) (carried_read k s)

pub end_read : (v : View) (s : List ℕ)
    → Reads (TrailingBytes when not (is_empty s) ∷ []) [] (end_step v s)
end_read v [] = checked_read (TrailingBytes when false ∷ []) (reads_on v [])
end_read v (b ∷ s) = record { answer = refl; goes_on = tt }

pub result_answer : {cs : List Check} {p : Parse View} → Reads cs [] p
    → (read_result p).answer ≡ first_refusal cs
result_answer {p = good v s} f = f.answer
result_answer {p = refused r} f = f.answer

-- ---- a refused record holds nothing
result_empty : (p : Parse View) → is_done (read_result p).answer ≡ false → (read_result p).set ≡ empty_view
result_empty (good v s) e = absurd (true≢false e)
result_empty (refused r) e = refl

pub read_empty : (s : List ℕ) → is_done (read_record s).answer ≡ false
    → (read_record s).set ≡ empty_view
unfolding read_record
read_empty [] e = refl
read_empty (m ∷ s) e = result_empty (read_fields (unnamed_kind (bit 128 m)) m s) e
