-- What one segment's call owes on every input, from what the inversion of a segment owes. Assumes nothing.
use Rattle.inverse_segment.specs.Inversion.{Inversion}
use Rattle.inverse_segment.specs.declared.Miss.TheVariants.{Refused, OffCurve}
use Rattle.std.specs.Prelude.{Ok, Err}
use mathlib.Core.Path.{◌≡◌, refl, sym, ap, subst}
use mathlib.Core.Bool.{not, cond}
use mathlib.Core.List.{List, []}
use Prim.Native.Nat.{ℕ, ◌+◌, ◌*◌, ◌≤◌}
use native.Mathlib.Nat.{zero-mul}
use native.Mathlib.Omega.{arith}
use lib.Dec.{T, T_not, ltb, eqb}
use lib.ListN.{length}
use lib.Ieee.{Float, lt, is_nan}
use Rattle.error.specs.Refusals.{first, Verdict}
use Rattle.basis.specs.declared.Basis.{Basis}
use Rattle.basis.specs.Basis.{step_of}
use Rattle.doubles.specs.Numbers.{nought, one}
use Rattle.doubles.proofs.Tests.{holds, fails, branch}
use Rattle.doubles.proofs.Bounds.{within_number}
use Rattle.doubles.proofs.Units.{nought_le}
use Rattle.spline.specs.Segment.{segment_of}
use Rattle.checks.specs.Checks.{all_in_range, precise}
use Rattle.spline.proofs.Finite.{knots_within, segment_finite}
use Rattle.inverse_segment.specs.Agreed.{Agreed}
use Rattle.inverse_segment.specs.Round.{Rule}
use Rattle.inverse_segment.specs.Segment.{encloses, Entry, outside, inside, enter, evaluations_of, Outcome, off, placed, outcome_of}
use Rattle.inverse_segment.specs.Answer.{
  number_told,
  count_told,
  answered,
  alone,
  inverted,
  unless_refused,
  inverse_segment_uses,
  inverse_segment_by,
  segment_evaluations_by,
}
use Rattle.inverse_segment.proofs.Rules.{Lawful}
use Rattle.inverse_segment.proofs.Enclosing.{Numbers, Sound}
use Rattle.inverse_segment.proofs.Places.{Tells, missed, hit, enter_tells}
use Rattle.inverse_segment.proofs.Complete.{seen_in, enter_same}
use Rattle.inverse_segment.proofs.Verdicts.{passes}

-- each segment of knots in range is a number on 0 to 1
pub segment_numbers : (b : Basis) (ks : List Float) (s : ℕ) (y : Float) → T (all_in_range ks) → s * step_of b + 4 ≤ length ks → T (not (is_nan y))
    → Numbers (segment_of b ks s) y
segment_numbers b ks s y good long n =
    record { target = n; values = λ x u. within_number (segment_finite b _ x (knots_within ks (s * step_of b) good long) (nought_le x u.sign) u.top).0 }

-- ---- what the answer owes where no row applies
module _ (f : Float → Float) (y ε : Float) (limit : ℕ) where
  abbrev pub Owed : Inversion → Type 0
  Owed (Err (Refused r)) = ⊥
  Owed (Err (OffCurve n)) = T (not (encloses (f nought) (f one) y)) × (n ≡ 2)
  Owed (Ok p) =
      T (encloses (f nought) (f one) y) × Sound f y ε (lt (f nought) (f one)) limit 2 p.ground p.local p.lower p.upper p.count
      × (p.segment ≡ 0) × (p.parameter ≡ p.local)

  owed : (o : Entry) → Tells f 0 y ε limit [] o → Owed (answered alone (outcome_of o))
  owed _ (missed h) = (h, refl)
  owed _ (hit h r e) = (h, r, e, refl)

  owed_count : (a : Inversion) → Owed a → count_told a ≤ limit + 2
  owed_count (Err (Refused r)) h = absurd h
  owed_count (Err (OffCurve n)) h = omega arith
  owed_count (Ok p) h = omega (arith, h.1.count)

  owed_number : (a : Inversion) → Owed a → number_told a ≡ cond (encloses (f nought) (f one) y) 0 11
  owed_number (Err (Refused r)) h = absurd h
  owed_number (Err (OffCurve n)) h =
      branch (λ (k : ℕ). 11 ≡ k) (encloses (f nought) (f one) y) (λ t. absurd (T_not (encloses (f nought) (f one) y) h.0 t)) (λ _. refl)
  owed_number (Ok p) h = branch (λ (k : ℕ). 0 ≡ k) (encloses (f nought) (f one) y) (λ _. refl) (λ t. absurd (T_not (encloses (f nought) (f one) y) t h.0))

count_any : (limit : ℕ) (v : Verdict) (a : Inversion) → (v ≡ Ok tt → count_told a ≤ limit + 2) → count_told (inverted v a) ≤ limit + 2
count_any limit (Ok _) a h = h refl
count_any limit (Err r) a h = omega arith

listed : (v : Verdict) (o : Outcome) → count_told (inverted v (answered alone o)) ≡ length (unless_refused v (evaluations_of o))
listed (Ok _) (off ev) = refl
listed (Ok _) (placed p) = refl
listed (Err r) o = refl

seen_is : (e : Entry) → evaluations_of (outcome_of e) ≡ seen_in e
seen_is (outside v ev) = refl
seen_is (inside p) = refl

module _ (R : Rule) (lawful : Lawful R) (b : Basis) (y : Float) (cv : List Float) (limit : ℕ) (ε : Float) where
  abbrev Passed-all : Type 0
  Passed-all = first (inverse_segment_uses y cv limit ε) ≡ Ok tt

  said : Passed-all → Tells (segment_of b cv 0) 0 y ε limit [] (enter R (segment_of b cv 0) 0 y ε limit [])
  said e =
      let p = passes y cv limit ε e in
      let long : 0 * step_of b + 4 ≤ length cv = omega (arith, zero-mul (step_of b), p.four) in
      enter_tells R lawful (segment_of b cv 0) 0 y ε limit [] (segment_numbers b cv 0 y (holds p.in_range_lem) long (fails p.number))

  answers : Passed-all → inverse_segment_by R b y cv limit ε ≡ answered alone (outcome_of (enter R (segment_of b cv 0) 0 y ε limit []))
  unfolding inverse_segment_by
  answers e = ap (λ (v : Verdict). inverted v (answered alone (outcome_of (enter R (segment_of b cv 0) 0 y ε limit [])))) e

  pub inverse_segment_owed : Passed-all → Owed (segment_of b cv 0) y ε limit (inverse_segment_by R b y cv limit ε)
  inverse_segment_owed e =
      subst (λ (a : Inversion). Owed (segment_of b cv 0) y ε limit a) (sym (answers e))
      (owed (segment_of b cv 0) y ε limit (enter R (segment_of b cv 0) 0 y ε limit []) (said e))

  -- at most limit + 2 evaluations, whatever is asked
  pub inverse_segment_count : count_told (inverse_segment_by R b y cv limit ε) ≤ limit + 2
  unfolding inverse_segment_by
  inverse_segment_count =
      let o = enter R (segment_of b cv 0) 0 y ε limit [] in
      count_any limit (first (inverse_segment_uses y cv limit ε)) (answered alone (outcome_of o))
      (λ e. owed_count (segment_of b cv 0) y ε limit (answered alone (outcome_of o)) (owed (segment_of b cv 0) y ε limit o (said e)))

  -- 11 where no row applies and the end values do not enclose the target; and nowhere else
  pub inverse_segment_number : Passed-all
      → number_told (inverse_segment_by R b y cv limit ε) ≡ cond (encloses (segment_of b cv 0 nought) (segment_of b cv 0 one) y) 0 11
  inverse_segment_number e = owed_number (segment_of b cv 0) y ε limit (inverse_segment_by R b y cv limit ε) (inverse_segment_owed e)

  pub inverse_segment_eleven : number_told (inverse_segment_by R b y cv limit ε) ≡ 11 → Passed-all
  unfolding inverse_segment_by
  inverse_segment_eleven =
      let P : Verdict → Type 0 = λ v. number_told (inverted v (answered alone (outcome_of (enter R (segment_of b cv 0) 0 y ε limit [])))) ≡ 11 → v ≡ Ok tt in
      branch P (ltb (length cv) 4) (λ _ e. absurd (omega arith))
      (λ _. branch P (ltb 4 (length cv)) (λ _ e. absurd (omega arith))
      (λ _. branch P (is_nan y) (λ _ e. absurd (omega arith))
      (λ _. branch P (not (precise ε)) (λ _ e. absurd (omega arith))
      (λ _. branch P (eqb limit 0) (λ _ e. absurd (omega arith))
      (λ _. branch P (not (all_in_range cv)) (λ _ e. absurd (omega arith)) (λ _ e. refl))))))

  -- ---- the list of evaluations
  -- the count is its length
  pub inverse_segment_listed : count_told (inverse_segment_by R b y cv limit ε) ≡ length (segment_evaluations_by R b y cv limit ε)
  unfolding inverse_segment_by segment_evaluations_by
  inverse_segment_listed = listed (first (inverse_segment_uses y cv limit ε)) (outcome_of (enter R (segment_of b cv 0) 0 y ε limit []))

  -- it misses none: a segment h that agrees with this one at every listed place gets the same answer
  pub inverse_segment_unlisted : (h : ℕ → Float → Float) → Agreed (segment_of b cv) h (segment_evaluations_by R b y cv limit ε)
      → inverse_segment_by R b y cv limit ε ≡ inverted (first (inverse_segment_uses y cv limit ε)) (answered alone (outcome_of (enter R (h 0) 0 y ε limit [])))
  unfolding inverse_segment_by segment_evaluations_by
  inverse_segment_unlisted h = go (first (inverse_segment_uses y cv limit ε))
    where
      go : (v : Verdict) → Agreed (segment_of b cv) h (unless_refused v (evaluations_of (outcome_of (enter R (segment_of b cv 0) 0 y ε limit []))))
          → inverted v (answered alone (outcome_of (enter R (segment_of b cv 0) 0 y ε limit []))) ≡ inverted v
          (answered alone (outcome_of (enter R (h 0) 0 y ε limit [])))
      go (Ok _) a =
          let e = enter R (segment_of b cv 0) 0 y ε limit [] in
          ap (λ (z : Entry). answered alone (outcome_of z)) (enter_same (segment_of b cv) h R 0 y ε limit [] (subst (Agreed (segment_of b cv) h) (seen_is e) a))
      go (Err r) a = refl
