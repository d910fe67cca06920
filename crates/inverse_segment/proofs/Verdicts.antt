-- The rows of the refusal table that the inversion of a segment uses, by the order of the code's tests. Assumes nothing.
use Rattle.inverse_segment.specs.Inversion.{Inversion}
use Rattle.inverse_segment.specs.declared.Miss.TheVariants.{Refused, OffCurve}
use Rattle.std.specs.Prelude.{Ok, Err}
use mathlib.Core.Path.{◌≡◌, refl, sym, ap, ◌∙◌, subst}
use mathlib.Core.Bool.{true, false}
use mathlib.Core.List.{List, [], ◌∷◌}
use Prim.Native.Nat.{ℕ, ◌≤◌}
use native.Mathlib.Omega.{arith}
use borrow.Author.Tests.{ltb-false, eqb-false, not-false}
use lib.ListN.{length}
use lib.Ieee.{Float, is_nan}
use Rattle.error.specs.declared.Refusal.{Refusal}
use Rattle.error.specs.Refusals.{Uses, first, Verdict}
use Rattle.error.proofs.First.{stops_in, goes_past, stops, goes_on, clear, never}
use Rattle.basis.specs.declared.Basis.{Basis}
use Rattle.spline.specs.Segment.{segment_of}
use Rattle.checks.specs.Checks.{segment_length, all_in_range, bad_knot, precise, asked}
use Rattle.checks.proofs.Verdicts.{asked_rows, last_rows}
use Rattle.inverse_segment.specs.Evaluations.{Evaluations}
use Rattle.inverse_segment.specs.declared.Place.{Place}
use Rattle.inverse_segment.specs.declared.Stop.{Stop}
use Rattle.inverse_segment.specs.declared.Trial.{Trial}
use Rattle.inverse_segment.specs.declared.Trial.TheVariants.{Outside, Inside}
use Rattle.inverse_segment.specs.Round.{Rule}
use Rattle.inverse_segment.specs.Segment.{Outcome, off, placed, Entry, outside, inside, enter, outcome_of}
use Rattle.inverse_segment.specs.Contract.{stop_of, place_at, trial_of}
use Rattle.inverse_segment.proofs.Stops.{place_at_lem, Leaves, enter_leaves}
use Rattle.inverse_segment.specs.Answer.{answered, alone, inverted, inverse_segment_uses, inverse_segment_by}

-- ---- the call's rows, in the order of its tests
module _ (y : Float) (cv : List Float) (limit : ℕ) (ε : Float) {l : Verdict} (e : l ≡ first (segment_length (length cv))) where
  abbrev uses : Uses
  uses = inverse_segment_uses y cv limit ε

  pub by_length : {r : Refusal} → l ≡ Err r → l ≡ first uses
  by_length k = stops uses e k

  module _ (k : l ≡ Ok tt) {a : Verdict} (e_a : a ≡ first (asked y limit ε)) where
    pub by_asked : {r : Refusal} → a ≡ Err r → a ≡ first uses
    by_asked d = goes_on uses e k (stops_in asked_rows last_rows uses e_a d)

    pub by_knots : a ≡ Ok tt → {w : Verdict} → w ≡ first (bad_knot cv ∷ []) → w ≡ first uses
    by_knots p h = goes_on uses e k (goes_past asked_rows last_rows uses e_a p h)

-- ---- what a passed verdict says
pub record Passes (y : Float) (cv : List Float) (limit : ℕ) (ε : Float) : Type 0 where
  pub four : length cv ≡ 4
  pub number : is_nan y ≡ false
  pub precise_is : precise ε ≡ true
  pub some : (limit ≡ 0) → ⊥
  pub in_range_lem : all_in_range cv ≡ true

pub passes : (y : Float) (cv : List Float) (limit : ℕ) (ε : Float) → first (inverse_segment_uses y cv limit ε) ≡ Ok tt → Passes y cv limit ε
passes y cv limit ε e =
    let p = clear (inverse_segment_uses y cv limit ε) e in
    let long : 4 ≤ length cv = ltb-false (length cv) 4 (p 1) in
    let short : length cv ≤ 4 = ltb-false 4 (length cv) (p 2) in
    record {
      four = omega arith;
      number = p 5;
      precise_is = not-false (precise ε) (p 6);
      some = eqb-false limit 0 (p 7);
      in_range_lem = not-false (all_in_range cv) (p 4);
    }

-- ---- a refusal by a row
-- an answer past the rows refuses by none of them
abbrev pub Past : Inversion → Type 0
Past (Ok p) = Unit
Past (Err (OffCurve n)) = Unit
Past (Err (Refused r)) = ⊥

pub answered_past : (P : ℕ → Float → Float) (o : Outcome) → Past (answered P o)
answered_past P (off ev) = tt
answered_past P (placed p) = tt

-- so it is the verdict that refuses
pub refused_by : (v : Verdict) (a : Inversion) (r : Refusal) → Past a → inverted v a ≡ Err (Refused r) → v ≡ Err r
refused_by (Ok _) a r p e = absurd (subst Past e p)
refused_by (Err q) a r p e = let s : q ≡ r = cc in ap Err s

-- ---- what the call answers, by the rule R
module _ (R : Rule) (b : Basis) (y : Float) (cv : List Float) (limit : ℕ) (ε : Float) {v : Verdict} (e : v ≡ first (inverse_segment_uses y cv limit ε)) where
  pub fits_for : v ≡ Ok tt → 4 ≤ length cv
  fits_for p = let q = (passes y cv limit ε (sym e ∙ p)).four in omega (arith, q)

  pub refused_is : {r : Refusal} → v ≡ Err r → Err (Refused r) ≡ inverse_segment_by R b y cv limit ε
  unfolding inverse_segment_by
  refused_is d = rw (← e, d)

  -- its trial
  told : v ≡ Ok tt → answered alone (outcome_of (enter R (segment_of b cv 0) 0 y ε limit [])) ≡ inverse_segment_by R b y cv limit ε
  unfolding inverse_segment_by
  told d = rw (← e, d)

  -- by what its trial came to
  module _ (d : v ≡ Ok tt) {t : Trial}
      (i : (s : ℕ) (ev : Evaluations) → length ev ≡ 0 → t ≡ trial_of (enter R (segment_of b cv 0) s y ε limit ev)) where
    abbrev entry : Entry
    entry = enter R (segment_of b cv 0) 0 y ε limit []

    pub place_is : {a : Stop} {p : Place} → t ≡ Inside a → p ≡ place_at a.local 0 a → Ok p ≡ inverse_segment_by R b y cv limit ε
    place_is {a} {p} k z = go entry (sym k ∙ i 0 [] refl) (enter_leaves R (segment_of b cv 0) 0 y ε limit []) ∙ told d
      where
        go : (e : Entry) → Inside a ≡ trial_of e → Leaves 0 0 e → Ok p ≡ answered alone (outcome_of e)
        go (outside v ev) q l = never (cc)
        go (inside o) q l = let stop : a ≡ stop_of o = cc in ap Ok (z ∙ place_at_lem alone o l stop refl)

    pub off_is : {x : Float} → t ≡ Outside x → Err (OffCurve 2) ≡ inverse_segment_by R b y cv limit ε
    off_is {x} k = go entry (sym k ∙ i 0 [] refl) (enter_leaves R (segment_of b cv 0) 0 y ε limit []) ∙ told d
      where
        go : (e : Entry) → Outside x ≡ trial_of e → Leaves 0 0 e → Err (OffCurve 2) ≡ answered alone (outcome_of e)
        go (outside v ev) q l = ap (λ a. Err (OffCurve a)) (sym l)
        go (inside o) q l = never (cc)
