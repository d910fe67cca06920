-- The refusals of the two calls: the length's rows, then the output's, and what holds where no row applies. Assumes nothing.
use Rattle.std.specs.Prelude.{Ok, Err}
use mathlib.Core.Path.{◌≡◌, ap, ◌∙◌}
use mathlib.Core.Bool.{true, false}
use mathlib.Core.List.{List}
use Prim.Native.Nat.{ℕ, ◌+◌, ◌-◌, ◌*◌, ◌/◌, ◌≤◌}
use native.Mathlib.Nat.{le_trans, mul-le-mul}
use native.Mathlib.Omega.{arith}
use borrow.Author.Tests.{ltb-false, not-false}
use lib.Dec.{lit≤}
use lib.ListN.{length}
use lib.Ieee.{Float}
use Rattle.error.specs.declared.Refusal.{Refusal}
use Rattle.error.specs.Refusals.{first, Verdict}
use Rattle.error.proofs.First.{stops, goes_on, clear}
use Rattle.basis.specs.declared.Basis.{Basis}
use Rattle.basis.specs.Basis.{step_of, is_linear}
use Rattle.checks.specs.Checks.{curve_length, segment_length, all_in_range}
use Rattle.spline.proofs.Parts.{few}
use Rattle.checks.proofs.Verdicts.{Length}
use Rattle.convert.specs.Output.{output_length}
use Rattle.convert.specs.Conversion.{output_uses, convert_segment_uses, convert_uses}

-- ---- the length's rows, then the output's
module _ (to : Basis) (cv : List Float) (room : ℕ) {l : Verdict} (e : l ≡ first (segment_length (length cv))) where
  pub segment_stops : {r : Refusal} → l ≡ Err r → l ≡ first (convert_segment_uses to cv room)
  segment_stops k = stops (convert_segment_uses to cv room) e k

  pub segment_goes_on : {w : Verdict} → l ≡ Ok tt → w ≡ first (output_uses to cv 4 room) → w ≡ first (convert_segment_uses to cv room)
  segment_goes_on k h = goes_on (convert_segment_uses to cv room) e k h

module _ (from to : Basis) (ks : List Float) (room : ℕ) {l : Verdict} (e : l ≡ first (curve_length from (length ks))) where
  pub spline_stops : {r : Refusal} → l ≡ Err r → l ≡ first (convert_uses from to ks room)
  spline_stops k = stops (convert_uses from to ks room) e k

  pub spline_goes_on : {w : Verdict} {need : ℕ} → l ≡ Ok tt → need ≡ output_length from to (length ks) → w ≡ first (output_uses to ks need room)
      → w ≡ first (convert_uses from to ks room)
  spline_goes_on k n h = goes_on (convert_uses from to ks room) e k (h ∙ ap (λ (x : ℕ). first (output_uses to ks x room)) n)

-- ---- where no row applies
-- an output basis with an inverse, room, and knots in range
pub record Room (to : Basis) (ks : List Float) (need room : ℕ) : Type 0 where
  pub invertible : is_linear to ≡ false
  pub enough : need ≤ room
  pub in_range_lem : all_in_range ks ≡ true

pub segment_passed : (to : Basis) (cv : List Float) (room : ℕ) → first (convert_segment_uses to cv room) ≡ Ok tt → (length cv ≡ 4) × Room to cv 4 room
segment_passed to cv room e =
    let p = clear (convert_segment_uses to cv room) e in
    let least : 4 ≤ length cv = ltb-false (length cv) 4 (p 1) in
    let most : length cv ≤ 4 = ltb-false 4 (length cv) (p 2) in
    (omega arith, record { invertible = p 8; enough = ltb-false room 4 (p 9); in_range_lem = not-false (all_in_range cv) (p 4) })

pub spline_passed : (from to : Basis) (ks : List Float) (room : ℕ) → first (convert_uses from to ks room) ≡ Ok tt
    → Length (length ks) × Room to ks (output_length from to (length ks)) room
spline_passed from to ks room e =
    let p = clear (convert_uses from to ks room) e in
    let n = length ks in (
      record { least = ltb-false n 4 (p 1); most = ltb-false 4096 n (p 3) },
      record { invertible = p 8; enough = ltb-false room (output_length from to n) (p 9); in_range_lem = not-false (all_in_range ks) (p 4) },
    )

-- ---- the output's length in steps
pub less_one : (k : ℕ) → k ≡ k + 1 - 1
less_one k = omega arith

pub output_steps : (from to : Basis) (n a b : ℕ) → a ≡ step_of from → b ≡ step_of to → 4 + (n - 4) / a * b ≡ output_length from to n
output_steps from to n a b p q = rw (p, q) (ap (λ (k : ℕ). 4 + k * step_of to) (less_one ((n - 4) / step_of from)))

pub few_steps : (n a b : ℕ) → n ≤ 4096 → b ≤ 4 → (n - 4) / a * b ≤ 16384
few_steps n a b h g = le_trans (mul-le-mul (few n a h) g) (lit≤ tt)
