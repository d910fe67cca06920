-- A curve of knots in range: how many segments it has, where they lie, and that each is a number wherever it is evaluated. Assumes nothing.
use mathlib.Core.Path.{◌≡◌}
use mathlib.Core.Bool.{true, false}
use mathlib.Core.List.{List}
use Prim.Native.Nat.{ℕ, ◌+◌, ◌-◌, ◌*◌, ◌/◌, ◌≤◌, ◌<◌}
use native.Mathlib.Nat.{add-mul, one-mul}
use native.Mathlib.Omega.{arith}
use lib.ListN.{length}
use lib.Ieee.{Float, is_nan}
use Rattle.basis.specs.declared.Basis.{Basis}
use Rattle.basis.specs.Basis.{step_of, segments_of}
use Rattle.doubles.proofs.Tests.{holds, fails}
use Rattle.spline.specs.Segment.{segment_of}
use Rattle.checks.specs.Checks.{all_in_range}
use Rattle.spline.proofs.Parts.{inside, few}
use Rattle.inverse_segment.proofs.Enclosing.{Numbers}
use Rattle.inverse_segment.proofs.Call.{segment_numbers}

module _ (b : Basis) (n : ℕ) where
  pub segments_some : 0 < segments_of b n
  segments_some = omega arith

  pub segments_few : n ≤ 4096 → segments_of b n ≤ 4093
  segments_few h = omega (arith, few n (step_of b) h)

  pub segments_fit : 4 ≤ n → segments_of b n * step_of b + 4 ≤ n + step_of b
  segments_fit h = omega (
    arith,
    inside ((n - 4) / step_of b) (step_of b) (n - 4) (omega arith),
    add-mul ((n - 4) / step_of b) 1 (step_of b),
    one-mul (step_of b),
  )

  pub segment_fits : (s : ℕ) → 4 ≤ n → s < segments_of b n → s * step_of b + 4 ≤ n
  segment_fits s h l = omega (arith, inside s (step_of b) (n - 4) (omega arith))

pub curve_numbers : (b : Basis) (y : Float) (ks : List Float) → 4 ≤ length ks → is_nan y ≡ false → all_in_range ks ≡ true → (s : ℕ)
    → s < segments_of b (length ks) → Numbers (segment_of b ks s) y
curve_numbers b y ks long n t s l = segment_numbers b ks s y (holds t) (segment_fits b (length ks) s long l) (fails n)
