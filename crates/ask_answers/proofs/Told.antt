-- What is told of a depth that is reached, and at which seconds `every` tells. A job that is under way has every promise of the call `stopped`. The rows told
-- stand in the sheet: four knots are left where a segment starts, so it ends at a row, unless it is the last of Power. Assumes nothing.
use Rattle.stopped.specs.declared.Job.TheVariants.{UnderWay}
use Rattle.std.specs.Prelude.{Ok}
use mathlib.Core.Path.{◌≡◌, sym, ap}
use mathlib.Core.Bool.{false}
use mathlib.Core.List.{List}
use Prim.Native.Nat.{ℕ, ◌+◌, ◌-◌, ◌*◌, ◌/◌, ◌≤◌, ◌<◌}
use native.Mathlib.Nat.{add-mul, one-mul, le-div_iff_mul-le}
use native.Mathlib.Omega.{arith}
use borrow.Author.Tests.{le-leb}
use lib.Ieee.{Float}
use lib.ListN.{length}
use Rattle.basis.specs.declared.Basis.TheVariants.{Bspline, Bezier, CatmullRom, Hermite, Linear, Power}
use Rattle.basis.specs.Basis.{segments_of}
use Rattle.calls.specs.Calls.{Exactly}
use Rattle.inverse.proofs.Curve.{segment_fits}
use Rattle.inverse_segment.specs.declared.Place.{Place}
use Rattle.stopped.specs.Stopped.{stopped_of}
use Rattle.stopped.proofs.Stops.{Kept}
use Rattle.table_span.specs.Second.{elapsed}
use Rattle.table_span.proofs.Largest.{Largest}
use Rattle.ask_sheet.specs.declared.Kind.{Kind}
use Rattle.ask_sheet.specs.declared.Kind.TheVariants.{Drawn, Monotone}
use Rattle.ask_verdict.specs.Curve.{basis_of, row_step}
use Rattle.ask_answers.specs.Answers.{row_of, reached_text, job_text, table_by, find_text, multiples_below}
use Rattle.ask_answers.proofs.Answers.{multiple_below}
use Rattle.ask_answers.proofs.Jobs.{under_way}

-- ---- find
-- how many knots a sheet of m rows has
abbrev pub KnotsFor : Kind → ℕ → ℕ → Type 0
KnotsFor (Drawn b) m n = n ≡ m
KnotsFor Monotone m n = n ≡ 2 * m

-- the row at which a segment starts is one of the sheet's
pub starts_at_row : (k : Kind) (m n s : ℕ) → 4 ≤ n → KnotsFor k m n → s < segments_of (basis_of k) n → row_of k s < m
starts_at_row (Drawn Bspline) m n s h e l = omega (arith, segment_fits Bspline n s h l)
starts_at_row (Drawn Bezier) m n s h e l = omega (arith, segment_fits Bezier n s h l)
starts_at_row (Drawn CatmullRom) m n s h e l = omega (arith, segment_fits CatmullRom n s h l)
starts_at_row (Drawn Hermite) m n s h e l = omega (arith, segment_fits Hermite n s h l)
starts_at_row (Drawn Linear) m n s h e l = omega (arith, segment_fits Linear n s h l)
starts_at_row (Drawn Power) m n s h e l = omega (arith, segment_fits Power n s h l)
starts_at_row Monotone m n s h e l = omega (arith, segment_fits Hermite n s h l)

-- so is that at which it ends; of Power the last segment ends at none, since its rows are coefficients
abbrev pub EndsAtRow : Kind → ℕ → ℕ → ℕ → Type 0
EndsAtRow (Drawn Bspline) m n s = row_of (Drawn Bspline) (s + 1) < m
EndsAtRow (Drawn Bezier) m n s = row_of (Drawn Bezier) (s + 1) < m
EndsAtRow (Drawn CatmullRom) m n s = row_of (Drawn CatmullRom) (s + 1) < m
EndsAtRow (Drawn Hermite) m n s = row_of (Drawn Hermite) (s + 1) < m
EndsAtRow (Drawn Linear) m n s = row_of (Drawn Linear) (s + 1) < m
EndsAtRow (Drawn Power) m n s = s + 1 < segments_of Power n → row_of (Drawn Power) (s + 1) < m
EndsAtRow Monotone m n s = row_of Monotone (s + 1) < m

pub ends_at_row : (k : Kind) (m n s : ℕ) → 4 ≤ n → KnotsFor k m n → s < segments_of (basis_of k) n → EndsAtRow k m n s
ends_at_row (Drawn Bspline) m n s h e l = omega (arith, segment_fits Bspline n s h l)
ends_at_row (Drawn Bezier) m n s h e l = omega (arith, segment_fits Bezier n s h l)
ends_at_row (Drawn CatmullRom) m n s h e l = omega (arith, segment_fits CatmullRom n s h l)
ends_at_row (Drawn Hermite) m n s h e l = omega (arith, segment_fits Hermite n s h l)
ends_at_row (Drawn Linear) m n s h e l = omega (arith, segment_fits Linear n s h l)
ends_at_row (Drawn Power) m n s h e l = λ g. starts_at_row (Drawn Power) m n (s + 1) h e g
ends_at_row Monotone m n s h e l = omega (arith, segment_fits Hermite n s h l)

module _ (k : Kind) (ks : List Float) (ls : List (List ℕ)) (span : ℕ) (y : Float) where
  -- of a job that is under way: the line told; every promise of the call; the largest whole second not above parameter × span; and the two rows
  pub record Reached (s : ℕ) (p : Place) : Type 0 where
    pub text : find_text k ks ls span y ≡ reached_text k ls span y s p
    pub kept : Kept (table_by k span) y ks false s p
    pub second : 1 ≤ span → Largest span (elapsed span p.parameter) s
    pub segment : p.segment < segments_of (basis_of k) (length ks)
    pub start : 4 ≤ length ks → KnotsFor k (length ls) (length ks) → row_of k p.segment < length ls
    pub next : row_of k (p.segment + 1) ≡ row_of k p.segment + row_step k
    pub end : 4 ≤ length ks → KnotsFor k (length ls) (length ks) → EndsAtRow k (length ls) (length ks) p.segment

  next_row : (s : ℕ) → row_of k (s + 1) ≡ row_of k s + row_step k
  next_row s = omega (arith, add-mul s 1 (row_step k), one-mul (row_step k))

  pub reached : (s : ℕ) (p : Place) → Ok (UnderWay s p) ≡ stopped_of (table_by k span) y ks false → Reached s p
  reached s p e =
      let w = under_way (table_by k span) y ks false s p e in
      let b = w.entered.below in
      record {
        text = ap (job_text k ls span y) (sym e);
        kept = w;
        second = λ h. rw (le-leb 1 span h) at w.second;
        segment = b;
        start = λ h g. starts_at_row k (length ls) (length ks) p.segment h g b;
        next = next_row p.segment;
        end = λ h g. ends_at_row k (length ls) (length ks) p.segment h g b;
      }

-- ---- every: the multiples told are those below the span, each of them
pub told_below : (span n i : ℕ) → 1 ≤ span → 0 < n → Exactly (i < multiples_below span n) (i * n < span)
told_below span n i some step = (
  λ h. omega (arith, multiple_below span n i h),
  λ h. let g : i ≤ (span - 1) / n = (le-div_iff_mul-le step).1 (omega arith) in omega arith,
)
