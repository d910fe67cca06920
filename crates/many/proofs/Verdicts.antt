-- The verdict of many parameters, by the tests as the code makes them, and what it says where it is passed. Assumes nothing.
use Rattle.std.specs.Prelude.{Ok, Err}
use Rattle.std.proofs.Common.{◌≡◌, ℕ, ◌≤◌, true, false, ltb, List, [], ◌∷◌, length, ltb-false}
use borrow.Author.Tests.{not-false}
use lib.Ieee.{Float}
use Rattle.error.specs.declared.Refusal.{Refusal}
use Rattle.error.specs.declared.Refusal.TheVariants.{NotANumber, ShortBuffer}
use Rattle.error.specs.Refusals.{first, Verdict}
use Rattle.error.proofs.First.{stops, goes_on, clear}
use Rattle.basis.specs.declared.Basis.{Basis}
use Rattle.checks.specs.Checks.{all_in_range, bad_knot, curve_length}
use Rattle.many.specs.Many.{some_nan, many_uses}

module _ (b : Basis) (xs ks : List Float) (room : ℕ) {l : Verdict} (e : l ≡ first (curve_length b (length ks))) where
  pub many_stops : {r : Refusal} → l ≡ Err r → l ≡ first (many_uses b xs ks room)
  many_stops k = stops (many_uses b xs ks room) e k

  pub many_number : l ≡ Ok tt → some_nan xs ≡ true → Err NotANumber ≡ first (many_uses b xs ks room)
  many_number k n = goes_on (many_uses b xs ks room) e k (simp n)

  pub many_short : l ≡ Ok tt → some_nan xs ≡ false → ltb room (length xs) ≡ true → Err ShortBuffer ≡ first (many_uses b xs ks room)
  many_short k n s = goes_on (many_uses b xs ks room) e k (simp (n, s))

  pub many_knots : l ≡ Ok tt → some_nan xs ≡ false → ltb room (length xs) ≡ false → {w : Verdict} → w ≡ first (bad_knot ks ∷ [])
      → w ≡ first (many_uses b xs ks room)
  many_knots k n s h = goes_on (many_uses b xs ks room) e k (simp (n, s) h)

-- ---- what a passed verdict says
pub record Sound (b : Basis) (xs ks : List Float) (room : ℕ) : Type 0 where
  pub enough : 4 ≤ length ks
  pub most : length ks ≤ 4096
  pub numbers : some_nan xs ≡ false
  pub fits : length xs ≤ room
  pub tame : all_in_range ks ≡ true

pub many_sound : (b : Basis) (xs ks : List Float) (room : ℕ) → first (many_uses b xs ks room) ≡ Ok tt → Sound b xs ks room
many_sound b xs ks room e =
    let p = clear (many_uses b xs ks room) e in
    record {
      enough = ltb-false (length ks) 4 (p 1);
      most = ltb-false 4096 (length ks) (p 3);
      numbers = p 5;
      fits = ltb-false room (length xs) (p 9);
      tame = not-false (all_in_range ks) (p 4);
    }
