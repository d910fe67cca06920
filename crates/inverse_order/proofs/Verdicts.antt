-- The verdict of refusals 4 and 10, by the tests as the code makes them. Assumes nothing.
use Rattle.std.specs.Prelude.{Ok, Err}
use mathlib.Core.Path.{◌≡◌, refl, sym, ap, ◌∙◌}
use mathlib.Core.Bool.{Bool, true, false, not, ◌&&◌, and-false}
use mathlib.Core.List.{List, [], ◌∷◌}
use Prim.Native.Nat.{ℕ, zero, suc, ◌-◌, ◌≤◌, ◌<◌}
use native.Mathlib.Omega.{arith}
use lib.ListN.{length, get_or, drop}
use lib.Ieee.{Float, nan}
use Rattle.error.specs.declared.Refusal.{Refusal}
use Rattle.error.specs.declared.Refusal.TheVariants.{BadKnot, TurnsBack}
use Rattle.error.specs.Refusals.{Uses, first, Verdict}
use Rattle.error.proofs.First.{never}
use Rattle.doubles.proofs.Tests.{holds, fails}
use Rattle.checks.specs.Checks.{in_range, all_in_range}
use Rattle.inverse_order.specs.Order.{rises, turns_back}
use Rattle.inverse_order.specs.Contract.{kept}
use Rattle.inverse_order.proofs.Scan.{all_sound}

-- ---- all in range and in order, by one scan
pub sound_in : (ks : List Float) → 4 ≤ length ks → in_range (get_or ks 0 nan) ≡ true → in_range (get_or ks 1 nan) ≡ true
    → in_range (get_or ks (length ks - 1) nan) ≡ true → kept (rises ks) (drop 1 ks) ≡ (all_in_range ks && not (turns_back ks))
sound_in [] h a b c = absurd (omega arith)
sound_in (x ∷ []) h a b c = absurd (omega arith)
sound_in (x ∷ (z ∷ r)) h a b c =
    let q : length (x ∷ (z ∷ r)) - 1 ≡ suc (length r) = omega arith in
    all_sound (rises (x ∷ (z ∷ r))) x z r (holds a) (holds b) (holds (sym (ap (λ (i : ℕ). in_range (get_or (x ∷ (z ∷ r)) i nan)) q) ∙ c))

one_out : (ks : List Float) (i : ℕ) → i < length ks → in_range (get_or ks i nan) ≡ false → all_in_range ks ≡ false
unfolding all_in_range
one_out [] i h e = absurd (omega arith)
one_out (x ∷ xs) zero h e = rw e
one_out (x ∷ xs) (suc i) h e = let q = one_out xs i (omega arith) e in rw q (and-false (in_range x))

pub sound_out : (ks : List Float) (i : ℕ) → i < length ks → in_range (get_or ks i nan) ≡ false → false ≡ (all_in_range ks && not (turns_back ks))
sound_out ks i h e = rw (one_out ks i h e)

-- ---- the knots' two rows: a is that all are in range, t that they turn back; p and q are the knots told
abbrev knot_rows : ℕ → ℕ → Bool → Bool → Bool → Uses
knot_rows p q a t check = (BadKnot p, not a) ∷ (TurnsBack q, check && t) ∷ []

module _ (p q : ℕ) (a t check : Bool) where
  pub knots_sound : (a && not t) ≡ true → Ok tt ≡ first (knot_rows p q a t check)
  knots_sound = go a t check
    where
      go : (a t check : Bool) → (a && not t) ≡ true → Ok tt ≡ first (knot_rows p q a t check)
      go true false true e = refl
      go true false false e = refl
      go true true check e = absurd (holds e)
      go false t check e = absurd (holds e)

  -- k is the verdict of the first row alone
  module _ {k : Verdict} (e : k ≡ first ((BadKnot p, not a) ∷ [])) where
    pub knots_unchecked : check ≡ false → k ≡ first (knot_rows p q a t check)
    knots_unchecked c = rw c e

    pub knots_stop : {r : Refusal} → k ≡ Err r → k ≡ first (knot_rows p q a t check)
    knots_stop {r} f = f ∙ go a (sym f ∙ e)
      where
        go : (a : Bool) → Err r ≡ first ((BadKnot p, not a) ∷ []) → Err r ≡ first (knot_rows p q a t check)
        go true h = never (cc)
        go false h = h

    pub knots_turn : {r : Refusal} → k ≡ Ok tt → check ≡ true → (a && not t) ≡ false → r ≡ TurnsBack q → Err r ≡ first (knot_rows p q a t check)
    knots_turn {r} f c n h = ap Err h ∙ go a t check (sym f ∙ e) c n
      where
        go : (a t check : Bool) → Ok tt ≡ first ((BadKnot p, not a) ∷ []) → check ≡ true → (a && not t) ≡ false
            → Err (TurnsBack q) ≡ first (knot_rows p q a t check)
        go true true true f c n = refl
        go true true false f c n = absurd (holds c)
        go true false check f c n = absurd (fails n)
        go false t check f c n = never (cc)
