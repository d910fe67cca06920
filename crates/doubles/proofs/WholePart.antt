-- The whole part, by comparing: what one comparison with a whole number says of all others. Assumes nothing.
use Rattle.std.proofs.Common.{
  ◌≡◌,
  ℕ,
  zero,
  suc,
  ◌+◌,
  ◌-◌,
  ◌<◌,
  ◌≤◌,
  min,
  true,
  false,
  not,
  T,
  sym,
  refl,
  ap,
  ◌∙◌,
  subst,
  inl,
  inr,
  eq-or-lt_of_le,
  mul-one,
  arith,
  lit<,
  T_not,
}
use native.Mathlib.Nat.{min-eq_left, min-eq_right}
use lib.Dec.{not_T}
use lib.Ieee.{Float, binary64, le, lt, of_int}
use lib.Ieee.Order.{round_mono}
use Rattle.doubles.specs.Whole.{double, whole_up_to}
use Rattle.doubles.proofs.Rounding.{le_or_lt}
use Rattle.doubles.proofs.Tests.{holds, fails, branch}
use Rattle.doubles.proofs.Order.{le_trans_float, lt_le_absurd}

-- whole numbers keep their order as doubles
pub double_mono : {i j : ℕ} → i ≤ j → T (le (double i) (double j))
unfolding of_int
double_mono {i} {j} h = round_mono binary64 i 1 j 1 (lit< tt) (lit< tt) (simp mul-one h)

pub whole_le : (m : ℕ) (y : Float) → whole_up_to m y ≤ m
unfolding whole_up_to
whole_le zero y = omega arith
whole_le (suc m) y = branch (λ (n : ℕ). n ≤ suc m) (le (double (suc m)) y) (λ h. omega arith) (λ h. omega (arith, whole_le m y))

-- a number that is at most y is its own whole part
pub reached : (n : ℕ) (y : Float) → T (le (double n) y) → whole_up_to n y ≡ n
unfolding whole_up_to
reached zero y h = refl
reached (suc n) y h = branch (λ (r : ℕ). r ≡ suc n) (le (double (suc n)) y) (λ t. refl) (λ t. absurd (T_not (le (double (suc n)) y) t h))

-- where n + 1 is not at most y, no greater number is
pub skipped : (m n : ℕ) (y : Float) → n ≤ m → T (not (le (double (n + 1)) y)) → whole_up_to m y ≡ whole_up_to n y
unfolding whole_up_to
skipped zero n y h k = let e : 0 ≡ n = omega arith in ap (λ (i : ℕ). whole_up_to i y) e
skipped (suc m) n y h k =
    elim (eq-or-lt_of_le h) [
      | inl e ↦ ap (λ (i : ℕ). whole_up_to i y) (sym e)
      | inr l ↦ branch (λ (r : ℕ). r ≡ whole_up_to n y) (le (double (suc m)) y)
          (λ t. absurd (T_not (le (double (n + 1)) y) k (le_trans_float (double (n + 1)) (double (suc m)) y (double_mono (omega arith)) t)))
          (λ t. skipped m n y (omega arith) k)
    ]

-- y lies from n up to n + 1
pub guessed : (m n : ℕ) (y : Float) → T (le (double n) y) → T (lt y (double (n + 1))) → whole_up_to m y ≡ min n m
guessed m n y h k =
    elim (le_or_lt m n) [
      | inl l ↦ reached m y (le_trans_float (double m) (double n) y (double_mono l) h) ∙ sym (min-eq_right l)
      | inr l ↦ skipped m n y (omega arith) (not_T (le (double (n + 1)) y) (lt_le_absurd y (double (n + 1)) k))
          ∙ (reached n y h ∙ sym (min-eq_left (omega arith)))
    ]

-- ---- halving: low is reached, and nothing above high up to m is
pub record Halving (m : ℕ) (y : Float) (low high : ℕ) : Type 0 where
  pub below : low ≤ high
  pub up_to : high ≤ m
  pub same : whole_up_to high y ≡ whole_up_to m y
  pub own : whole_up_to low y ≡ low

pub begun : (m : ℕ) (y : Float) → Halving m y 0 m
unfolding whole_up_to
begun m y = record { below = omega arith; up_to = omega arith; same = refl; own = refl }

pub raised : {m low high : ℕ} {y : Float} (mid : ℕ) → mid ≤ high → Halving m y low high → le (double mid) y ≡ true → Halving m y mid high
raised {m} {low} {high} {y} mid h v t = record { below = h; up_to = v.up_to; same = v.same; own = reached mid y (holds t) }

pub lowered : {m low high : ℕ} {y : Float} (mid : ℕ) → low < mid → mid ≤ high → Halving m y low high → le (double mid) y ≡ false → Halving m y low (mid - 1)
lowered {m} {low} {high} {y} mid l h v t =
    let e : mid - 1 + 1 ≡ mid = omega arith in
    let gone : T (not (le (double (mid - 1 + 1)) y)) = rw e (fails t) in
    record { below = omega arith; up_to = omega (arith, v.up_to); same = sym (skipped high (mid - 1) y (omega arith) gone) ∙ v.same; own = v.own }

pub met : {m low high : ℕ} {y : Float} → Halving m y low high → high ≤ low → low ≡ whole_up_to m y
met {m} {low} {high} {y} v h =
    let e : high ≡ low = omega (arith, v.below) in
    sym v.own ∙ (ap (λ (i : ℕ). whole_up_to i y) (sym e) ∙ v.same)

-- ---- what `whole_up_to` answers, on each way
pub answered : (m : ℕ) (y : Float) {r : ℕ} → r ≡ whole_up_to m y → (r ≡ whole_up_to m y) × (r ≤ m)
answered m y {r} e = (e, rw e (whole_le m y))

pub confirmed : (m n : ℕ) (y : Float) {r : ℕ} {a b : Float} → a ≡ double n → le a y ≡ true → b ≡ double (n + 1) → lt y b ≡ true → r ≡ min n m
    → (r ≡ whole_up_to m y) × (r ≤ m)
confirmed m n y {r} {a} {b} p t q u e =
    let low : T (le (double n) y) = subst (λ (z : Float). T (le z y)) p (holds t) in
    let high : T (lt y (double (n + 1))) = subst (λ (z : Float). T (lt y z)) q (holds u) in
    answered m y (e ∙ sym (guessed m n y low high))
