-- What a test tells: of two tests joined, of a choice by one, and of one made at every number below a bound. Assumes nothing.
use Rattle.std.proofs.Common.{◌≡◌, ℕ, zero, suc, ◌<◌, Bool, true, false, cond, not, ◌&&◌, ◌||◌, T, sym, subst, inl, inr, eq-or-lt_of_le, arith}
use lib.Ieee.Fits.{and_l, and_r}

-- ---- a test whose outcome is known
pub holds : {b : Bool} → b ≡ true → T b
holds e = subst T (sym e) tt

pub fails : {b : Bool} → b ≡ false → T (not b)
fails e = subst (λ (b : Bool). T (not b)) (sym e) tt

-- ---- one of two
pub or_elim : {C : Type 0} (p q : Bool) → (T p → C) → (T q → C) → T (p || q) → C
or_elim true q f g h = f tt
or_elim false q f g h = g h

pub or_l : (p q : Bool) → T p → T (p || q)
or_l true q h = tt
or_l false q h = absurd h

pub or_r : (p q : Bool) → T q → T (p || q)
or_r true q h = tt
or_r false q h = h

-- ---- a choice
-- a goal about a `cond`, by what its test says
pub branch : {A : Type 0} (P : A → Type 0) (b : Bool) {x z : A} → (T b → P x) → (T (not b) → P z) → P (cond b x z)
branch P true h k = h tt
branch P false h k = k tt

-- two choices by one test are the same where what is chosen is
pub alike : {A : Type 0} (P : A → Type 0) (b : Bool) {x z x' z' : A} → (P x → x ≡ x') → (P z → z ≡ z') → P (cond b x z) → cond b x z ≡ cond b x' z'
alike P true e f p = e p
alike P false e f p = f p

-- ---- at every number below n
unfoldable pub each : (ℕ → Bool) → ℕ → Bool
each t zero = true
each t (suc n) = t n && each t n

pub each_at : (t : ℕ → Bool) (n i : ℕ) → T (each t n) → i < n → T (t i)
unfolding each
each_at t zero i h l = absurd (omega arith)
each_at t (suc n) i h l = elim (eq-or-lt_of_le {n = suc i} {m = suc n} l) [
  | inl e ↦ let q : n ≡ i = omega arith in subst (λ (j : ℕ). T (t j)) q (and_l (t n) (each t n) h)
  | inr m ↦ each_at t n i (and_r (t n) (each t n) h) (omega arith)
]
