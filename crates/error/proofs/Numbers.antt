-- The numbers tell the refusals apart: each is one of 1 to 20, each of 1 to 20 is a row's, and two refusals that share one tell the same but
-- for the place; number and place are read back out of a reply. Assumes nothing.
use mathlib.Core.Path.{◌≡◌, refl, sym, ap, ◌∙◌}
use mathlib.Core.Bool.{cond}
use mathlib.Core.List.{List, [], ◌∷◌}
use Prim.Native.Nat.{ℕ, ◌/◌, ◌%◌, ◌≤◌}
use native.Mathlib.Omega.{arith}
use lib.Dec.{eqb}
use Rattle.error.specs.declared.Refusal.{Refusal}
use Rattle.error.specs.declared.Refusal.TheVariants.{
  TooFew,
  BadPattern,
  TooMany,
  BadSpan,
  NotANumber,
  BadPrecision,
  NoRounds,
  LinearOutput,
  BadAllowance,
  ShortBuffer,
  BadStep,
  NoSegment,
  BadKnot,
  TurnsBack,
  UnequalSegments,
  OffCurve,
  BadLine,
  BadSheet,
  NoComparison,
  LostSeam,
}
use Rattle.error.specs.Refusals.{number_of, place_of, reply_of}

-- all refusals, with a place for those that tell one
abbrev all : ℕ → List Refusal
all i =
    TooFew ∷ BadPattern ∷ TooMany ∷ BadSpan ∷ NotANumber ∷ BadPrecision ∷ NoRounds ∷ LinearOutput ∷ BadAllowance ∷ ShortBuffer ∷ BadStep ∷ NoSegment
    ∷ BadKnot i ∷ TurnsBack i ∷ UnequalSegments ∷ OffCurve ∷ BadLine ∷ BadSheet ∷ NoComparison ∷ LostSeam i ∷ []

abbrev numbered : ℕ → List Refusal → Refusal
numbered n [] = BadLine
numbered n (r ∷ rs) = cond (eqb n (number_of r)) r (numbered n rs)

found : (r : Refusal) → numbered (number_of r) (all (place_of r)) ≡ r
found TooFew = refl
found BadPattern = refl
found TooMany = refl
found BadSpan = refl
found NotANumber = refl
found BadPrecision = refl
found NoRounds = refl
found LinearOutput = refl
found BadAllowance = refl
found ShortBuffer = refl
found BadStep = refl
found NoSegment = refl
found (BadKnot i) = refl
found (TurnsBack i) = refl
found UnequalSegments = refl
found OffCurve = refl
found BadLine = refl
found BadSheet = refl
found NoComparison = refl
found (LostSeam i) = refl

pub number_tells : (r q : Refusal) → number_of r ≡ number_of q → place_of r ≡ place_of q → r ≡ q
number_tells r q e p = sym (found r) ∙ ap (λ (n : ℕ). numbered n (all (place_of r))) e ∙ ap (λ (i : ℕ). numbered (number_of q) (all i)) p ∙ found q

pub number_in_table : (r : Refusal) → (1 ≤ number_of r) × (number_of r ≤ 20)
number_in_table TooFew = (omega arith, omega arith)
number_in_table BadPattern = (omega arith, omega arith)
number_in_table TooMany = (omega arith, omega arith)
number_in_table BadSpan = (omega arith, omega arith)
number_in_table NotANumber = (omega arith, omega arith)
number_in_table BadPrecision = (omega arith, omega arith)
number_in_table NoRounds = (omega arith, omega arith)
number_in_table LinearOutput = (omega arith, omega arith)
number_in_table BadAllowance = (omega arith, omega arith)
number_in_table ShortBuffer = (omega arith, omega arith)
number_in_table BadStep = (omega arith, omega arith)
number_in_table NoSegment = (omega arith, omega arith)
number_in_table (BadKnot i) = (omega arith, omega arith)
number_in_table (TurnsBack i) = (omega arith, omega arith)
number_in_table UnequalSegments = (omega arith, omega arith)
number_in_table OffCurve = (omega arith, omega arith)
number_in_table BadLine = (omega arith, omega arith)
number_in_table BadSheet = (omega arith, omega arith)
number_in_table NoComparison = (omega arith, omega arith)
number_in_table (LostSeam i) = (omega arith, omega arith)

-- ---- a reply's two parts
pub reply_number : (r : Refusal) → reply_of r % 256 ≡ number_of r
reply_number r = omega (arith, number_in_table r)

pub reply_place : (r : Refusal) → reply_of r / 256 ≡ place_of r
reply_place r = omega (arith, number_in_table r)

-- so a reply tells which refusal it is, and is never that of success
pub reply_tells : (r q : Refusal) → reply_of r ≡ reply_of q → r ≡ q
reply_tells r q e =
    number_tells r q (sym (reply_number r) ∙ ap (λ (n : ℕ). n % 256) e ∙ reply_number q) (sym (reply_place r) ∙ ap (λ (n : ℕ). n / 256) e ∙ reply_place q)

pub reply_some : (r : Refusal) → 1 ≤ reply_of r
reply_some r = omega (arith, number_in_table r)
