-- What a direction gives of values in order, and of a segment whose ends enclose the target. Assumes nothing.
use mathlib.Core.Path.{◌≡◌, refl, subst}
use mathlib.Core.Logic.{◌⊎◌, inl, inr}
use mathlib.Core.Bool.{Bool, true, false, not}
use Prim.Native.Nat.{ℕ, zero, suc, ◌+◌, ◌-◌, ◌<◌}
use native.Mathlib.Omega.{arith}
use lib.Dec.{T}
use lib.Ieee.{Float, lt, le, is_nan}
use lib.Ieee.Fits.{and_l, and_r}
use Rattle.doubles.proofs.Tests.{branch}
use Rattle.doubles.proofs.Order.{lt→le, le_trans_float}
use Rattle.inverse_segment.specs.Segment.{encloses}
use Rattle.inverse_segment.proofs.Places.{encloses_of}
use Rattle.inverse_order.specs.Order.{before}
use Rattle.inverse_order.proofs.Along.{Along, not_before}

pub along_trans : (rising : Bool) (a b c : Float) → Along rising a b → Along rising b c → Along rising a c
along_trans true a b c h k = le_trans_float a b c h k
along_trans false a b c h k = le_trans_float c b a k h

-- a target that two values enclose lies between them in the direction, or against it
pub held_by : (rising : Bool) (a b y : Float) → T (encloses a b y) → (Along rising a y × Along rising y b) ⊎ (Along rising b y × Along rising y a)
held_by true a b y =
    branch (λ (z : Bool). T z → (T (le a y) × T (le y b)) ⊎ (T (le b y) × T (le y a))) (lt a b)
    (λ _ h. inl (and_l (le a y) (le y b) h, and_r (le a y) (le y b) h))
    (λ _ h. inr (and_l (le b y) (le y a) h, and_r (le b y) (le y a) h))
held_by false a b y =
    branch (λ (z : Bool). T z → (T (le y a) × T (le b y)) ⊎ (T (le y b) × T (le a y))) (lt a b)
    (λ _ h. inr (and_r (le a y) (le y b) h, and_l (le a y) (le y b) h))
    (λ _ h. inl (and_r (le b y) (le y a) h, and_l (le b y) (le y a) h))

pub other_way : (rising : Bool) (v0 v1 y : Float) → T (not (is_nan v0)) → T (not (is_nan v1)) → Along rising y v0 → Along rising v1 y → T (encloses v0 v1 y)
other_way true v0 v1 y m n a b = encloses_of false v0 v1 y m n a b
other_way false v0 v1 y m n a b = encloses_of true v0 v1 y m n a b

pub before_along : (rising : Bool) (y v : Float) → T (before rising y v) → Along rising y v
before_along true y v h = lt→le y v h
before_along false y v h = lt→le v y h

-- from neighbours to any two in order
far : (rising : Bool) (v : ℕ → Float) (k : ℕ) → ((i : ℕ) → suc i < k → Along rising (v i) (v (suc i))) → (i d j : ℕ) → j ≡ i + suc d → j < k
    → Along rising (v i) (v j)
far rising v k h i zero j e l = let q : suc i ≡ j = omega arith in subst (λ (x : ℕ). Along rising (v i) (v x)) q (h i (omega arith))
far rising v k h i (suc d) j e l =
    let m = i + suc d in
    let q : suc m ≡ j = omega arith in
    subst (λ (x : ℕ). Along rising (v i) (v x)) q (along_trans rising (v i) (v m) (v (suc m)) (far rising v k h i d m refl (omega arith)) (h m (omega arith)))

pub ahead : (rising : Bool) (v : ℕ → Float) (k : ℕ) → ((i : ℕ) → suc i < k → Along rising (v i) (v (suc i))) → (i j : ℕ) → i < j → j < k
    → Along rising (v i) (v j)
ahead rising v k h i j l m = far rising v k h i (j - suc i) j (omega arith) m

-- a target at the start is enclosed, wherever the end lies
pub at_start : (rising : Bool) (v0 v1 y : Float) → T (not (is_nan y)) → T (not (is_nan v0)) → T (not (is_nan v1)) → Along rising v0 y → Along rising y v0
    → T (encloses v0 v1 y)
at_start rising v0 v1 y o m n a b = go (before rising y v1) (λ h. h) (λ h. h)
  where
    go : (t : Bool) → (T t → T (before rising y v1)) → (T (not t) → T (not (before rising y v1))) → T (encloses v0 v1 y)
    go true f g = encloses_of rising v0 v1 y m n a (before_along rising y v1 (f tt))
    go false f g = other_way rising v0 v1 y m n b (not_before rising y v1 o n (g tt))
