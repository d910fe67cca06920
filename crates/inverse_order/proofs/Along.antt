-- A direction: `Along rising a b` says that a is not past b; of numbers, that b is not before a. Assumes nothing.
use mathlib.Core.Bool.{Bool, true, false, not, cond}
use lib.Dec.{T}
use lib.Ieee.{Float, le, is_nan}
use Rattle.doubles.proofs.Order.{not-lt→le, lt_le_absurd}
use Rattle.inverse_order.specs.Order.{before}

abbrev pub Along : Bool → Float → Float → Type 0
Along rising a b = T (cond rising (le a b) (le b a))

pub before_not : (rising : Bool) (y v : Float) → T (before rising y v) → Along rising v y → ⊥
before_not true y v h k = lt_le_absurd y v h k
before_not false y v h k = lt_le_absurd v y h k

pub not_before : (rising : Bool) (y v : Float) → T (not (is_nan y)) → T (not (is_nan v)) → T (not (before rising y v)) → Along rising v y
not_before true y v p q h = not-lt→le y v p q h
not_before false y v p q h = not-lt→le v y q p h
