-- The direction of the knots, and the order check. Definitions only.
use Rattle.std.specs.Prelude.{List, [], ◌∷◌, Bool, true, not, cond, ◌&&◌, ℕ, suc, ◌-◌, length, get_or, drop, Float}
use Rattle.std.specs.Float.{nan}
use Rattle.std.specs.Float.Ieee.{lt}
use Rattle.error.specs.declared.Refusal.{Refusal}
use Rattle.error.specs.declared.Refusal.TheVariants.{TurnsBack}

-- y lies before the value v, in the direction
abbrev pub before : Bool → Float → Float → Bool
before rising y v = cond rising (lt y v) (lt v y)

abbrev pub knot : List Float → ℕ → Float
knot ks i = get_or ks i nan

-- knot 1 < knot n − 2
abbrev pub rises : List Float → Bool
rises ks = lt (knot ks 1) (knot ks (length ks - 2))

-- no neighbouring pair goes against the direction; equal is fine
unfoldable pub ordered : Bool → List Float → Bool
ordered rising [] = true
ordered rising (x ∷ []) = true
ordered rising (x ∷ (z ∷ r)) = not (before rising z x) && ordered rising (z ∷ r)

-- from knot 1 on: knot 0 is not looked at
abbrev pub turns_back : List Float → Bool
turns_back ks = not (ordered (rises ks) (drop 1 ks))

-- the number of the first knot whose step to the next goes against the direction, where the list begins with knot i
unfoldable pub turns_at : Bool → ℕ → List Float → ℕ
turns_at rising i [] = i
turns_at rising i (x ∷ []) = i
turns_at rising i (x ∷ (z ∷ r)) = cond (before rising z x) i (turns_at rising (suc i) (z ∷ r))

-- looked for from knot 1 on
abbrev pub turning_knot : List Float → ℕ
turning_knot ks = turns_at (rises ks) 1 (drop 1 ks)

-- the row of the order check
abbrev pub turn_back : Bool → List Float → Refusal × Bool
turn_back check ks = (TurnsBack (turning_knot ks), check && turns_back ks)
