-- The order check as the code scans: each pair in its direction, which is false of NaN. Definitions only.
use Rattle.std.specs.Prelude.{List, [], ◌∷◌, Bool, true, cond, ◌&&◌, Float}
use Rattle.std.specs.Float.Ieee.{le}

abbrev pub follows : Bool → Float → Float → Bool
follows rising a b = cond rising (le a b) (le b a)

unfoldable pub kept : Bool → List Float → Bool
kept rising [] = true
kept rising (x ∷ []) = true
kept rising (x ∷ (z ∷ r)) = follows rising x z && kept rising (z ∷ r)
