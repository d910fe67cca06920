-- How code holds the targets that were asked. Definitions only.
use Rattle.std.specs.Prelude.{List, [], ◌∷◌, Float, Option, Some, None}
use Rattle.picture_finds.specs.declared.Finds.{Finds}

-- the values up to the first empty place
unfoldable pub leading : List (Option Float) → List Float
leading [] = []
leading (None ∷ os) = []
leading (Some y ∷ os) = y ∷ leading os

-- of the eight places
abbrev pub targets_of : Finds → List Float
targets_of f = leading f.ys
