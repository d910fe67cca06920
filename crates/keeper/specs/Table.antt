-- A table that is filled number by number. Definitions only.
use Rattle.std.specs.Prelude.{Bool, cond, List, [], ◌∷◌, ◌++◌, ℕ, ltb, length}
use Rattle.basis.specs.Basis.{most_knots}

abbrev pub places : ℕ
places = most_knots

-- whether a further number finds a place
abbrev pub has_room : {A : Type 0} → List A → Bool
has_room ks = ltb (length ks) places

-- the numbers after it: with it at their end, or as they were
abbrev pub kept : {A : Type 0} → List A → A → List A
kept ks x = cond (has_room ks) (ks ++ (x ∷ [])) ks
