-- How code holds a sheet: depths in one lent slice, labels in another. Definitions only.
use Rattle.std.specs.Prelude.{List, [], ◌∷◌, ◌++◌, ℕ, zero, suc, min, ◌+◌, ◌*◌, ℤ, take, drop, get_or}
use Rattle.whole.specs.Held.{held_all, Small}
use Rattle.ask_sheet.specs.declared.SheetHeld.{SheetHeld}
use Rattle.ask_sheet.specs.declared.SheetHeld.TheVariants.{Unbegun, On, Faulty}
use Rattle.ask_sheet.specs.Sheet.{Sheet, unbegun, on, faulty, most_in}

-- a label has 17 bytes of the slice: its length, and up to 16 of its own
abbrev pub cells : ℕ
cells = 69632

unfoldable pub label_at : List ℕ → ℕ → List ℕ
label_at s i = take (min (get_or s (17 * i) 0) 16) (drop (17 * i + 1) s)

unfoldable pub labels_to : List ℕ → ℕ → List (List ℕ)
labels_to s zero = []
labels_to s (suc i) = labels_to s i ++ (label_at s i ∷ [])

abbrev pub sheet_of : SheetHeld → List ℤ → List ℕ → Sheet
sheet_of Unbegun rows labels = unbegun
sheet_of (On k n) rows labels = on k (held_all (take n rows)) (labels_to labels n)
sheet_of (Faulty n r) rows labels = faulty n r

-- the number of the line at fault; else of the next line
abbrev pub line_in : SheetHeld → ℕ
line_in Unbegun = 1
line_in (On k n) = n + 2
line_in (Faulty n r) = n

abbrev pub last_line : ℕ
last_line = 4098

-- each depth is within what the calls on whole numbers take
abbrev pub Sound : Sheet → Type 0
Sound unbegun = Unit
Sound (on k z ls) = Small (most_in k) z
Sound (faulty n r) = Unit
