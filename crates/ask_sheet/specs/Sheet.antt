-- A sheet as bin/ask reads it: a name, then labelled depths in whole thousandths; or the first line at fault, and why. Definitions only.
use Rattle.basis.specs.declared.Basis.{Basis}
use Rattle.std.specs.Prelude.{Bool, cond, ◌&&◌, List, [], ◌∷◌, ◌++◌, ℕ, ◌+◌, leb, ltb, ℤ, pos, neg_ℤ, length, take, Some, None, Option}
use Rattle.text.specs.Text.{bytes, same, tab_of}
use Rattle.lines_record.specs.Record.{named_of}
use Rattle.keeper.specs.Table.{has_room}
use Rattle.lines_machine.specs.Program.{Line, so, over}
use Rattle.sheet.specs.Sheet.{depth_line}
use Rattle.turns_back.specs.Call as turns
use Rattle.monotone.specs.Table as monotone
use Rattle.ask_sheet.specs.declared.Kind.{Kind}
use Rattle.ask_sheet.specs.declared.Kind.TheVariants.{Drawn, Monotone}
use Rattle.ask_sheet.specs.declared.Reason.{Reason}
use Rattle.ask_sheet.specs.declared.Reason.TheVariants.{Long, NoBasis, NoLabel, NoDepth, Many}

-- ---- the first line
abbrev pub drawn : Option Basis → Option Kind
drawn (Some b) = Some (Drawn b)
drawn None = None

-- a basis, or Monotone
unfoldable pub kind_of : List ℕ → Option Kind
kind_of l = cond (same l (bytes "Monotone")) (Some Monotone) (drawn (named_of l))

-- ---- the sheet: no line yet; a kind of curve with depths and labels so far; or a line's number and what is wrong with it
pub data Sheet : Type 0 where
  unbegun : Sheet
  on : Kind → List ℤ → List (List ℕ) → Sheet
  faulty : ℕ → Reason → Sheet

abbrev pub named : Option Kind → Sheet
named (Some k) = on k [] []
named None = faulty 1 NoBasis

-- ---- a depth line
abbrev pub whole_of : Bool → ℕ → ℤ
whole_of minus n = cond minus (neg_ℤ (pos n)) (pos n)

-- the greatest depth that the calls on whole numbers take
abbrev pub most_in : Kind → ℕ
most_in (Drawn b) = turns.most
most_in Monotone = monotone.most

-- the basis stands in line 1, so that the next depth stands two lines behind the number of depths so far
abbrev pub added : Kind → List ℤ → List (List ℕ) → List ℕ → Option (Bool × ℕ) → Sheet
added k z ls label (Some (minus, n)) =
    cond (ltb (most_in k) n) (faulty (length z + 2) NoDepth)
    (cond (has_room z) (on k (z ++ (whole_of minus n ∷ [])) (ls ++ (label ∷ []))) (faulty (length z + 2) Many))
added k z ls label None = faulty (length z + 2) NoDepth

-- a label of 1 to 16 bytes, the first field, and what a depth line of bin/sheet says
unfoldable pub grown : Kind → List ℤ → List (List ℕ) → List ℕ → Sheet
grown k z ls l =
    cond (leb 1 (tab_of l) && leb (tab_of l) 16) (added k z ls (take (tab_of l) l) (depth_line l)) (faulty (length z + 2) NoLabel)

-- the first line at fault decides
unfoldable pub after_of : Sheet → Line → Sheet
after_of unbegun (so l) = named (kind_of l)
after_of unbegun over = faulty 1 Long
after_of (on k z ls) (so l) = grown k z ls l
after_of (on k z ls) over = faulty (length z + 2) Long
after_of (faulty n r) (so l) = faulty n r
after_of (faulty n r) over = faulty n r
