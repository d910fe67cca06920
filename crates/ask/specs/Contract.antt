-- How code holds the state of bin/ask. Definitions only.
use Rattle.std.specs.Prelude.{List, ℕ, ◌≤◌, ℤ, Float}
use Rattle.ask_sheet.specs.Contract.{sheet_of, line_in, last_line, Sound}
use Rattle.ask_verdict.specs.Contract.{Askable, asked_in}
use Rattle.ask.specs.declared.AskHeld.{AskHeld}
use Rattle.ask.specs.declared.AskHeld.TheVariants.{Reading, Told}
use Rattle.ask.specs.Ask.{Asking, reading, told}

abbrev pub asking_of : AskHeld → List ℤ → List ℕ → List Float → Asking
asking_of (Reading h) rows labels knots = reading (sheet_of h rows labels)
asking_of (Told a) rows labels knots = told (asked_in a knots labels)

-- what every call keeps
abbrev pub Kept : AskHeld → List ℤ → List ℕ → Type 0
Kept (Reading h) rows labels = (line_in h ≤ last_line) × Sound (sheet_of h rows labels)
Kept (Told a) rows labels = Askable a
