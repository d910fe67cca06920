-- The verdict on a sheet: however its input is cut, what its calls write is what the whole of it prints. Assumes nothing.
use mathlib.Core.Path.{◌≡◌}
use mathlib.Core.List.{List, [], ◌++◌}
use Prim.Native.Nat.{ℕ}
use lib.IntN.{ℤ}
use lib.ListN.{take}
use lib.Ieee.{Float}
use Rattle.ask_sheet.specs.declared.SheetHeld.TheVariants.{Unbegun}
use Rattle.ask_sheet.specs.Sheet.{unbegun}
use Rattle.ask.specs.declared.AskHeld.TheVariants.{Reading}
use Rattle.ask.specs.declared.Questions.{Questions}
use Rattle.ask.specs.Ask.{reading, ask_program}
use Rattle.ask.specs.Contract.{asking_of}
use Rattle.lines_machine.specs.Program.{Line, output_of, so}
use Rattle.lines_machine.specs.Bytes.{state_at}
use Rattle.lines_machine.specs.Contract.{So}
use Rattle.lines_machine.proofs.Feeding.{so_none, so_fed, so_ended}
use Rattle.ask.proofs.Questions.new.Reads as new
use Rattle.ask.proofs.QuestionsMachine.begin.Reads as begin
use Rattle.ask.proofs.QuestionsMachine.feed.Reads as feed
use Rattle.ask.proofs.QuestionsMachine.finish.Reads as finish

-- its calls one after another, each as its contract tells: of the input the bytes x were taken, and the bytes w written
pub data AskSoFar : Questions → Line → List ℕ → List ℕ → Type 0 where
  begun : (s : Questions) (o : Line) → asking_of s.held s.rows s.labels s.knots ≡ reading unbegun → o ≡ so [] → AskSoFar s o [] []
  fed : (κs : _) (a : _) (z : _) (e : _) → feed.Learnt κs a z e → (x w : List ℕ) → AskSoFar a.0.now a.1.0.now x w
      → AskSoFar e.0.now e.1.0.now (x ++ take z.bytes a.1.1.0.now) (w ++ take z.at e.1.1.1.0.now)

-- so begin the calls that make one
pub ask_begun : (κs : _) (a : _) (z : _) (e : _) → new.Learnt κs a z e
    → (κs' : _) (a' : _) (o : _) (e' : _) → begin.Learnt κs' a' o e' → AskSoFar z o [] []
ask_begun κs a z e p κs' a' o e' q = begun z o p.0 q

-- a whole run: the input is x, and all that the calls wrote, once the last has returned, is y
pub data AskRun : List ℕ → List ℕ → Type 0 where
  ended : (κs : _) (a : _) (z : _) (e : _) → finish.Learnt κs a z e → (x w : List ℕ) → AskSoFar a.0.now a.1.0.now x w
      → AskRun x (w ++ take z e.1.1.0.now)

so_far : (s : Questions) (o : Line) (x w : List ℕ) → AskSoFar s o x w
    → So ask_program (reading unbegun) (state_at o (asking_of s.held s.rows s.labels s.knots)) x w
so_far s o x w (begun t l p q) = rw (p, q) (so_none ask_program (reading unbegun))
so_far s o x w (fed κs a z e p y v r) = so_fed ask_program (so_far _ _ y v r) p.0

-- however the input is cut
pub ask_writes : (x y : List ℕ) → AskRun x y → y ≡ output_of ask_program (reading unbegun) x
ask_writes x y (ended κs a z e p v w r) = so_ended ask_program (so_far _ _ v w r) p.0
