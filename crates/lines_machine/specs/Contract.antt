-- How code holds the line that is being read, and what it says of the bytes that it took. Definitions only.
use denote.Ref.{Bor}
use Rattle.std.specs.Prelude.{◌≡◌, Bool, true, false, cond, Option, Some, None, List, [], ◌∷◌, ℕ, ◌≤◌, ◌<◌, leb, length, take, get_or}
use Rattle.std.proofs.Math.Seq.{slice}
use Rattle.text.specs.Text.{LF}
use Rattle.text.specs.Wrote.{Wrote}
use Rattle.lines_machine.specs.Program.{widest, Line, so, over, Program}
use Rattle.lines_machine.specs.Bytes.{State, start, Grown, told_of, ran_of}

-- n bytes of a line, the first ones of the lent 64; or more than those
abbrev pub open_of : ℕ → List ℕ → Line
open_of n line = cond (leb n widest) (so (take n line)) over

-- a line as a program gets it: its bytes, or none where it is too long
abbrev pub said_of : Option (Bor (List ℕ)) → Line
said_of (Some l) = so l.now
said_of None = over

abbrev pub Fits : Line → Type 0
Fits (so l) = length l ≤ widest
Fits over = Unit

-- no byte of a line was read
abbrev pub unbegun : Line → Bool
unbegun (so []) = true
unbegun (so (b ∷ l)) = false
unbegun over = false

-- the bytes of a chunk between two places are the line's own; behind them stands its end, or nothing
pub record Stretch (chunk : List ℕ) (from : ℕ) (o : Line) (stop : ℕ) (o' : Line) : Type 0 where
  pub after : from ≤ stop
  pub within : stop ≤ length chunk
  pub grown : Grown o (slice from stop chunk) o'
  pub end : stop < length chunk → get_or chunk stop 0 ≡ LF

-- a program took the bytes x, from the state s to s', and wrote what they print
pub record Fed {S : Type 0} (P : Program S) (s : State S) (x : List ℕ) (s' : State S) (out : List ℕ) (at : ℕ) (out' : List ℕ)
    (r : ℕ) : Type 0 where
  pub state : s' ≡ ran_of P s x
  pub wrote : Wrote out at (told_of P s x) out' r

-- of its input a program that began with h has taken the bytes x and written the bytes w, and stands at s
pub record So {S : Type 0} (P : Program S) (h : S) (s : State S) (x w : List ℕ) : Type 0 where
  pub state : s ≡ ran_of P (start h) x
  pub wrote : w ≡ told_of P (start h) x
