-- A program over lines, a byte at a time. Definitions only; proofs/Whole.antt shows that they print what Program says.
use Rattle.std.specs.Prelude.{◌≡◌, cond, List, [], ◌∷◌, ◌++◌, ℕ, ltb, eqb, length}
use Rattle.text.specs.Text.{LF}
use Rattle.lines_machine.specs.Program.{widest, Line, so, over, Program}

-- the line that is being read, and the program's own state
pub record State (S : Type 0) : Type 0 where
  pub line : Line
  pub held : S

abbrev pub state_at : {S : Type 0} → Line → S → State S
state_at o s = record { line = o; held = s }

-- before the first byte
abbrev pub start : {S : Type 0} → S → State S
start s = state_at (so []) s

-- the line with a byte more
unfoldable pub push : Line → ℕ → Line
push (so l) b = cond (ltb (length l) widest) (so (l ++ (b ∷ []))) over
push over b = over

-- o' is the line o with the bytes x, none of which ends it
abbrev pub Grown : Line → List ℕ → Line → Type 0
Grown o [] o' = o' ≡ o
Grown o (b ∷ x) o' = (b ≡ LF → ⊥) × Grown (push o b) x o'

-- ---- the end of a line, and a byte: what they print, and the state after them
abbrev pub close_text : {S : Type 0} → Program S → State S → List ℕ
close_text P s = P.tells s.held s.line

abbrev pub closed : {S : Type 0} → Program S → State S → State S
closed P s = state_at (so []) (P.after s.held s.line)

abbrev pub pushed : {S : Type 0} → State S → ℕ → State S
pushed s b = state_at (push s.line b) s.held

unfoldable pub tell_of : {S : Type 0} → Program S → State S → ℕ → List ℕ
tell_of P s b = cond (eqb b LF) (close_text P s) []

unfoldable pub next_of : {S : Type 0} → Program S → State S → ℕ → State S
next_of P s b = cond (eqb b LF) (closed P s) (pushed s b)

-- ---- bytes
unfoldable pub told_of : {S : Type 0} → Program S → State S → List ℕ → List ℕ
told_of P s [] = []
told_of P s (b ∷ x) = tell_of P s b ++ told_of P (next_of P s b) x

unfoldable pub ran_of : {S : Type 0} → Program S → State S → List ℕ → State S
ran_of P s [] = s
ran_of P s (b ∷ x) = ran_of P (next_of P s b) x

-- ---- the end of the input: a line that was begun ends first
unfoldable pub last_text : {S : Type 0} → Program S → Line → S → List ℕ
last_text P (so []) h = P.ends h
last_text P (so (b ∷ l)) h = P.tells h (so (b ∷ l)) ++ P.ends (P.after h (so (b ∷ l)))
last_text P over h = P.tells h over ++ P.ends (P.after h over)

abbrev pub end_of : {S : Type 0} → Program S → State S → List ℕ
end_of P s = last_text P s.line s.held
