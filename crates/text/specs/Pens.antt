-- What it is to have written a text with a pen. Definitions only.
use Rattle.std.specs.Prelude.{◌≡◌, List, ◌++◌, ℕ, ◌+◌, ◌≤◌, length, take, drop}
use Rattle.std.specs.Borrow.{MutBor}
use Rattle.text.specs.declared.pen.Pen.{Pen}

-- o with the bytes t from `at` on
unfoldable pub patch : List ℕ → ℕ → List ℕ → List ℕ
patch o at t = take at o ++ (t ++ drop (at + length t) o)

-- p with t written
abbrev pub with : Pen → List ℕ → Pen
with p t = record p { out = record p.out { now = patch p.out.now p.at t }; at = p.at + length t }

-- p has room for n more bytes
abbrev pub HasRoom : Pen → ℕ → Type 0
HasRoom p n = p.at + n ≤ length p.out.now

-- p wrote the text t, of at most n bytes, and is now q
pub record Writes (p : Pen) (t : List ℕ) (n : ℕ) (q : Pen) : Type 0 where
  pub text : q ≡ with p t
  pub short : q.at ≤ p.at + n
  pub room : length q.out.now ≡ length p.out.now
