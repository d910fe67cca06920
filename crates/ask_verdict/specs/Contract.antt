-- How code holds what may be asked. Definitions only.
use Rattle.std.specs.Prelude.{◌≡◌, List, ℕ, ◌≤◌, Float, ℤ, length, take}
use Rattle.basis.specs.Basis.{most_knots}
use Rattle.whole.specs.Held.{Small}
use Rattle.table_span.specs.Second.{day}
use Rattle.turns_back.specs.Call as turns
use Rattle.ask_verdict.specs.Curve.{knots_of}
use Rattle.ask_sheet.specs.declared.Kind.{Kind}
use Rattle.ask_sheet.specs.Contract.{labels_to}
use Rattle.ask_verdict.specs.declared.AskedHeld.{AskedHeld}
use Rattle.ask_verdict.specs.declared.AskedHeld.TheVariants.{Bad, Fine}
use Rattle.ask_verdict.specs.Told.{Asked, bad, fine}

-- room for the longest verdict: 30 bytes for each of 4,096 rows, and a line
abbrev pub longest : ℕ
longest = 122944

-- the rows of a sheet that draws a curve, and its whole knots
pub record Drawing (k : Kind) (z w : List ℤ) : Type 0 where
  pub is : w ≡ knots_of k z
  pub rows : length z ≤ most_knots
  pub enough : 4 ≤ length w
  pub few : length w ≤ most_knots
  pub small : Small turns.most w

-- how many rows and knots a curve has that may be asked about, and its span
pub record Asks (rows n span : ℕ) : Type 0 where
  pub few_rows : rows ≤ most_knots
  pub enough : 4 ≤ n
  pub few : n ≤ most_knots
  pub short : span ≤ day

abbrev pub Askable : AskedHeld → Type 0
Askable Bad = Unit
Askable (Fine k rows n span) = Asks rows n span

-- the first of the lent doubles are the knots, and the first of the lent labels those of the rows
abbrev pub asked_in : AskedHeld → List Float → List ℕ → Asked
asked_in Bad knots labels = bad
asked_in (Fine k rows n span) knots labels = fine k (take n knots) (labels_to labels rows) span
