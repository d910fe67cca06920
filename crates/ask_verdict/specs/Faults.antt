-- The faults of a sheet that draws a curve, row by row. Definitions only.
use Rattle.std.specs.Prelude.{
  Bool,
  true,
  false,
  not,
  cond,
  ◌&&◌,
  ◌||◌,
  List,
  [],
  ◌∷◌,
  ◌++◌,
  ℕ,
  zero,
  suc,
  ◌+◌,
  ◌-◌,
  ◌*◌,
  ◌/◌,
  ◌%◌,
  leb,
  ltb,
  eqb,
  ℤ,
  pos,
  length,
  drop,
  get_or,
}
use Rattle.std.specs.Int.Signed.{lt_z}
use Rattle.basis.specs.declared.Basis.{Basis}
use Rattle.basis.specs.Basis.{step_of, segments_of}
use Rattle.text.specs.Text.{same}
use Rattle.whole.specs.Held.{turned_all}
use Rattle.turns_back.specs.declared.Way.{Way}
use Rattle.turns_back.specs.declared.Way.TheVariants.{Rising, Falling, Level}
use Rattle.turns_back.specs.Curve.{starts_no_lower}
use Rattle.turns_back.specs.Four.{four_never_fall}
use Rattle.turns_back.specs.Call.{start_of, end_of, way_of}
use Rattle.ask_sheet.specs.declared.Kind.{Kind}
use Rattle.ask_verdict.specs.Curve.{basis_of, knots_of, first_row, row_step, through_rows}

-- each tells lines of the sheet
pub data Fault : Type 0 where
  twice : ℕ → ℕ → Fault
  turns : ℕ → Fault
  falls : ℕ → Fault
  flat : Fault

-- row i stands in line i + 2, behind the basis
abbrev pub line_of : ℕ → ℕ
line_of i = i + 2

-- ---- labels
-- of k labels from j on, the first that is l; past them all if none is
unfoldable pub same_from : List (List ℕ) → List ℕ → ℕ → ℕ → ℕ
unfolding same
same_from ls l j zero = j
same_from ls l j (suc k) = cond (same (get_or ls j []) l) j (same_from ls l (suc j) k)

-- the first row with the label of row i, which is row i itself at the latest
unfoldable pub first_same : List (List ℕ) → ℕ → ℕ
unfolding same_from
first_same ls i = same_from ls (get_or ls i []) 0 i

unfoldable pub twice_at : List (List ℕ) → ℕ → List Fault
unfolding first_same
twice_at ls i = cond (ltb (first_same ls i) i) (twice (line_of (first_same ls i)) (line_of i) ∷ []) []

-- ---- depths
-- from a to b against the direction
abbrev pub against : Bool → ℤ → ℤ → Bool
against up a b = cond up (lt_z b a) (lt_z a b)

-- the rows on the curve, of which i is one
unfoldable pub turns_at : Kind → Bool → List ℤ → ℕ → Bool
turns_at k up z i = through_rows k && (ltb (suc i) (length z) && against up (get_or z i (pos 0)) (get_or z (suc i) (pos 0)))

-- segment s of the knots z, which rise: it falls somewhere, or the next one starts lower than it ends
unfoldable pub falls_at : Basis → List ℤ → ℕ → Bool
unfolding four_never_fall starts_no_lower
falls_at b z s =
    not (four_never_fall b (drop (s * step_of b) z)) || (ltb (suc s) (segments_of b (length z)) && not (starts_no_lower b z (suc s)))

-- of segment s, which begins at row i
unfoldable pub bend_of : Kind → Bool → List ℤ → ℕ → ℕ → List Fault
unfolding turns_at falls_at
bend_of k up z i s =
    cond (turns_at k up z i) (turns (line_of i) ∷ [])
    (cond (falls_at (basis_of k) (turned_all up (knots_of k z)) s) (falls (line_of i) ∷ []) [])

abbrev pub segments_in : Kind → List ℤ → ℕ
segments_in k z = segments_of (basis_of k) (length (knots_of k z))

-- a segment begins at every STEP-th row from the first one on
unfoldable pub bend_at : Kind → Bool → List ℤ → ℕ → List Fault
unfolding bend_of
bend_at k up z i =
    cond (leb (first_row k) i && (eqb ((i - first_row k) % row_step k) 0 && ltb ((i - first_row k) / row_step k) (segments_in k z)))
    (bend_of k up z i ((i - first_row k) / row_step k)) []

-- nothing is said of a curve that has no direction
abbrev pub bent_at : Kind → Way → List ℤ → ℕ → List Fault
bent_at k Rising z i = bend_at k true z i
bent_at k Falling z i = bend_at k false z i
bent_at k Level z i = []

-- ---- all of them, lowest line first
unfoldable pub faults_to : Kind → Way → List ℤ → List (List ℕ) → ℕ → List Fault
unfolding twice_at bend_at
faults_to k w z ls zero = []
faults_to k w z ls (suc i) = faults_to k w z ls i ++ (twice_at ls i ++ bent_at k w z i)

abbrev pub flat_by : Way → List Fault
flat_by Rising = []
flat_by Falling = []
flat_by Level = flat ∷ []

-- the direction from the curve's exact start to its exact end
unfoldable pub way_in : Kind → List ℤ → Way
unfolding start_of end_of
way_in k z = way_of (start_of (basis_of k) (knots_of k z)) (end_of (basis_of k) (knots_of k z))

unfoldable pub faults_of : Kind → List ℤ → List (List ℕ) → List Fault
unfolding way_in faults_to
faults_of k z ls = faults_to k (way_in k z) z ls (length z) ++ flat_by (way_in k z)
