-- The definitions' results as the code has them: a count stands for each list of evaluations. Definitions only.
use Rattle.std.specs.Prelude.{◌≡◌, List, [], ◌∷◌, Bool, cond, ℕ, ◌<◌, eqb, length, Float}
use Rattle.basis.specs.declared.Basis.{Basis}
use Rattle.spline.specs.Segment.{segment_of}
use Rattle.inverse_segment.specs.declared.Ground.{Ground}
use Rattle.inverse_segment.specs.declared.Ground.TheVariants.{End, Edge, Value, Width, Spent}
use Rattle.inverse_segment.specs.declared.Stop.{Stop}
use Rattle.inverse_segment.specs.declared.Trial.{Trial as Tried}
use Rattle.inverse_segment.specs.Evaluations.{Evaluations}
use Rattle.inverse_segment.specs.Segment.{Outcome, off, placed}
use Rattle.inverse_segment.specs.Contract.{stop_of, trial_of}
use Rattle.inverse_segment.specs.declared.Method.{Method}
use Rattle.inverse_segment.specs.Method.{rule_of}
use Rattle.inverse_search.specs.declared.SearchResult.{SearchResult}
use Rattle.inverse_search.specs.declared.SearchResult.TheVariants.{OffCurve, Entered}
use Rattle.inverse_search.specs.Search.{Trial, tries, last, halve, find}
use Rattle.inverse_search.specs.Trial.{trial}

-- an outcome before its parameter is found
abbrev pub result_of : Outcome → SearchResult
result_of (off ev) = OffCurve (length ev)
result_of (placed p) = Entered p.segment (stop_of p)

abbrev pub count_in : SearchResult → ℕ
count_in (OffCurve n) = n
count_in (Entered s e) = e.count

-- r is what the definition gives, whatever the n evaluations before it were
abbrev pub Is : (Evaluations → Outcome) → ℕ → SearchResult → Type 0
Is o n r = (ev : Evaluations) → length ev ≡ n → r ≡ result_of (o ev)

-- ---- a stop as it is told: its ground by a number above 0, and its doubles
abbrev pub number_of : Ground → ℕ
number_of End = 1
number_of Edge = 2
number_of Value = 3
number_of Width = 4
number_of Spent = 5

abbrev pub ground_of : ℕ → Ground
ground_of n = cond (eqb n 1) End (cond (eqb n 2) Edge (cond (eqb n 3) Value (cond (eqb n 4) Width Spent)))

abbrev pub doubles_of : Stop → List Float
doubles_of e = e.local ∷ e.lower ∷ e.upper ∷ []

-- ---- the searches of a curve's knots, by a method
module _ (how : Method) (b : Basis) (ks : List Float) (y ε : Float) (limit : ℕ) where
  abbrev pub trial_by : Trial
  trial_by = trial (rule_of how) (segment_of b ks) y ε limit

  abbrev pub TrialIs : ℕ → ℕ → Tried → Type 0
  TrialIs s n r = (ev : Evaluations) → length ev ≡ n → r ≡ trial_of (trial_by s ev)

  abbrev pub TriesIs : ℕ → ℕ → ℕ → SearchResult → Type 0
  TriesIs n s = Is (tries trial_by n s)

  abbrev pub LastIs : ℕ → ℕ → ℕ → SearchResult → Type 0
  LastIs k l = Is (last trial_by k l)

  -- the halving of c segments from l on came to r: it entered that segment, and g, m and p tell the stop; or, where the ground's number g
  -- is still 0, the last tries are at r, after m evaluations. Whatever the number k of segments, and the n evaluations before it, were
  pub record Halved (rising : Bool) (h l c k : ℕ) (ev : Evaluations) (r g m : ℕ) (p : List Float) : Type 0 where
    pub ends : g ≡ 0 → (t : Evaluations) × (length t ≡ m) × (halve trial_by y rising k h l c ev ≡ last trial_by k r t)
    pub enters : 0 < g → (e : Stop) × (g ≡ number_of e.ground) × (m ≡ e.count) × (p ≡ doubles_of e)
        × (Entered r e ≡ result_of (halve trial_by y rising k h l c ev))

  abbrev pub HalveIs : Bool → ℕ → ℕ → ℕ → ℕ → ℕ → ℕ → ℕ → List Float → Type 0
  HalveIs rising h l c n r g m p = (k : ℕ) (ev : Evaluations) → length ev ≡ n → Halved rising h l c k ev r g m p

  abbrev pub FindIs : Bool → ℕ → ℕ → SearchResult → Type 0
  FindIs rising k = Is (find trial_by y rising k)
