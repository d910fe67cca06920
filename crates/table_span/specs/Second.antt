-- Spans, and the second of a place: the largest whole second not above parameter × span, the product rounded once. Definitions only.
use Rattle.std.specs.Prelude.{Bool, not, cond, ◌&&◌, List, [], ◌∷◌, ℕ, leb, Float, Some, None, Option}
use Rattle.std.specs.Float.{binary64}
use Rattle.std.specs.Float.Ieee.{mul}
use Rattle.doubles.specs.Whole.{double, whole_up_to}
use Rattle.error.specs.declared.Refusal.{Refusal}
use Rattle.error.specs.declared.Refusal.TheVariants.{BadSpan}

-- the longest span, in seconds
abbrev pub day : ℕ
day = 86400

-- 1 to a day; 0 stands for no span
abbrev pub good_span : ℕ → Bool
good_span span = leb 1 span && leb span day

-- the row of the span
abbrev pub bad_span : ℕ → Refusal × Bool
bad_span span = (BadSpan, not (good_span span))

abbrev pub elapsed : ℕ → Float → Float
elapsed span x = mul binary64 x (double span)

-- the greatest whole number up to the span that is at most the product: proofs/Largest.antt shows that none beyond the span is
unfoldable pub second_of : ℕ → Float → ℕ
second_of span x = whole_up_to span (elapsed span x)

-- the spans that a table is told with
abbrev pub spans_of : ℕ → List ℕ
spans_of span = cond (good_span span) (span ∷ []) []

-- the seconds that a place is told with: one where the span is good, else none
abbrev pub seconds_of : ℕ → Float → List ℕ
seconds_of span x = cond (good_span span) (second_of span x ∷ []) []

-- as the code holds them
abbrev pub seconds_in : Option ℕ → List ℕ
seconds_in None = []
seconds_in (Some s) = s ∷ []
