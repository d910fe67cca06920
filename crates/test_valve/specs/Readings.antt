-- The valves' readings, worked by hand: what is asked and what is told. Definitions only.
use Rattle.error.specs.declared.Refusal.{Refusal}
use Rattle.std.specs.Prelude.{◌≡◌, List, [], ◌∷◌, ℕ, ◌*◌, ℤ, pos, negsuc, Err, Ok, Result}
use Rattle.error.specs.declared.Refusal.TheVariants.{TooFew, BadPattern, BadStep, BadKnot}
use Rattle.valve.specs.Mix.{mixture_of}

-- a step and knots, and what the call answers
pub record Reading : Type 0 where
  pub step : ℕ
  pub knots : List ℤ
  pub answer : Result ℤ Refusal

abbrev pub Holds : Reading → Type 0
Holds r = mixture_of r.step r.knots ≡ r.answer

abbrev pub Hold : List Reading → Type 0
Hold [] = Unit {0}
Hold (r ∷ rs) = Holds r × Hold rs

-- 256³: a sixth of what the weights come to
abbrev cube : ℕ
cube = 16777216

abbrev up : List ℤ
up = pos 1 ∷ pos 10 ∷ pos 100 ∷ pos 1000 ∷ []

abbrev million : ℕ
million = 1000000

-- −1,000,000 and −1,000,001
abbrev least : ℤ
least = negsuc 999999

abbrev beyond : ℤ
beyond = negsuc 1000000

abbrev asked : ℕ → List ℤ → Result ℤ Refusal → Reading
asked j ks m = record { step = j; knots = ks; answer = m }

-- at a segment's start 1, 4 and 1 sixths of the first three, at its end of the last three, half-way 1, 23, 23 and 1 of 48
unfoldable pub sums : List Reading
sums =
    asked 0 up (Ok (pos (141 * cube)))
    ∷ asked 256 up (Ok (pos (1410 * cube)))
    ∷ asked 128 up (Ok (pos (3531 * 2097152)))
    ∷ asked 0 (pos million ∷ pos million ∷ pos million ∷ pos million ∷ []) (Ok (pos (6 * cube * million)))
    ∷ asked 256 (least ∷ least ∷ least ∷ least ∷ []) (Ok (negsuc 100663295999999))
    ∷ asked 0 (pos million ∷ least ∷ pos million ∷ least ∷ []) (Ok (negsuc 33554431999999))
    ∷ []

-- the first row that applies: 1, 2, 16, 4
unfoldable pub refusals : List Reading
refusals =
    asked 257 up (Err BadStep)
    ∷ asked 65535 up (Err BadStep)
    ∷ asked 0 (pos 1000001 ∷ pos 0 ∷ pos 0 ∷ pos 0 ∷ []) (Err (BadKnot 0))
    ∷ asked 0 (pos 0 ∷ beyond ∷ pos 1000001 ∷ pos 0 ∷ []) (Err (BadKnot 1))
    ∷ asked 0 (pos 0 ∷ pos 0 ∷ pos 1000001 ∷ pos 0 ∷ []) (Err (BadKnot 2))
    ∷ asked 0 (pos 0 ∷ pos 0 ∷ pos 0 ∷ beyond ∷ []) (Err (BadKnot 3))
    ∷ asked 257 (pos 1000001 ∷ pos 0 ∷ pos 0 ∷ pos 0 ∷ []) (Err BadStep)
    ∷ asked 257 (pos 1000001 ∷ pos 0 ∷ pos 0 ∷ []) (Err TooFew)
    ∷ asked 257 (pos 1000001 ∷ pos 0 ∷ pos 0 ∷ pos 0 ∷ pos 0 ∷ []) (Err BadPattern)
    ∷ []
