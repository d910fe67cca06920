-- Four whole knots mixed by whole weights: the weights, the refusals, the sum. Definitions only.
use Rattle.error.specs.declared.Refusal.{Refusal}
use Rattle.std.specs.Prelude.{Bool, cond, List, [], ◌∷◌, ℕ, ◌+◌, ◌-◌, ◌*◌, ◌^◌, leb, ltb, ℤ, pos, nat_abs, ◌+ℤ◌, ◌*ℤ◌, length, get_or, Ok, Err, Result}
use Rattle.std.specs.Int.{w64}
use Rattle.std.proofs.Common.{to_z, of_z}
use Rattle.error.specs.declared.Refusal.TheVariants.{TooFew, BadPattern, BadStep, BadKnot}
use Rattle.error.specs.Refusals.{Uses, first, reply_of, Verdict}

-- the B-spline's four weights at j/256, times 6 × 256³
abbrev pub weights_of : ℕ → List ℕ
weights_of j =
    (256 - j) ^ 3 ∷
    (4 * 256 ^ 3 + 3 * j ^ 3 - 6 * 256 * j ^ 2) ∷
    (256 ^ 3 + 3 * 256 ^ 2 * j + 3 * 256 * j ^ 2 - 3 * j ^ 3) ∷
    j ^ 3 ∷
    []

abbrev pub weight_of : ℕ → ℕ → ℕ
weight_of j i = get_or (weights_of j) i 0

-- what the four come to, at every step: 6 × 256³
abbrev pub whole : ℕ
whole = 100663296

-- a number as 64 signed bits hold it: itself where it fits them, as every number of a lent slice does
abbrev pub held : ℤ → ℤ
held z = to_z w64 (of_z w64 z)

abbrev pub knot_of : List ℤ → ℕ → ℤ
knot_of ks i = held (get_or ks i (pos 0))

abbrev pub term_of : List ℤ → ℕ → ℕ → ℤ
term_of ks j i = pos (weight_of j i) *ℤ knot_of ks i

-- the weighted sum, undivided
unfoldable pub mix_of : List ℤ → ℕ → ℤ
mix_of ks j = term_of ks j 0 +ℤ term_of ks j 1 +ℤ term_of ks j 2 +ℤ term_of ks j 3

-- at most 1,000,000 in magnitude
unfoldable pub small : ℤ → Bool
small z = leb (nat_abs z) 1000000

-- the first of the four knots that is not, from 0; 4 if all are
unfoldable pub first_large : List ℤ → ℕ
first_large ks = cond (small (knot_of ks 0)) (cond (small (knot_of ks 1)) (cond (small (knot_of ks 2)) (cond (small (knot_of ks 3)) 4 3) 2) 1) 0

-- fewer than 4 knots; more than 4; a step above 256; a knot too large
abbrev pub mix_uses : ℕ → List ℤ → Uses
mix_uses j ks =
    (TooFew, ltb (length ks) 4) ∷ (BadPattern, ltb 4 (length ks)) ∷ (BadStep, ltb 256 j)
    ∷ (BadKnot (first_large ks), ltb (first_large ks) 4) ∷ []

abbrev pub mixture : Verdict → ℤ → Result ℤ Refusal
mixture (Ok _) z = Ok z
mixture (Err r) z = Err r

-- the call
unfoldable pub mixture_of : ℕ → List ℤ → Result ℤ Refusal
mixture_of j ks = mixture (first (mix_uses j ks)) (mix_of ks j)

-- what a caller from C sees: 0 and the sum, or the refusal's reply and what stood there
abbrev pub mixture_reply : Result ℤ Refusal → ℕ
mixture_reply (Ok z) = 0
mixture_reply (Err r) = reply_of r

abbrev pub sum_left : Result ℤ Refusal → ℤ → ℤ
sum_left (Ok z) old = z
sum_left (Err r) old = old
