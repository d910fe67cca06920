-- The call: the refusals, then the table. Definitions only.
use Rattle.error.specs.declared.Refusal.{Refusal}
use Rattle.std.specs.Prelude.{List, [], ◌∷◌, ◌++◌, ℕ, zero, suc, ◌*◌, ltb, ℤ, pos, length, drop, get_or, Ok, Err, Result}
use Rattle.error.specs.declared.Refusal.TheVariants.{TooFew, TooMany, ShortBuffer, BadKnot}
use Rattle.error.specs.Refusals.{Uses, first, Verdict}
use Rattle.whole.specs.Held.{first_large}
use Rattle.monotone.specs.Slope.{slope_at}

-- depth and slope of k rows from row i on
unfoldable pub pairs : List ℤ → ℕ → ℕ → List ℤ
unfolding slope_at
pairs z i zero = []
pairs z i (suc k) = get_or z i (pos 0) ∷ slope_at z i ∷ pairs z (suc i) k

-- Hermite's knots: depth, slope, depth, slope, ..
abbrev pub table_of : List ℤ → List ℤ
table_of z = pairs z 0 (length z)

-- the greatest magnitude of a row: half of a knot's, so that every slope is a knot too
abbrev pub most : ℕ
most = 500000000000

-- fewer than 2 rows; more than 2,048; fewer places than two for each row; a row too large
abbrev pub table_uses : List ℤ → ℕ → Uses
table_uses z o =
    (TooFew, ltb (length z) 2) ∷ (TooMany, ltb 2048 (length z)) ∷ (ShortBuffer, ltb o (2 * length z))
    ∷ (BadKnot (first_large most z), ltb (first_large most z) (length z)) ∷ []

abbrev pub made : Verdict → ℕ → Result ℕ Refusal
made (Ok _) n = Ok n
made (Err r) n = Err r

abbrev pub left : Verdict → List ℤ → List ℤ → List ℤ
left (Ok _) t old = t ++ drop (length t) old
left (Err r) t old = old

-- the call's answer
unfoldable pub made_of : List ℤ → ℕ → Result ℕ Refusal
unfolding first_large
made_of z o = made (first (table_uses z o)) (2 * length z)

-- what it leaves in the lent slice
unfoldable pub left_of : List ℤ → List ℤ → List ℤ
unfolding first_large pairs
left_of z old = left (first (table_uses z (length old))) (table_of z) old
