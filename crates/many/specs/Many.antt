-- A curve at many parameters: what is refused, what is answered, and the whole output slice when the call returns. Definitions only.
use Rattle.many.specs.declared.ManyRefusal.{ManyRefusal}
use Rattle.many.specs.declared.ManyRefusal.TheVariants.{NotANumberAt, Refused}
use Rattle.std.specs.Prelude.{ℕ, suc, Bool, false, cond, ◌||◌, List, [], ◌∷◌, ◌++◌, map, length, drop, ◌==◌, is_nan, nat_lt, Float, Ok, Err, Result, ⊤}
use Rattle.error.specs.declared.Refusal.{Refusal}
use Rattle.error.specs.declared.Refusal.TheVariants.{NotANumber, ShortBuffer}
use Rattle.error.specs.Refusals.{number_of, Uses, first, Verdict}
use Rattle.basis.specs.declared.Basis.{Basis}
use Rattle.checks.specs.Checks.{curve_length, bad_knot}
use Rattle.spline.specs.Curve.{curve_value}

-- whether one is NaN
unfoldable pub some_nan : List Float → Bool
some_nan [] = false
some_nan (x ∷ xs) = is_nan x || some_nan xs

-- the number of the first that is, from 0
unfoldable pub first_nan : List Float → ℕ
first_nan [] = 0
first_nan (x ∷ xs) = cond (is_nan x) 0 (suc (first_nan xs))

-- the rows, once for all parameters; a value needs a place each, of room places
abbrev pub many_uses : Basis → List Float → List Float → ℕ → Uses
many_uses b xs ks room = curve_length b (length ks) ++ ((NotANumber, some_nan xs) ∷ (ShortBuffer, nat_lt room (length xs)) ∷ bad_knot ks ∷ [])

-- the curve at each, in their order
unfoldable pub values_of : Basis → List Float → List Float → List Float
values_of b xs ks = map (λ x. curve_value b x ks) xs

-- refusal 5 tells which parameter it means
abbrev pub told_of : Refusal → List Float → Result ⊤ ManyRefusal
told_of r xs = cond (number_of r == 5) (Err (NotANumberAt (first_nan xs))) (Err (Refused r))

abbrev pub answer_by : Verdict → List Float → Result ⊤ ManyRefusal
answer_by (Ok _) xs = Ok tt
answer_by (Err r) xs = told_of r xs

unfoldable pub many_of : Basis → List Float → List Float → ℕ → Result ⊤ ManyRefusal
many_of b xs ks room = answer_by (first (many_uses b xs ks room)) xs

-- the values, then what stood there before; on a refusal what stood there before
abbrev pub left_by : Result ⊤ ManyRefusal → List Float → List Float → List Float
left_by (Ok _) l out = l ++ drop (length l) out
left_by (Err (NotANumberAt i)) l out = out
left_by (Err (Refused r)) l out = out
