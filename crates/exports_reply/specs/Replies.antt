-- What a caller from C sees: bases by number, the reply, and what stands behind each pointer when a call returns. Definitions only.
use Rattle.inverse_segment.specs.Inversion.{Inversion}
use Rattle.inverse_segment.specs.declared.Miss.TheVariants.{Refused, OffCurve}
use Rattle.error.specs.declared.Refusal.{Refusal}
use Rattle.spline.specs.Evaluation.{Evaluation}
use Rattle.std.specs.Prelude.{List, [], ◌∷◌, map, ℕ, get_or, set, Float, Ok, Err, Some, None, Option, Result}
use Rattle.error.specs.declared.Refusal.TheVariants.{OffCurve as OffCurveRow}
use Rattle.error.specs.Refusals.{reply_of}
use Rattle.basis.specs.declared.Basis.{Basis}
use Rattle.basis.specs.declared.Basis.TheVariants.{Bspline, Bezier, CatmullRom, Hermite, Linear, Power}
use Rattle.inverse_segment.specs.declared.Ground.{Ground}
use Rattle.inverse_segment.specs.declared.Ground.TheVariants.{End, Edge, Value as ByValue, Width, Spent}

-- the bases in the order of their numbers, from 0
abbrev pub bases : List Basis
bases = Bspline ∷ Bezier ∷ CatmullRom ∷ Hermite ∷ Linear ∷ Power ∷ []

abbrev pub chosen_of : ℕ → Option Basis
chosen_of n = get_or (map Some bases) n None

-- the reply to a number that is no basis; it stands in no row of the refusal table
abbrev pub no_basis : ℕ
no_basis = 255

-- f of the chosen basis; d if there is none
abbrev pub chosen {ℓ} : {A : Type ℓ} → Option Basis → A → (Basis → A) → A
chosen (Some b) d f = f b
chosen None d f = d

-- ---- evaluation: 0 and the value, or the refusal's reply and what stood there
abbrev pub evaluated_reply : Evaluation → ℕ
evaluated_reply (Ok v) = 0
evaluated_reply (Err r) = reply_of r

abbrev pub value_left : Evaluation → Float → Float
value_left (Ok v) old = v
value_left (Err r) old = old

-- ---- inversion: a place leaves all, refusal 11 its count, another refusal nothing
abbrev pub ground_number : Ground → ℕ
ground_number End = 0
ground_number Edge = 1
ground_number ByValue = 2
ground_number Width = 3
ground_number Spent = 4

abbrev pub inverted_reply : Inversion → ℕ
inverted_reply (Ok p) = 0
inverted_reply (Err (OffCurve n)) = reply_of OffCurveRow
inverted_reply (Err (Refused r)) = reply_of r

abbrev pub place_left : Inversion → List Float → List Float
place_left (Ok p) old = p.parameter ∷ p.local ∷ p.lower ∷ p.upper ∷ []
place_left (Err (OffCurve n)) old = old
place_left (Err (Refused r)) old = old

abbrev pub whole_left : Inversion → List ℕ → List ℕ
whole_left (Ok p) old = ground_number p.ground ∷ p.segment ∷ p.count ∷ []
whole_left (Err (OffCurve n)) old = set old 2 n
whole_left (Err (Refused r)) old = old

-- ---- conversion: 0 and the length, or the refusal's reply and what stood there
abbrev pub converted_reply : Result ℕ Refusal → ℕ
converted_reply (Ok n) = 0
converted_reply (Err r) = reply_of r

abbrev pub length_left : Result ℕ Refusal → ℕ → ℕ
length_left (Ok n) old = n
length_left (Err r) old = old
