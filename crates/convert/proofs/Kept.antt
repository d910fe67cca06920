-- What a conversion leaves alone, and how much it writes. Assumes nothing.
use Rattle.std.specs.Prelude.{Ok, Err}
use mathlib.Core.Path.{◌≡◌, refl, sym, ap, ◌∙◌}
use mathlib.Core.List.{List, ◌++◌}
use Prim.Native.Nat.{ℕ, ◌+◌, ◌-◌, ◌≤◌}
use native.Mathlib.Nat.{le_trans, le_of_eq}
use native.Mathlib.Omega.{arith}
use lib.Dec.{lit≤}
use lib.ListN.{length, get_or, drop}
use lib.Seq.{get_or-append-add, get_or-drop}
use lib.Ieee.{Float, nan}
use Rattle.error.specs.Refusals.{first, Verdict}
use Rattle.error.proofs.First.{never}
use Rattle.basis.specs.declared.Basis.{Basis}
use Rattle.basis.specs.declared.Basis.TheVariants.{Bspline, Bezier, CatmullRom, Hermite, Linear, Power}
use Rattle.basis.specs.Basis.{step_of, segments_of}
use Rattle.convert_matrix.specs.Elimination.{conversion_of}
use Rattle.convert.specs.Output.{segment_output, spline_output, output_length}
use Rattle.convert.specs.Conversion.{gives, unless, convert_segment_uses, convert_uses, converted_segment_of, converted_of}
use Rattle.convert.specs.Buffer.{buffer_of}
use Rattle.convert.proofs.Verdicts.{segment_passed, spline_passed}
use Rattle.convert.proofs.Writing.{windows_length}

-- places beyond the doubles given stay
pub beyond_stays : (l out : List Float) (i : ℕ) → length l ≤ i → get_or (buffer_of (gives l) out) i nan ≡ get_or out i nan
beyond_stays l out i h =
    let j = i - length l in
    let e : i ≡ length l + j = omega arith in
    ap (λ (k : ℕ). get_or (l ++ drop (length l) out) k nan) e
    ∙ get_or-append-add l (drop (length l) out) j nan
    ∙ get_or-drop (length l) out j nan
    ∙ ap (λ (k : ℕ). get_or out k nan) (sym e)

-- where doubles are given, nothing is refused
pub given : (v : Verdict) {l r : List Float} → unless v l ≡ gives r → (v ≡ Ok tt) × (l ≡ r)
given (Ok _) e = (refl, cc)
given (Err q) e = never (cc)

four_at_most : (b : Basis) → step_of b ≤ 4
four_at_most Bspline = lit≤ tt
four_at_most Bezier = lit≤ tt
four_at_most CatmullRom = lit≤ tt
four_at_most Hermite = lit≤ tt
four_at_most Linear = lit≤ tt
four_at_most Power = lit≤ tt

-- a curve's output has 4 + (k − 1)·STEP_out doubles, and they fit
pub spline_length : (from to : Basis) (ks : List Float) (room : ℕ) (l : List Float) → converted_of from to ks room ≡ gives l
    → (length l ≡ output_length from to (length ks)) × (length l ≤ room)
unfolding converted_of spline_output
spline_length from to ks room l e =
    let g = given (first (convert_uses from to ks room)) e in
    let n : length l ≡ output_length from to (length ks) =
    ap length (sym g.1) ∙ windows_length (conversion_of from to) (step_of from) (step_of to) ks (segments_of from (length ks) - 1) (four_at_most to) in
    (n, le_trans (le_of_eq n) (spline_passed from to ks room g.0).1.enough)

-- a segment's has four
pub segment_length_lem : (from to : Basis) (cv : List Float) (room : ℕ) (l : List Float) → converted_segment_of from to cv room ≡ gives l
    → (length l ≡ 4) × (length l ≤ room)
unfolding converted_segment_of segment_output
segment_length_lem from to cv room l e =
    let g = given (first (convert_segment_uses to cv room)) e in
    let n : length l ≡ 4 = ap length (sym g.1) in
    (n, le_trans (le_of_eq n) (segment_passed to cv room g.0).1.enough)
