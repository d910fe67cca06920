-- The two calls, from their parts. Assumes nothing.
use Rattle.std.specs.Prelude.{Ok, Err, Result, ℕ}
use mathlib.Core.Path.{◌≡◌, refl, sym, ap, ◌∙◌}
use mathlib.Core.List.{List, ◌++◌}
use Prim.Native.Nat.{ℕ, ◌+◌, ◌-◌, ◌*◌, ◌/◌, ◌≤◌}
use lib.ListN.{length, drop}
use lib.Ieee.{Float}
use Rattle.error.specs.declared.Refusal.{Refusal}
use Rattle.error.specs.Refusals.{first, Verdict}
use Rattle.basis.specs.declared.Basis.{Basis}
use Rattle.basis.specs.Basis.{step_of}
use Rattle.spline.specs.declared.RowSums.{RowSums}
use Rattle.spline.specs.Segment.{row_sums_of}
use Rattle.convert_matrix.specs.Matrix.{Matrix}
use Rattle.convert_matrix.specs.Elimination.{conversion_of}
use Rattle.convert.specs.Output.{windows, segment_output, spline_output}
use Rattle.convert.specs.Conversion.{Conversion, gives, refuses, unless, convert_segment_uses, convert_uses, converted_segment_of, converted_of}
use Rattle.convert.specs.Buffer.{answer_of, buffer_of}
use Rattle.convert.specs.Contract.{placed, list_of}
use Rattle.convert.proofs.Verdicts.{less_one}
use Rattle.convert.proofs.Writing.{windows_length}

-- an answer and a buffer tell a conversion
pub record Agreement (t : Conversion) (r : Result ℕ Refusal) (out out' : List Float) : Type 0 where
  pub answer : r ≡ answer_of t
  pub buffer : out' ≡ buffer_of t out

told_refusal : {t : Conversion} (r : Refusal) (out : List Float) → t ≡ refuses r → Agreement t (Err r) out out
told_refusal r out e = record { answer = sym (ap answer_of e); buffer = sym (ap (λ (x : Conversion). buffer_of x out) e) }

told_gift : {t : Conversion} (l : List Float) (n : ℕ) (out out' : List Float) → t ≡ gives l → n ≡ length l → out' ≡ buffer_of (gives l) out
    → Agreement t (Ok n) out out'
told_gift l n out out' e p q = record { answer = ap Ok p ∙ sym (ap answer_of e); buffer = q ∙ sym (ap (λ (x : Conversion). buffer_of x out) e) }

-- ---- one segment
module _ (from to : Basis) (cv out : List Float) where
  pub segment_refused : (r : Refusal) → first (convert_segment_uses to cv (length out)) ≡ Err r
      → Agreement (converted_segment_of from to cv (length out)) (Err r) out out
  unfolding converted_segment_of
  segment_refused r e = told_refusal r out (ap (λ (v : Verdict). unless v (segment_output from to cv)) e)

  pub segment_written : (m : Matrix) (w : RowSums) (out' : List Float) → first (convert_segment_uses to cv (length out)) ≡ Ok tt
      → m ≡ conversion_of from to → w ≡ row_sums_of m cv → out' ≡ placed 0 (drop (4 - 4) (list_of w)) out
      → Agreement (converted_segment_of from to cv (length out)) (Ok 4) out out'
  unfolding converted_segment_of segment_output
  segment_written m w out' e p q r =
      told_gift (segment_output from to cv) 4 out out' (ap (λ (v : Verdict). unless v (segment_output from to cv)) e) refl
      (r ∙ ap (λ (x : RowSums). list_of x ++ drop 4 out) (q ∙ ap (λ (x : Matrix). row_sums_of x cv) p))

-- ---- a curve
module _ (from to : Basis) (ks out : List Float) where
  pub spline_refused : (r : Refusal) → first (convert_uses from to ks (length out)) ≡ Err r
      → Agreement (converted_of from to ks (length out)) (Err r) out out
  unfolding converted_of
  spline_refused r e = told_refusal r out (ap (λ (v : Verdict). unless v (spline_output from to ks)) e)

  pub spline_written : (m : Matrix) (step stride n : ℕ) (out' : List Float) → first (convert_uses from to ks (length out)) ≡ Ok tt
      → m ≡ conversion_of from to → step ≡ step_of from → stride ≡ step_of to → stride ≤ 4
      → n ≡ 4 + (length ks - 4) / step * stride
      → out' ≡ buffer_of (gives (windows m step stride ks ((length ks - 4) / step))) out
      → Agreement (converted_of from to ks (length out)) (Ok n) out out'
  unfolding converted_of spline_output
  spline_written m step stride n out' e p a b g l q =
      let k = (length ks - 4) / step in
      let same : windows m step stride ks k ≡ spline_output from to ks =
      ap (λ (x : Matrix). windows x step stride ks k) p
      ∙ ap (λ (x : ℕ). windows (conversion_of from to) x stride ks ((length ks - 4) / x)) a
      ∙ ap (λ (x : ℕ). windows (conversion_of from to) (step_of from) x ks ((length ks - 4) / step_of from)) b
      ∙ ap (windows (conversion_of from to) (step_of from) (step_of to) ks) (less_one ((length ks - 4) / step_of from)) in
      told_gift (spline_output from to ks) n out out' (ap (λ (v : Verdict). unless v (spline_output from to ks)) e)
      (l ∙ sym (windows_length m step stride ks k g) ∙ ap length same)
      (q ∙ ap (λ (x : List Float). buffer_of (gives x) out) same)
