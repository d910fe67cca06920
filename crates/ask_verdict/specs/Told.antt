-- The verdict on a sheet, as text, and what may be asked after it. Definitions only.
use Rattle.std.specs.Prelude.{Bool, true, false, cond, List, [], ◌∷◌, ◌++◌, ℕ, ℤ, Float, length}
use Rattle.std.specs.Float.Ieee.{to_bits}
use Rattle.std.specs.Float.{binary64}
use Rattle.basis.specs.declared.Basis.{Basis}
use Rattle.basis.specs.Basis.{segments_of}
use Rattle.inverse.specs.declared.Ends.{Ends}
use Rattle.inverse.specs.EndRule.{curve_rule}
use Rattle.spline.specs.Segment.{segment_of}
use Rattle.text.specs.Text.{bytes, LF, TAB, dec_text}
use Rattle.text_rounded.specs.Rounded.{rounded_text}
use Rattle.ask_sheet.specs.declared.Kind.{Kind}
use Rattle.ask_sheet.specs.declared.Reason.{Reason}
use Rattle.ask_sheet.specs.declared.Reason.TheVariants.{Long, NoBasis, NoLabel, NoDepth, Many, Missing}
use Rattle.ask_sheet.specs.Sheet.{Sheet, unbegun, on, faulty}
use Rattle.ask_verdict.specs.Curve.{basis_of, suits, doubles_of}
use Rattle.ask_verdict.specs.Faults.{Fault, twice, turns, falls, flat, faults_of}

-- ---- lines
-- a word with its tab, and a number
abbrev pub number_text : List ℕ → ℕ → List ℕ
number_text w n = w ++ (dec_text 4 n ++ (LF ∷ []))

abbrev pub fault_text : Fault → List ℕ
fault_text (twice i j) = bytes "twice\t" ++ (dec_text 4 i ++ number_text (bytes "\t") j)
fault_text (turns i) = number_text (bytes "turns\t") i
fault_text (falls i) = number_text (bytes "falls\t") i
fault_text flat = bytes "flat\n"

unfoldable pub faults_text : List Fault → List ℕ
faults_text [] = []
faults_text (f ∷ fs) = fault_text f ++ faults_text fs

abbrev pub reason_text : Reason → List ℕ
reason_text Long = bytes "\tlong\n"
reason_text NoBasis = bytes "\tbasis\n"
reason_text NoLabel = bytes "\tlabel\n"
reason_text NoDepth = bytes "\tdepth\n"
reason_text Many = bytes "\tmany\n"
reason_text Missing = bytes "\tmissing\n"

abbrev pub line_text : ℕ → Reason → List ℕ
line_text n r = bytes "line\t" ++ (dec_text 4 n ++ reason_text r)

-- a depth as the nearest decimal with three digits behind the point
abbrev pub depth_text : Float → List ℕ
depth_text x = rounded_text 3 (to_bits binary64 x)

-- the curve's start and end as evaluated
abbrev pub ends_in : Basis → List Float → Ends
ends_in b ks = (curve_rule (segment_of b ks) (segments_of b (length ks))).ends

abbrev pub fine_text : ℕ → Ends → List ℕ
fine_text n e = bytes "fine\t" ++ (dec_text 4 n ++ ((TAB ∷ []) ++ (depth_text e.low ++ ((TAB ∷ []) ++ (depth_text e.high ++ (LF ∷ []))))))

-- ---- the verdict
abbrev pub none : List Fault → Bool
none [] = true
none (f ∷ fs) = false

abbrev pub told_of : Kind → List ℤ → List Fault → List ℕ
told_of k z fs = cond (none fs) (fine_text (length z) (ends_in (basis_of k) (doubles_of k z))) (faults_text fs)

unfoldable pub verdict_of : Sheet → List ℕ
verdict_of unbegun = line_text 1 Missing
verdict_of (on k z ls) = cond (suits k (length z)) (told_of k z (faults_of k z ls)) (number_text (bytes "length\t") (length z))
verdict_of (faulty n r) = line_text n r

-- ---- after it: a sheet that is not fine; or a kind of curve, its knots, the label of each row, and its span in whole seconds, 0 where
-- none was given
pub data Asked : Type 0 where
  bad : Asked
  fine : Kind → List Float → List (List ℕ) → ℕ → Asked

abbrev pub asked_by : Kind → List ℤ → List (List ℕ) → Asked
asked_by k z ls = cond (none (faults_of k z ls)) (fine k (doubles_of k z) ls 0) bad

unfoldable pub asked_of : Sheet → Asked
asked_of unbegun = bad
asked_of (on k z ls) = cond (suits k (length z)) (asked_by k z ls) bad
asked_of (faulty n r) = bad
