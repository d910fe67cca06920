-- The refusals of a strict conversion. The rows past the lengths, in the order of the tests; the seams behind them; then what the verdict says beside the
-- plain conversion's: with a good allowance and no lost seam they are one. Each is shown over the truth of the rows alone. Assumes nothing.
use Rattle.std.specs.Prelude.{Ok, Err}
use mathlib.Core.Path.{◌≡◌, refl, sym, ap, ◌∙◌}
use mathlib.Core.Bool.{Bool, true, false, not, cond}
use mathlib.Core.List.{List, [], ◌∷◌, ◌++◌}
use Prim.Native.Nat.{ℕ, ◌-◌, ◌/◌, ◌<◌}
use lib.Dec.{ltb}
use lib.ListN.{length}
use lib.Ieee.{Float}
use borrow.Author.Tests.{lt-ltb}
use Rattle.error.specs.declared.Refusal.{Refusal}
use Rattle.error.specs.declared.Refusal.TheVariants.{TooFew, BadPattern, TooMany, LinearOutput, BadAllowance, ShortBuffer, BadKnot, LostSeam}
use Rattle.error.specs.Refusals.{Uses, first, Verdict}
use Rattle.error.proofs.First.{never, stops, goes_on}
use Rattle.basis.specs.declared.Basis.{Basis}
use Rattle.basis.specs.Basis.{step_of, regular, is_linear}
use Rattle.checks.specs.Checks.{curve_length, all_in_range, first_bad}
use Rattle.convert_matrix.specs.Matrix.{Matrix}
use Rattle.convert_matrix.specs.Elimination.{conversion_of}
use Rattle.convert.specs.Output.{output_length}
use Rattle.convert.specs.Conversion.{output_uses, convert_uses}
use Rattle.convert.proofs.Verdicts.{less_one}
use Rattle.convert_strict.specs.Seams.{lost_seam}
use Rattle.convert_strict.specs.Strict.{allowable, lost_seam_of, bad_allowance, allowed_uses, strict_uses}

-- ---- the rows of the room and the knots, and what stands behind them
abbrev output : Bool → Bool → ℕ → Verdict → Verdict
output short bad i w = cond short (Err ShortBuffer) (cond bad (Err (BadKnot i)) w)

-- ---- the tests past the lengths
module _ (from to : Basis) (ks : List Float) (allowance : Float) (room : ℕ) where
  abbrev need : ℕ
  need = output_length from to (length ks)

  abbrev pub later : Uses
  later = output_uses to ks need room ++ (bad_allowance allowance ∷ [])

  abbrev ordered : Bool → Bool → Verdict
  ordered linear good = cond linear (Err LinearOutput) (cond (not good) (Err BadAllowance)
      (output (ltb room need) (not (all_in_range ks)) (first_bad ks) (Ok tt)))

  pub by_linear : is_linear to ≡ true → Err LinearOutput ≡ first later
  by_linear e = sym (ap (λ (b : Bool). ordered b (allowable allowance)) e)

  pub by_allowance : is_linear to ≡ false → allowable allowance ≡ false → Err BadAllowance ≡ first later
  by_allowance e a = sym (ap (λ (b : Bool). ordered b (allowable allowance)) e ∙ ap (ordered false) a)

  pub by_output : is_linear to ≡ false → allowable allowance ≡ true → {v : Verdict} {n : ℕ} → n ≡ need → v ≡ first (output_uses to ks n room) → v ≡ first later
  by_output e a k p =
      p
      ∙ ap (λ (x : ℕ). first (output_uses to ks x room)) k
      ∙ ap (λ (b : Bool). cond b (Err LinearOutput) (output (ltb room need) (not (all_in_range ks)) (first_bad ks) (Ok tt))) e
      ∙ sym (ap (λ (b : Bool). ordered b (allowable allowance)) e ∙ ap (ordered false) a)

  module _ {l : Verdict} (e : l ≡ first (curve_length from (length ks))) where
    pub allowed_stops : {r : Refusal} → l ≡ Err r → l ≡ first (allowed_uses from to ks allowance room)
    allowed_stops k = stops (allowed_uses from to ks allowance room) e k

    pub allowed_goes_on : {w : Verdict} → l ≡ Ok tt → w ≡ first later → w ≡ first (allowed_uses from to ks allowance room)
    allowed_goes_on k h = goes_on (allowed_uses from to ks allowance room) e k h

-- what the scan finds, by the curve's matrix and steps
pub found : (from to : Basis) (ks : List Float) (allowance : Float) {m : Matrix} {step stride s : ℕ} → m ≡ conversion_of from to → step ≡ step_of from →
    stride ≡ step_of to → s ≡ lost_seam m step stride allowance ks ((length ks - 4) / step) → s ≡ lost_seam_of from to ks allowance
unfolding lost_seam_of
found from to ks allowance {m} {step} {stride} p a b e =
    e
    ∙ ap (λ (x : Matrix). lost_seam x step stride allowance ks ((length ks - 4) / step)) p
    ∙ ap (λ (x : ℕ). lost_seam (conversion_of from to) x stride allowance ks ((length ks - 4) / x)) a
    ∙ ap (λ (x : ℕ). lost_seam (conversion_of from to) (step_of from) x allowance ks ((length ks - 4) / step_of from)) b
    ∙ ap (lost_seam (conversion_of from to) (step_of from) (step_of to) allowance ks) (less_one ((length ks - 4) / step_of from))

-- ---- beside the plain conversion
-- its rows, and these with two more: the allowance e, and the seam s, by h
abbrev plain : Bool → Bool → Bool → Bool → Bool → Bool → ℕ → Verdict
plain a b c d f g i = cond a (Err TooFew) (cond b (Err BadPattern) (cond c (Err TooMany) (cond d (Err LinearOutput) (output f g i (Ok tt)))))

abbrev strict : Bool → Bool → Bool → Bool → Bool → Bool → Bool → Bool → ℕ → ℕ → Verdict
strict a b c d e f g h i s =
    cond a (Err TooFew) (cond b (Err BadPattern) (cond c (Err TooMany)
    (cond d (Err LinearOutput) (cond e (Err BadAllowance) (output f g i (cond h (Err (LostSeam s)) (Ok tt)))))))

-- those that are decided before the seams
abbrev allowed : Bool → Bool → Bool → Bool → Bool → Bool → Bool → ℕ → Verdict
allowed a b c d e f g i =
    cond a (Err TooFew) (cond b (Err BadPattern)
    (cond c (Err TooMany) (cond d (Err LinearOutput) (cond e (Err BadAllowance) (output f g i (Ok tt))))))

stays : (a b c d e f g h : Bool) (i s : ℕ) {r : Refusal} → allowed a b c d e f g i ≡ Err r → strict a b c d e f g h i s ≡ Err r
stays true b c d e f g h i s p = p
stays false true c d e f g h i s p = p
stays false false true d e f g h i s p = p
stays false false false true e f g h i s p = p
stays false false false false true f g h i s p = p
stays false false false false false true g h i s p = p
stays false false false false false false true h i s p = p
stays false false false false false false false h i s p = never (cc)

-- where they pass, the seam's row alone is left, and the plain conversion passes
left : (a b c d e f g h : Bool) (i s : ℕ) → allowed a b c d e f g i ≡ Ok tt
    → (strict a b c d e f g h i s ≡ cond h (Err (LostSeam s)) (Ok tt)) × (plain a b c d f g i ≡ Ok tt)
left true b c d e f g h i s p = never (cc)
left false true c d e f g h i s p = never (cc)
left false false true d e f g h i s p = never (cc)
left false false false true e f g h i s p = never (cc)
left false false false false true f g h i s p = never (cc)
left false false false false false true g h i s p = never (cc)
left false false false false false false true h i s p = never (cc)
left false false false false false false false h i s p = (refl, refl)

-- but for the two rows they are one
one_verdict : (a b c d e f g h : Bool) (i s : ℕ) → (strict a b c d e f g h i s ≡ Err BadAllowance → ⊥) →
    (strict a b c d e f g h i s ≡ Err (LostSeam s) → ⊥) → strict a b c d e f g h i s ≡ plain a b c d f g i
one_verdict true b c d e f g h i s x y = refl
one_verdict false true c d e f g h i s x y = refl
one_verdict false false true d e f g h i s x y = refl
one_verdict false false false true e f g h i s x y = refl
one_verdict false false false false true f g h i s x y = absurd (x refl)
one_verdict false false false false false true g h i s x y = refl
one_verdict false false false false false false true h i s x y = refl
one_verdict false false false false false false false true i s x y = absurd (y refl)
one_verdict false false false false false false false false i s x y = refl

-- the seam's row decides where the others pass
pub record Decides (p : Verdict) (e h : Bool) (s t : ℕ) : Type 0 where
  pub plain_passes : p ≡ Ok tt
  pub good : e ≡ false
  pub lost : h ≡ true
  pub it_is : s ≡ t

decides : (a b c d e f g h : Bool) (i s t : ℕ) → strict a b c d e f g h i s ≡ Err (LostSeam t) → Decides (plain a b c d f g i) e h s t
decides true b c d e f g h i s t p = never (cc)
decides false true c d e f g h i s t p = never (cc)
decides false false true d e f g h i s t p = never (cc)
decides false false false true e f g h i s t p = never (cc)
decides false false false false true f g h i s t p = never (cc)
decides false false false false false true g h i s t p = never (cc)
decides false false false false false false true h i s t p = never (cc)
decides false false false false false false false true i s t p = let q : s ≡ t = cc in record { plain_passes = refl; good = refl; lost = refl; it_is = q }
decides false false false false false false false false i s t p = never (cc)

decided : (a b c d e f g h : Bool) (i s t : ℕ) → Decides (plain a b c d f g i) e h s t → strict a b c d e f g h i s ≡ Err (LostSeam t)
decided true b c d e f g h i s t p = let q = p.plain_passes in never (cc)
decided false true c d e f g h i s t p = let q = p.plain_passes in never (cc)
decided false false true d e f g h i s t p = let q = p.plain_passes in never (cc)
decided false false false true e f g h i s t p = let q = p.plain_passes in never (cc)
decided false false false false true f g h i s t p = let q = p.good in never (cc)
decided false false false false false true g h i s t p = let q = p.plain_passes in never (cc)
decided false false false false false false true h i s t p = let q = p.plain_passes in never (cc)
decided false false false false false false false true i s t p = ap (λ (x : ℕ). Err (LostSeam x)) p.it_is
decided false false false false false false false false i s t p = let q = p.lost in never (cc)

module _ (from to : Basis) (ks : List Float) (allowance : Float) (room : ℕ) where
  abbrev number : ℕ
  number = length ks

  abbrev seam : ℕ
  seam = lost_seam_of from to ks allowance

  abbrev short : Bool
  short = ltb room (output_length from to number)

  pub refused_before : {r : Refusal} → first (allowed_uses from to ks allowance room) ≡ Err r → first (strict_uses from to ks allowance room) ≡ Err r
  refused_before p = stays (ltb number 4) (not (regular from number)) (ltb 4096 number) (is_linear to) (not (allowable allowance)) short
      (not (all_in_range ks)) (ltb 0 seam) (first_bad ks) seam p

  module _ (p : first (allowed_uses from to ks allowance room) ≡ Ok tt) where
    seam_left : (first (strict_uses from to ks allowance room) ≡ cond (ltb 0 seam) (Err (LostSeam seam)) (Ok tt))
        × (first (convert_uses from to ks room) ≡ Ok tt)
    seam_left = left (ltb number 4) (not (regular from number)) (ltb 4096 number) (is_linear to) (not (allowable allowance)) short
        (not (all_in_range ks)) (ltb 0 seam) (first_bad ks) seam p

    pub plain_passes : first (convert_uses from to ks room) ≡ Ok tt
    plain_passes = seam_left.1

    pub seam_refused : (s : ℕ) → s ≡ seam → 0 < s → first (strict_uses from to ks allowance room) ≡ Err (LostSeam s)
    seam_refused s e h =
        seam_left.0
        ∙ ap (λ (b : Bool). cond b (Err (LostSeam seam)) (Ok tt)) (ap (ltb 0) (sym e) ∙ lt-ltb 0 s h)
        ∙ ap (λ (x : ℕ). Err (LostSeam x)) (sym e)

    pub seam_kept : (s : ℕ) → s ≡ seam → s ≡ 0 → first (strict_uses from to ks allowance room) ≡ Ok tt
    seam_kept s e h = seam_left.0 ∙ ap (λ (x : ℕ). cond (ltb 0 x) (Err (LostSeam x)) (Ok tt)) (sym e ∙ h)

  pub same_verdict : (first (strict_uses from to ks allowance room) ≡ Err BadAllowance → ⊥) →
      (first (strict_uses from to ks allowance room) ≡ Err (LostSeam seam) → ⊥) → first (strict_uses from to ks allowance room) ≡ first
      (convert_uses from to ks room)
  same_verdict x y = one_verdict (ltb number 4) (not (regular from number)) (ltb 4096 number) (is_linear to) (not (allowable allowance)) short
      (not (all_in_range ks)) (ltb 0 seam) (first_bad ks) seam x y

  pub seam_decides : (s : ℕ) → first (strict_uses from to ks allowance room) ≡ Err (LostSeam s) → Decides (first (convert_uses from to ks room))
      (not (allowable allowance)) (ltb 0 seam) seam s
  seam_decides s p = decides (ltb number 4) (not (regular from number)) (ltb 4096 number) (is_linear to) (not (allowable allowance)) short
      (not (all_in_range ks)) (ltb 0 seam) (first_bad ks) seam s p

  pub seam_decided : (s : ℕ) → Decides (first (convert_uses from to ks room)) (not (allowable allowance)) (ltb 0 seam) seam s → first
      (strict_uses from to ks allowance room) ≡ Err (LostSeam s)
  seam_decided s p = decided (ltb number 4) (not (regular from number)) (ltb 4096 number) (is_linear to) (not (allowable allowance)) short
      (not (all_in_range ks)) (ltb 0 seam) (first_bad ks) seam s p
