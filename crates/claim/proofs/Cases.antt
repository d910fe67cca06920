-- The rows in the table's order, by the tests as the code makes them; what a passed verdict says; and the answer by each way out. Assumes nothing.
use Rattle.std.specs.Prelude.{Ok, Err, true, false}
use mathlib.Core.Path.{◌≡◌, refl, sym, ap, ◌∙◌}
use mathlib.Core.Bool.{Bool, true, false}
use mathlib.Core.List.{List, [], ◌∷◌}
use Prim.Native.Nat.{ℕ, ◌+◌, ◌*◌, ◌-◌, ◌≤◌, ◌<◌}
use native.Mathlib.Omega.{arith}
use borrow.Author.Tests.{lt-ltb, le-ltb, ltb-true, ltb-false, not-false}
use lib.Dec.{ltb}
use lib.ListN.{length, take, drop}
use lib.Ieee.{Float, le, ne}
use Rattle.error.specs.declared.Refusal.{Refusal}
use Rattle.error.specs.declared.Refusal.TheVariants.{NotANumber, BadPrecision, NoSegment}
use Rattle.error.specs.Refusals.{Uses, first, Verdict}
use Rattle.error.proofs.First.{stops, goes_on, clear}
use Rattle.basis.specs.declared.Basis.{Basis}
use Rattle.basis.specs.Basis.{step_of, segments_of, matrix_of}
use Rattle.doubles.specs.Numbers.{nought, one}
use Rattle.doubles.proofs.Order.{ne_itself}
use Rattle.checks.specs.Checks.{curve_length, precise, bad_knot}
use Rattle.spline.specs.Segment.{segment_value, segment_of}
use Rattle.spline.proofs.Parts.{rest, inside}
use Rattle.inverse_segment.specs.Segment.{near}
use Rattle.claim.specs.Claim.{claim_uses, accepts, claim_of}

-- ---- the rows
module _ (b : Basis) (y : Float) (s : ℕ) (x ε : Float) (ks : List Float) {l : Verdict} (e : l ≡ first (curve_length b (length ks))) where
  abbrev uses : Uses
  uses = claim_uses b y s x ε ks

  pub claim_stops : {r : Refusal} → l ≡ Err r → l ≡ first uses
  claim_stops k = stops uses e k

  module _ (k : l ≡ Ok tt) where
    pub claim_target : ne y y ≡ true → Err NotANumber ≡ first uses
    claim_target n = goes_on uses e k (simp (sym (ne_itself y) ∙ n))

    pub claim_place : ne y y ≡ false → ne x x ≡ true → Err NotANumber ≡ first uses
    claim_place n m = goes_on uses e k (simp (sym (ne_itself y) ∙ n, sym (ne_itself x) ∙ m))

    module _ (n : ne y y ≡ false) (m : ne x x ≡ false) where
      pub claim_precision : precise ε ≡ false → Err BadPrecision ≡ first uses
      claim_precision p = goes_on uses e k (simp (sym (ne_itself y) ∙ n, sym (ne_itself x) ∙ m, p))

      module _ (p : precise ε ≡ true) {c : ℕ} (count : c ≡ segments_of b (length ks)) where
        pub claim_segment : c ≤ s → Err NoSegment ≡ first uses
        claim_segment h =
            let q : ltb s (segments_of b (length ks)) ≡ false = le-ltb s (segments_of b (length ks)) (omega (arith, count)) in
            goes_on uses e k (simp (sym (ne_itself y) ∙ n, sym (ne_itself x) ∙ m, p, q))

        -- the knots decide the rest
        pub claim_knots : s < c → {w : Verdict} → w ≡ first (bad_knot ks ∷ []) → w ≡ first uses
        claim_knots h f =
            let q : ltb s (segments_of b (length ks)) ≡ true = lt-ltb s (segments_of b (length ks)) (omega (arith, count)) in
            goes_on uses e k (simp (sym (ne_itself y) ∙ n, sym (ne_itself x) ∙ m, p, q) f)

-- ---- a segment below the count has its four knots
pub four_left : (b : Basis) (n s : ℕ) → 4 ≤ n → s < segments_of b n → s * step_of b + 4 ≤ n
four_left b n s h k = let i : s * step_of b ≤ n - 4 = inside s (step_of b) (n - 4) (omega arith) in omega (arith, i)

-- ---- what a passed verdict says
pub record Sound (b : Basis) (s : ℕ) (ks : List Float) : Type 0 where
  pub four : s * step_of b + 4 ≤ length ks
  pub few : length ks ≤ 4096

pub sound : (b : Basis) (y : Float) (s : ℕ) (x ε : Float) (ks : List Float) {v : Verdict} → v ≡ first (claim_uses b y s x ε ks) → v ≡ Ok tt → Sound b s ks
sound b y s x ε ks e d =
    let p = clear (claim_uses b y s x ε ks) (sym e ∙ d) in
    let below : s < segments_of b (length ks) = ltb-true s (segments_of b (length ks)) (not-false (ltb s (segments_of b (length ks))) (p 19)) in
    record { four = four_left b (length ks) s (ltb-false (length ks) 4 (p 1)) below; few = ltb-false 4096 (length ks) (p 3) }

-- ---- the answer
module _ (b : Basis) (y : Float) (s : ℕ) (x ε : Float) (ks : List Float) {v : Verdict} (e : v ≡ first (claim_uses b y s x ε ks)) where
  pub refused_is : {r : Refusal} → v ≡ Err r → Err r ≡ claim_of b y s x ε ks
  unfolding claim_of
  refused_is d = rw (sym e ∙ d)

  pub answer_is : {t : Bool} → v ≡ Ok tt → t ≡ accepts y x (segment_of b ks s x) ε → Ok t ≡ claim_of b y s x ε ks
  unfolding claim_of
  answer_is d f = rw (sym e ∙ d, sym f)

-- ---- whether it is accepted, by the two tests of the place
module _ (b : Basis) (y : Float) (s : ℕ) (x ε : Float) (ks : List Float) where
  pub below_nought : le nought x ≡ false → false ≡ accepts y x (segment_of b ks s x) ε
  below_nought h = rw h

  pub above_one : le nought x ≡ true → le x one ≡ false → false ≡ accepts y x (segment_of b ks s x) ε
  above_one h k = rw (h, k)

  pub in_unit : le nought x ≡ true → le x one ≡ true → {step : ℕ} → step ≡ step_of b → {v : Float}
      → v ≡ segment_value (matrix_of b) (take (length ks - s * step) (drop (s * step) ks)) x
      → {t : Bool} → t ≡ near y v ε → t ≡ accepts y x (segment_of b ks s x) ε
  in_unit h k {step} q {v} d {t} n =
      let e : v ≡ segment_of b ks s x = d ∙ ap (λ (l : List Float). segment_value (matrix_of b) l x) (rest (s * step) ks ∙ ap (λ (j : ℕ). drop (s * j) ks) q) in
      n ∙ ap (λ (z : Float). near y z ε) e ∙ rw (h, k) refl
