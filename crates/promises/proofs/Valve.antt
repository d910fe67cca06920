-- The valve's call and its export: what each asks, when it refuses, between what its sum lies; and that its weights are the B-spline's whole numbers.
-- The weights are compared with the cubic at every step by one computed test. Assumes nothing.
use Rattle.std.specs.Prelude.{Ok, Err, Result, ℤ}
use mathlib.Core.Path.{◌≡◌, refl, sym, ap, ◌∙◌, subst}
use mathlib.Core.Logic.{inl, inr}
use mathlib.Core.Bool.{Bool, false, ◌&&◌}
use mathlib.Core.List.{List, [], ◌∷◌}
use Prim.Native.Nat.{ℕ, zero, suc, ◌≤◌, ◌<◌}
use native.Mathlib.Nat.{eq-or-lt_of_le}
use native.Mathlib.Omega.{arith}
use lib.Dec.{T, eqb, eqb→eq}
use lib.IntN.{ℤ, pos, negsuc}
use lib.Ieee.Fits.{and_l, and_r}
use Rattle.error.specs.declared.Refusal.{Refusal}
use Rattle.error.specs.Refusals.{rows, first, Verdict}
use Rattle.error.proofs.First.{never, First, first_sound, first_complete}
use Rattle.basis.specs.declared.Basis.TheVariants.{Bspline}
use Rattle.basis.specs.Basis.{whole_of}
use Rattle.spline_exact.specs.Cubic.{whole_sum, cubic}
use Rattle.valve.specs.Mix.{weight_of, mix_of, mix_uses, mixture, mixture_of, mixture_reply, sum_left}
use Rattle.valve.proofs.Between.{Between, mixed_between}
use Rattle.valve.proofs.mix.Reads as mix
use Rattle.valve.proofs.simmerstoat_valve.Reads as c_valve
use Rattle.calls.specs.Calls.{AsksNothing, Keeps, OneReply, Exactly}
use Rattle.promises.proofs.Orders.{Ordered}

-- ---- the call
pub mix_asks_nothing : AsksNothing mix.Asked
mix_asks_nothing κs a = tt

-- its rows in their order
pub mix_ordered : (j : ℕ) (ks : List ℤ) → Ordered (mix_uses j ks) (1 ∷ 2 ∷ 16 ∷ 4 ∷ [])
mix_ordered j ks = (refl, refl)

by_mixture : (v : Verdict) (z : ℤ) (r : Refusal) → Exactly (mixture v z ≡ Err r) (v ≡ Err r)
by_mixture (Ok _) z r = (λ p. never (cc), λ p. never (cc))
by_mixture (Err q) z r = (λ p. let s : q ≡ r = cc in ap Err s, λ p. let s : q ≡ r = cc in ap Err s)

mixture_refused : (j : ℕ) (ks : List ℤ) (r : Refusal) → Exactly (mixture_of j ks ≡ Err r) (First (mix_uses j ks) rows r)
unfolding mixture_of
mixture_refused j ks r =
    let m = by_mixture (first (mix_uses j ks)) (mix_of ks j) r in
    (λ p. first_sound rows (mix_uses j ks) r (m.0 p), λ f. m.1 (first_complete rows (mix_uses j ks) r f))

pub mix_refuses : Keeps mix.Learnt (λ κs a z e. (r : Refusal) → Exactly (z ≡ Err r) (First (mix_uses a.0 a.1.0.now) rows r))
mix_refuses κs a z e p r = let m = mixture_refused a.0 a.1.0.now r in (λ q. m.0 (sym p ∙ q), λ f. p ∙ m.1 f)

pub mix_one_reply : OneReply mix.Learnt (λ κs z e z' e'. z ≡ z')
mix_one_reply κs a z z' e e' p q = p ∙ sym q

-- a sum lies between the least and the greatest knot, times what the weights come to
pub mix_between : Keeps mix.Learnt (λ κs a z e. (s : ℤ) → z ≡ Ok s → Between a.1.0.now s)
mix_between κs a z e p s q = mixed_between a.0 a.1.0.now s (sym p ∙ q)

-- ---- the export
pub valve_asks_nothing : AsksNothing c_valve.Asked
valve_asks_nothing κs a = tt

pub valve_one_reply : OneReply c_valve.Learnt (λ κs z e z' e'. (z ≡ z') × (e.1.1.0.now ≡ e'.1.1.0.now))
valve_one_reply κs a z z' e e' p q = (p.0 ∙ sym q.0, p.1 ∙ sym q.1)

kept : (m : Result ℤ Refusal) (old : ℤ) → (mixture_reply m ≡ 0 → ⊥) → sum_left m old ≡ old
kept (Ok z) old h = absurd (h refl)
kept (Err r) old h = refl

pub valve_writes_nothing : Keeps c_valve.Learnt (λ κs a z e. (z ≡ 0 → ⊥) → e.1.1.0.now ≡ a.1.1.0.now)
valve_writes_nothing κs a z e p h = p.1 ∙ kept (mixture_of a.0 a.1.0.now) a.1.1.0.now (λ w. h (p.0 ∙ w))

-- it replies and writes what the table's call answers on the same step and knots
pub valve_is_mix : Keeps c_valve.Learnt (λ κs a z e. Keeps mix.Learnt (λ κs' b m e'. b.0 ≡ a.0 → b.1.0.now ≡ a.1.0.now
    → (z ≡ mixture_reply m) × (e.1.1.0.now ≡ sum_left m a.1.1.0.now)))
valve_is_mix κs a z e p κs' b m e' q s k =
    let same : m ≡ mixture_of a.0 a.1.0.now =
    q ∙ ap (λ (j : ℕ). mixture_of j b.1.0.now) s ∙ ap (λ (ks : List ℤ). mixture_of a.0 ks) k in
    (p.0 ∙ sym (ap mixture_reply same), p.1 ∙ sym (ap (λ (x : Result ℤ Refusal). sum_left x a.1.1.0.now) same))

-- ---- the weights: knot i is 1 and the others are 0
abbrev pub unit : ℕ → List ℤ
unit zero = pos 1 ∷ pos 0 ∷ pos 0 ∷ pos 0 ∷ []
unit (suc zero) = pos 0 ∷ pos 1 ∷ pos 0 ∷ pos 0 ∷ []
unit (suc (suc zero)) = pos 0 ∷ pos 0 ∷ pos 1 ∷ pos 0 ∷ []
unit (suc (suc (suc i))) = pos 0 ∷ pos 0 ∷ pos 0 ∷ pos 1 ∷ []

abbrev same : ℤ → ℕ → Bool
same (pos n) m = eqb n m
same (negsuc n) m = false

same_is : (z : ℤ) (m : ℕ) → T (same z m) → z ≡ pos m
same_is (pos n) m t = ap pos (eqb→eq n m t)
same_is (negsuc n) m t = absurd t

unfoldable weighs : ℕ → ℕ → Bool
unfolding cubic whole_sum
weighs j i = same (cubic (whole_of Bspline) (unit i) j) (weight_of j i)

unfoldable at_step : ℕ → Bool
unfolding weighs
at_step j = weighs j 0 && (weighs j 1 && (weighs j 2 && weighs j 3))

unfoldable up_to : ℕ → Bool
unfolding at_step
up_to zero = at_step 0
up_to (suc j) = at_step (suc j) && up_to j

tested : T (up_to 256)
unfolding up_to
tested = tt

of_all : (n : ℕ) → T (up_to n) → (j : ℕ) → j ≤ n → T (at_step j)
unfolding up_to
of_all zero t j h = let e : 0 ≡ j = omega arith in subst (λ (i : ℕ). T (at_step i)) e t
of_all (suc n) t j h =
    elim (eq-or-lt_of_le h) [
      | inl e ↦ subst (λ (i : ℕ). T (at_step i)) (sym e) (and_l (at_step (suc n)) (up_to n) t)
      | inr l ↦ of_all n (and_r (at_step (suc n)) (up_to n) t) j (omega arith)
    ]

one_of : (j : ℕ) → T (at_step j) → (i : ℕ) → i < 4 → T (weighs j i)
unfolding at_step
one_of j t zero h = and_l (weighs j 0) (weighs j 1 && (weighs j 2 && weighs j 3)) t
one_of j t (suc zero) h = and_l (weighs j 1) (weighs j 2 && weighs j 3) (and_r (weighs j 0) (weighs j 1 && (weighs j 2 && weighs j 3)) t)
one_of j t (suc (suc zero)) h =
    and_l (weighs j 2) (weighs j 3) (and_r (weighs j 1) (weighs j 2 && weighs j 3) (and_r (weighs j 0) (weighs j 1 && (weighs j 2 && weighs j 3)) t))
one_of j t (suc (suc (suc zero))) h =
    and_r (weighs j 2) (weighs j 3) (and_r (weighs j 1) (weighs j 2 && weighs j 3) (and_r (weighs j 0) (weighs j 1 && (weighs j 2 && weighs j 3)) t))
one_of j t (suc (suc (suc (suc i)))) h = absurd (omega arith)

-- the weight of knot i at a step is what the B-spline's whole numbers give for it, multiplied by 6 × 256³
pub weights_of_bspline : (j i : ℕ) → j ≤ 256 → i < 4 → cubic (whole_of Bspline) (unit i) j ≡ pos (weight_of j i)
unfolding weighs
weights_of_bspline j i h l = same_is (cubic (whole_of Bspline) (unit i) j) (weight_of j i) (one_of j (of_all 256 tested j h) i l)
