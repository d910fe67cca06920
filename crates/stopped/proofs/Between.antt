-- Of two ends that are not equal and a depth, exactly one holds: before the start, at it, strictly between, at the end, beyond it. All by the order of
-- doubles in the direction of the ends. Assumes nothing.
use mathlib.Core.Path.{◌≡◌, refl, sym}
use mathlib.Core.Bool.{Bool, true, false, not, cond, ◌||◌, ◌&&◌}
use lib.Dec.{T, T_not, not_T}
use lib.Ieee.{Float, lt, le, eq, is_nan}
use lib.Ieee.Bits.{is_false}
use lib.Ieee.Fits.{and_l, and_r, and_i}
use Rattle.doubles.proofs.Order.{le_trans_float, lt→le, not-lt→le, lt_le_absurd}
use Rattle.doubles.proofs.Tests.{holds, fails, or_elim, or_r}
use Rattle.inverse.specs.declared.Ends.{Ends}
use Rattle.inverse.specs.EndRule.{at_low, at_high}
use Rattle.stopped.specs.Stopped.{is_before, is_beyond}
use Rattle.stopped.proofs.Ends.{eq_swapped, unequal}

-- strictly between the ends, whichever of them is the greater
abbrev pub is_between : Ends → Float → Bool
is_between e y = cond e.rising (lt e.low y && lt y e.high) (lt e.high y && lt y e.low)

-- ---- the strict order
no : (b : Bool) → (T b → ⊥) → b ≡ false
no b k = is_false b (not_T b k)

eq→le : (x y : Float) → T (eq x y) → T (le x y)
unfolding le
eq→le x y h = or_r (lt x y) (eq x y) h

strictly : (x y : Float) → T (le x y) → (T (eq x y) → ⊥) → T (lt x y)
unfolding le
strictly x y h k = or_elim (lt x y) (eq x y) (λ l. l) (λ q. absurd (k q)) h

lt_trans : (x y z : Float) → T (lt x y) → T (lt y z) → T (lt x z)
lt_trans x y z h k =
    strictly x z (le_trans_float x y z (lt→le x y h) (lt→le y z k))
    (λ q. lt_le_absurd x y h (le_trans_float y z x (lt→le y z k) (eq→le z x (eq_swapped x z q))))

lt_eq : (x y : Float) → T (lt x y) → eq x y ≡ false
lt_eq x y h = no (eq x y) (λ q. lt_le_absurd x y h (eq→le y x (eq_swapped x y q)))

lt_asym : (x y : Float) → T (lt x y) → lt y x ≡ false
lt_asym x y h = no (lt y x) (λ q. lt_le_absurd x y h (lt→le y x q))

-- of two numbers that are not equal the one is below where the other is not
lt_other : (x y : Float) → T (not (is_nan x)) → T (not (is_nan y)) → lt y x ≡ false → eq x y ≡ false → T (lt x y)
lt_other x y p q h k = strictly x y (not-lt→le y x q p (fails h)) (λ w. T_not (eq x y) (fails k) w)

-- ---- a depth and two ends, l below h
module _ (l h y : Float) (o : T (lt l h)) where
  not_both : T (eq y h) → eq y l ≡ false
  not_both q = no (eq y l) (λ w. lt_le_absurd l h o (le_trans_float h y l (eq→le h y (eq_swapped y h q)) (eq→le y l w)))

  not_both_low : T (eq y l) → eq y h ≡ false
  not_both_low q = no (eq y h) (λ w. lt_le_absurd l h o (le_trans_float h y l (eq→le h y (eq_swapped y h w)) (eq→le y l q)))

  below : T (lt y l) → (eq y l ≡ false) × (eq y h ≡ false) × (lt h y ≡ false)
  below q = let w = lt_trans y l h q o in (lt_eq y l q, lt_eq y h w, lt_asym y h w)

  above : T (lt h y) → (eq y h ≡ false) × (eq y l ≡ false) × (lt y l ≡ false)
  above q = let w = lt_trans l h y o q in (unequal h y (lt_eq h y q), unequal l y (lt_eq l y w), lt_asym l y w)

inside : (l h y : Float) → T (lt l y && lt y h)
    → (eq y l ≡ false) × (eq y h ≡ false) × (lt y l ≡ false) × (lt h y ≡ false)
inside l h y q =
    let a = and_l (lt l y) (lt y h) q in
    let b = and_r (lt l y) (lt y h) q in
    (unequal l y (lt_eq l y a), lt_eq y h b, lt_asym l y a, lt_asym y h b)

-- ---- by the direction of the ends
module _ (e : Ends) (y : Float) (way : e.rising ≡ lt e.low e.high) (low : T (not (is_nan e.low))) (high : T (not (is_nan e.high))) where
  -- the other way round where they do not rise
  ordered : (r : Bool) → r ≡ lt e.low e.high → eq e.low e.high ≡ false
      → T (cond r (lt e.low e.high) (lt e.high e.low))
  ordered true p q = holds (sym p)
  ordered false p q = lt_other e.high e.low high low (sym p) (unequal e.low e.high q)

  module _ (apart : eq e.low e.high ≡ false) where
    pub end_alone : T (eq y e.high) → eq y e.low ≡ false
    end_alone = go e.rising (ordered e.rising way apart)
      where
        go : (r : Bool) → T (cond r (lt e.low e.high) (lt e.high e.low)) → T (eq y e.high) → eq y e.low ≡ false
        go true o q = not_both e.low e.high y o q
        go false o q = not_both_low e.high e.low y o q

    pub before_alone : T (is_before e y) → (eq y e.low ≡ false) × (eq y e.high ≡ false)
    before_alone = go e.rising (ordered e.rising way apart)
      where
        go : (r : Bool) → T (cond r (lt e.low e.high) (lt e.high e.low)) → T (cond r (lt y e.low) (lt e.low y))
            → (eq y e.low ≡ false) × (eq y e.high ≡ false)
        go true o q = let w = below e.low e.high y o q in (w.0, w.1)
        go false o q = let w = above e.high e.low y o q in (w.0, w.1)

    pub beyond_alone : T (is_beyond e y) → (eq y e.low ≡ false) × (eq y e.high ≡ false) × (is_before e y ≡ false)
    beyond_alone = go e.rising (ordered e.rising way apart)
      where
        go : (r : Bool) → T (cond r (lt e.low e.high) (lt e.high e.low)) → T (cond r (lt e.high y) (lt y e.high))
            → (eq y e.low ≡ false) × (eq y e.high ≡ false) × (cond r (lt y e.low) (lt e.low y) ≡ false)
        go true o q = let w = above e.low e.high y o q in (w.1, w.0, w.2)
        go false o q = let w = below e.high e.low y o q in (w.1, w.0, w.2)

    pub nothing_else : T (not (is_nan y)) → eq y e.low ≡ false → eq y e.high ≡ false → is_before e y ≡ false → is_beyond e y ≡ false
        → T (is_between e y)
    nothing_else n a b = go e.rising
      where
        go : (r : Bool) → cond r (lt y e.low) (lt e.low y) ≡ false → cond r (lt e.high y) (lt y e.high) ≡ false
            → T (cond r (lt e.low y && lt y e.high) (lt e.high y && lt y e.low))
        go true c d =
            and_i (lt e.low y) (lt y e.high) (lt_other e.low y low n c (unequal y e.low a)) (lt_other y e.high n high d b)
        go false c d =
            and_i (lt e.high y) (lt y e.low) (lt_other e.high y high n d (unequal y e.high b)) (lt_other y e.low n low c a)

-- strictly between: neither equal ends, nor at one, nor outside
pub between_alone : (e : Ends) (y : Float) → T (is_between e y)
    → (eq e.low e.high ≡ false)
    × (eq y e.low ≡ false) × (eq y e.high ≡ false) × (is_before e y ≡ false) × (is_beyond e y ≡ false)
between_alone e y = go e.rising
  where
    go : (r : Bool) → T (cond r (lt e.low y && lt y e.high) (lt e.high y && lt y e.low))
        → (eq e.low e.high ≡ false)
        × (eq y e.low ≡ false)
        × (eq y e.high ≡ false)
        × (cond r (lt y e.low) (lt e.low y) ≡ false)
        × (cond r (lt e.high y) (lt y e.high) ≡ false)
    go true q =
        let w = inside e.low e.high y q in
        let o = lt_trans e.low y e.high (and_l (lt e.low y) (lt y e.high) q) (and_r (lt e.low y) (lt y e.high) q) in
        (lt_eq e.low e.high o, w.0, w.1, w.2, w.3)
    go false q =
        let w = inside e.high e.low y q in
        let o = lt_trans e.high y e.low (and_l (lt e.high y) (lt y e.low) q) (and_r (lt e.high y) (lt y e.low) q) in
        (unequal e.high e.low (lt_eq e.high e.low o), w.1, w.0, w.3, w.2)

-- where the end rule is silent the depth is strictly between
le_false : (x y : Float) → le x y ≡ false → (lt x y ≡ false) × (eq x y ≡ false)
unfolding le
le_false x y h = go (lt x y) (eq x y) h
  where
    go : (a b : Bool) → (a || b) ≡ false → (a ≡ false) × (b ≡ false)
    go true b q = absurd (T_not true (fails q) tt)
    go false b q = (refl, q)

pub silent_between : (e : Ends) (y : Float) → T (not (is_nan e.low)) → T (not (is_nan e.high)) → T (not (is_nan y)) → at_low e y ≡ false
    → at_high e y ≡ false → T (is_between e y)
silent_between e y low high n = go e.rising
  where
    go : (r : Bool) → cond r (le y e.low) (le e.low y) ≡ false → cond r (le e.high y) (le y e.high) ≡ false
        → T (cond r (lt e.low y && lt y e.high) (lt e.high y && lt y e.low))
    go true a b =
        let c = le_false y e.low a in
        let d = le_false e.high y b in
        and_i (lt e.low y) (lt y e.high) (lt_other e.low y low n c.0 (unequal y e.low c.1))
        (lt_other y e.high n high d.0 (unequal e.high y d.1))
    go false a b =
        let c = le_false e.low y a in
        let d = le_false y e.high b in
        and_i (lt e.high y) (lt y e.low) (lt_other e.high y high n d.0 (unequal y e.high d.1))
        (lt_other y e.low n low c.0 (unequal e.low y c.1))
