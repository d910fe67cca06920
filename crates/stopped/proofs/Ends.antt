-- Equal doubles either way round; a depth that is at neither end and outside neither is one of which the end rule is silent; the code's tests one by one.
-- Assumes nothing.
use Rattle.stopped.specs.declared.Job.{Job}
use Rattle.stopped.specs.declared.Job.TheVariants.{Flat, Before, Start, End, Beyond}
use Rattle.inverse_segment.specs.declared.Miss.{Miss}
use Rattle.inverse_segment.specs.declared.Place.{Place}
use Rattle.std.specs.Prelude.{Result, ℕ, Ok}
use mathlib.Core.Path.{◌≡◌, refl, sym, ap, ◌∙◌}
use mathlib.Core.Bool.{Bool, true, false, cond, ◌||◌, beq}
use mathlib.Core.List.{List}
use Prim.Native.Nat.{ℕ, ◌*◌}
use lib.Dec.{T, T_not, eqb, eqb→eq, not_T}
use lib.ListN.{length}
use lib.Ieee.{Float, nan, inf, fin, up, down, level, lt, le, eq}
use lib.Ieee.Bits.{is_false}
use lib.Ieee.Fits.{and_l, and_r, and_i, eq→eqb}
use Rattle.basis.specs.declared.Basis.{Basis}
use Rattle.basis.specs.Basis.{segments_of}
use Rattle.doubles.proofs.Tests.{fails}
use Rattle.inverse.specs.declared.Ends.{Ends}
use Rattle.inverse.specs.EndRule.{at_low, at_high, curve_rule}
use Rattle.spline.specs.Segment.{segment_of}
use Rattle.stopped.specs.Stopped.{ends_of, is_before, is_beyond, between, said_of}

-- ---- equal doubles, either way round
level_swapped : (s : Bool) (a : ℕ) (t : Bool) (b : ℕ) → T (level s a t b) → T (level t b s a)
level_swapped s a t b h = go s t (and_r (eqb a b) (beq s t || eqb a 0) h)
  where
    same : a ≡ b
    same = eqb→eq a b (and_l (eqb a b) (beq s t || eqb a 0) h)

    turned : T (eqb b a)
    turned = eq→eqb (sym same)

    go : (s t : Bool) → T (beq s t || eqb a 0) → T (level t b s a)
    go true true q = and_i (eqb b a) true turned tt
    go false false q = and_i (eqb b a) true turned tt
    go true false q = and_i (eqb b a) (eqb b 0) turned (eq→eqb (sym same ∙ eqb→eq a 0 q))
    go false true q = and_i (eqb b a) (eqb b 0) turned (eq→eqb (sym same ∙ eqb→eq a 0 q))

pub eq_swapped : (x y : Float) → T (eq x y) → T (eq y x)
unfolding eq
eq_swapped nan y h = absurd h
eq_swapped (inf s) nan h = absurd h
eq_swapped (inf true) (inf true) h = tt
eq_swapped (inf true) (inf false) h = absurd h
eq_swapped (inf false) (inf true) h = absurd h
eq_swapped (inf false) (inf false) h = tt
eq_swapped (inf s) (fin t n d) h = absurd h
eq_swapped (fin s m e) nan h = absurd h
eq_swapped (fin s m e) (inf t) h = absurd h
eq_swapped (fin s m e) (fin t n d) h = level_swapped s (m * up e * down d) t (n * up d * down e) h

pub unequal : (x y : Float) → eq x y ≡ false → eq y x ≡ false
unequal x y h = is_false (eq y x) (not_T (eq y x) (λ q. T_not (eq x y) (fails h) (eq_swapped y x q)))

-- ---- the end rule is silent
not_at_most : (x y : Float) → eq x y ≡ false → lt x y ≡ false → le x y ≡ false
unfolding le
not_at_most x y a b = rw (b, a) refl

pub not_low : (e : Ends) (y : Float) → eq y e.low ≡ false → is_before e y ≡ false → at_low e y ≡ false
not_low e y a b = go e.rising b
  where
    go : (r : Bool) → cond r (lt y e.low) (lt e.low y) ≡ false → cond r (le y e.low) (le e.low y) ≡ false
    go true b = not_at_most y e.low a b
    go false b = not_at_most e.low y (unequal y e.low a) b

pub not_high : (e : Ends) (y : Float) → eq y e.high ≡ false → is_beyond e y ≡ false → at_high e y ≡ false
not_high e y a b = go e.rising b
  where
    go : (r : Bool) → cond r (lt e.high y) (lt y e.high) ≡ false → cond r (le e.high y) (le y e.high) ≡ false
    go true b = not_at_most e.high y (unequal y e.high a) b
    go false b = not_at_most y e.high a b

-- ---- the code's tests are those of the definition; e is what `curve_ends` answers of the k segments, x what the inversion found
module _ (b : Basis) (ks : List Float) (y : Float) (x : Result (Place × ℕ) Miss) {k : ℕ} (q : k ≡ segments_of b (length ks)) {e : Ends}
    (h : e ≡ (curve_rule (segment_of b ks) k).ends) where
  by_ends_lem : {j : Result Job Miss} → j ≡ said_of e y x → j ≡ said_of (ends_of b ks) y x
  by_ends_lem p = p ∙ ap (λ (z : Ends). said_of z y x) (h ∙ ap (λ (z : ℕ). (curve_rule (segment_of b ks) z).ends) q)

  pub said_flat : eq e.low e.high ≡ true → Ok Flat ≡ said_of (ends_of b ks) y x
  said_flat a = by_ends_lem (simp a)

  module _ (a : eq e.low e.high ≡ false) where
    pub said_start : eq y e.low ≡ true → Ok Start ≡ said_of (ends_of b ks) y x
    said_start c = by_ends_lem (simp (a, c))

    module _ (c : eq y e.low ≡ false) where
      pub said_end : eq y e.high ≡ true → Ok End ≡ said_of (ends_of b ks) y x
      said_end d = by_ends_lem (simp (a, c, d))

      module _ (d : eq y e.high ≡ false) where
        pub said_before : is_before e y ≡ true → Ok Before ≡ said_of (ends_of b ks) y x
        said_before f = by_ends_lem (simp (a, c, d, f))

        module _ (f : is_before e y ≡ false) where
          pub said_beyond : is_beyond e y ≡ true → Ok Beyond ≡ said_of (ends_of b ks) y x
          said_beyond g = by_ends_lem (simp (a, c, d, f, g))

          pub said_between : is_beyond e y ≡ false → {j : Result Job Miss} → j ≡ between x → j ≡ said_of (ends_of b ks) y x
          said_between g r = by_ends_lem (r ∙ simp (a, c, d, f, g))
