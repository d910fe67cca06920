-- Rows that turn back: the call tells the segment between the first two that do, for every other segment goes with its own rows. Assumes nothing.
use Rattle.turns_back.specs.declared.Turning.TheVariants.{At}
use Rattle.std.specs.Prelude.{Ok}
use mathlib.Core.Path.{◌≡◌, refl, sym, subst}
use mathlib.Core.Logic.{inr}
use mathlib.Core.Bool.{Bool, true, false}
use mathlib.Core.List.{List}
use Prim.Native.Nat.{ℕ, suc, ◌*◌, ◌≤◌, ◌<◌}
use native.Mathlib.Omega.{arith}
use lib.IntN.{ℤ, pos, ◌*ℤ◌}
use lib.Dec.{T}
use lib.ListN.{length, get_or}
use lib.Signed.{le_z, le_z_yes}
use Rattle.basis.specs.declared.Basis.TheVariants.{Hermite}
use Rattle.whole.specs.Held.{turned_all}
use Rattle.whole.proofs.Differences.{itself, times, le, of_le, not_le}
use Rattle.whole.proofs.Held.{turned_long}
use Rattle.turns_back.specs.Curve.{curve_at}
use Rattle.turns_back.specs.Call.{turns_back_by_of}
use Rattle.turns_back.proofs.Answer.{before, after, falls_at, in_order_before, turns_somewhere}
use Rattle.turns_back.proofs.InOrder.{turn_pair}
use Rattle.monotone.specs.Table.{table_of}
use Rattle.monotone.proofs.Through.{starts_at, ends_at}
use Rattle.monotone.proofs.Mirror.{table_turned}
use Rattle.monotone.proofs.Climbing as climbing
use Rattle.monotone.proofs.Kept.{segments_are}

-- not in order is the other way round
other_way : (t : Bool) (x y : ℤ) → (before t x y → Prim.⊥) → after t x y
other_way true x y n = go (le_z x y) refl
  where
    go : (u : Bool) → le_z x y ≡ u → after true x y
    go true e = absurd (n (le_z_yes (subst T (sym e) tt)))
    go false e = not_le e
other_way false x y n = go (le_z y x) refl
  where
    go : (u : Bool) → le_z y x ≡ u → after false x y
    go true e = absurd (n (le_z_yes (subst T (sym e) tt)))
    go false e = not_le e

-- a factor of 1, twice
once : (t : Bool) (x y : ℤ) → before t (x *ℤ pos (1 * 1 * 1) *ℤ pos (1 * 1 * 1)) (y *ℤ pos (1 * 1 * 1) *ℤ pos (1 * 1 * 1)) → before t x y
once true x y h =
    let l = of_le (times 1 (times 1 (itself x))) (times 1 (times 1 (itself y))) h in le (itself x) (itself y) (omega (arith, l))
once false x y h =
    let l = of_le (times 1 (times 1 (itself y))) (times 1 (times 1 (itself x))) h in le (itself y) (itself x) (omega (arith, l))

-- rows s and the next go against the direction, and none before them
pub record FirstBack (t : Bool) (z : List ℤ) (s : ℕ) : Type 0 where
  pub inside : suc s < length z
  pub against : after t (get_or z s (pos 0)) (get_or z (suc s) (pos 0))
  pub before_it : (i : ℕ) → i < s → before t (get_or z i (pos 0)) (get_or z (suc i) (pos 0))

pub rows_told : (t : Bool) (z : List ℤ) (s : ℕ) → 2 ≤ length z → turns_back_by_of Hermite t (table_of z) ≡ Ok (At s) → FirstBack t z s
rows_told t z s m e =
    let g = (turns_somewhere Hermite t (table_of z) s e).inside in
    let h : suc s < length z = omega (arith, g, segments_are z m) in
    record {
      inside = h;
      against = other_way t (get_or z s (pos 0)) (get_or z (suc s) (pos 0)) (λ o. passes h o);
      before_it = λ i l. rising i l (omega (arith, h, l));
    }
  where
    passes : suc s < length z → before t (get_or z s (pos 0)) (get_or z (suc s) (pos 0)) → Prim.⊥
    passes h o =
        let c = climbing.climbs (turned_all t z) s (omega (arith, turned_long t z, h)) (turn_pair t z s (suc s) o) in
        subst T (falls_at Hermite t (table_of z) s e) (rw (table_turned t z) c)

    rising : (i : ℕ) → i < s → suc i < length z → before t (get_or z i (pos 0)) (get_or z (suc i) (pos 0))
    rising i l h =
        let o = in_order_before Hermite t (table_of z) s e i 1 0 i 1 1 l
        (record { first = omega arith; second = omega arith; order = inr (refl, omega arith) }) in
        once t (get_or z i (pos 0)) (get_or z (suc i) (pos 0))
        (subst (λ (v : ℤ). before t (v *ℤ pos (1 * 1 * 1)) (get_or z (suc i) (pos 0) *ℤ pos (1 * 1 * 1) *ℤ pos (1 * 1 * 1))) (starts_at z i h 1)
        (subst (λ (v : ℤ). before t (curve_at Hermite (table_of z) i 1 0 *ℤ pos (1 * 1 * 1)) (v *ℤ pos (1 * 1 * 1))) (ends_at z i h 1) o))
