-- Knots in a direction, and what the call answers where every segment passes the test. Assumes nothing.
use Rattle.turns_back.specs.declared.Turning.TheVariants.{Never}
use Rattle.std.specs.Prelude.{Ok}
use mathlib.Core.Path.{◌≡◌, refl, sym, ap, ◌∙◌, subst}
use mathlib.Core.Bool.{Bool, true, false, cond}
use mathlib.Core.List.{List}
use Prim.Native.Nat.{ℕ, zero, suc, ◌+◌, ◌<◌}
use native.Mathlib.Omega.{arith}
use lib.IntN.{ℤ, pos}
use lib.Dec.{T}
use lib.ListN.{length, get_or, get_or-map}
use lib.Signed.{◌≤ℤ◌}
use Rattle.error.specs.Refusals.{first}
use Rattle.basis.specs.declared.Basis.{Basis}
use Rattle.basis.specs.Basis.{segments_of}
use Rattle.whole.specs.Held.{turned, turned_all}
use Rattle.whole.proofs.Differences.{itself, opposite, le, of_le}
use Rattle.whole.proofs.Held.{turned_long}
use Rattle.turns_back.specs.Curve.{segment_never_falls, falls_from, first_fall}
use Rattle.turns_back.specs.Call.{turning_uses, turning_of, turns_back_by_of}
use Rattle.turns_back.proofs.Verdicts.{climbs, given}
use Rattle.turns_back.proofs.Answer.{before}

-- no knot goes against the direction from the one before; equal ones are in order
pub record InOrder (t : Bool) (z : List ℤ) : Type 0 where
  pub each : (i : ℕ) → suc i < length z → before t (get_or z i (pos 0)) (get_or z (suc i) (pos 0))

-- ---- signs changed
turn_at : (t : Bool) (z : List ℤ) (i : ℕ) → get_or (turned_all t z) i (pos 0) ≡ turned t (get_or z i (pos 0))
turn_at true z i = get_or-map (turned true) z i (pos 0)
turn_at false z i = get_or-map (turned false) z i (pos 0)

turn_order : (t : Bool) (x y : ℤ) → before t x y → turned t x ≤ℤ turned t y
turn_order true x y h = h
turn_order false x y h = let l = of_le (itself y) (itself x) h in le (opposite x) (opposite y) (omega (arith, l))

pub back_order : (t : Bool) (x y : ℤ) → turned t x ≤ℤ turned t y → before t x y
back_order true x y h = h
back_order false x y h = let l = of_le (opposite x) (opposite y) h in le (itself y) (itself x) (omega (arith, l))

pub turn_pair : (t : Bool) (z : List ℤ) (i k : ℕ) → before t (get_or z i (pos 0)) (get_or z k (pos 0))
    → get_or (turned_all t z) i (pos 0) ≤ℤ get_or (turned_all t z) k (pos 0)
turn_pair t z i k h = rw (turn_at t z i, turn_at t z k) (turn_order t (get_or z i (pos 0)) (get_or z k (pos 0)) h)

-- ---- every segment passes
all_pass : (b : Basis) (z : List ℤ) (k s : ℕ) → ((i : ℕ) → i < k → T (segment_never_falls b z (s + i))) → falls_from b z s k ≡ s + k
unfolding falls_from
all_pass b z zero s f = omega arith
all_pass b z (suc k) s f =
    go (segment_never_falls b z s) (subst (λ (m : ℕ). T (segment_never_falls b z m)) (none s) (f 0 (omega arith)))
    (all_pass b z k (suc s) (λ i l. subst (λ (m : ℕ). T (segment_never_falls b z m)) (next s i) (f (suc i) (omega arith))))
  where
    none : (s : ℕ) → s + 0 ≡ s
    none s = omega arith

    next : (s i : ℕ) → s + suc i ≡ suc s + i
    next s i = omega arith

    go : (t : Bool) → T t → falls_from b z (suc s) k ≡ suc s + k → cond t (falls_from b z (suc s) k) s ≡ s + suc k
    go true p e = omega (arith, e)
    go false p e = absurd p

pub none_turns : (b : Basis) (t : Bool) (z : List ℤ) → first (turning_uses b z) ≡ Ok tt
    → ((i : ℕ) → i < segments_of b (length z) → T (segment_never_falls b (turned_all t z) i)) → turns_back_by_of b t z ≡ Ok Never
unfolding first_fall turns_back_by_of
none_turns b t z v f =
    let k = segments_of b (length z) in
    sym (given (turning_of b t z) refl v (climbs b t z k (sym (none (length (turned_all t z)) (turned_long t z))) (omega arith)))
  where
    none : (n : ℕ) → n ≡ length z → falls_from b (turned_all t z) 0 (segments_of b n) ≡ segments_of b (length z)
    none n e =
        ap (λ (n : ℕ). falls_from b (turned_all t z) 0 (segments_of b n)) e
        ∙ all_pass b (turned_all t z) (segments_of b (length z)) 0 (λ i l. subst (λ (m : ℕ). T (segment_never_falls b (turned_all t z) m)) (same i) (f i l))
        ∙ omega arith
      where
        same : (i : ℕ) → i ≡ 0 + i
        same i = omega arith
