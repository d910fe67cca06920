-- The curve over the table passes through every row: where a segment starts, and where it ends. Assumes nothing.
use mathlib.Core.Path.{◌≡◌, sym, ap, ◌∙◌, subst}
use mathlib.Core.List.{List}
use Prim.Native.Nat.{ℕ, suc, min, ◌+◌, ◌-◌, ◌*◌, ◌≤◌, ◌<◌}
use native.Mathlib.Omega.{arith}
use lib.IntN.{ℤ, pos, ◌*ℤ◌}
use lib.ListN.{length, drop, get_or}
use lib.Seq.{get_or-drop}
use Rattle.basis.specs.declared.Basis.TheVariants.{Hermite}
use Rattle.basis.specs.Basis.{whole_of}
use Rattle.spline_exact.specs.Cubic.{at}
use Rattle.turns_back.specs.Curve.{coefficient, curve_at}
use Rattle.whole.proofs.Differences.{up, down, Is, itself, times}
use Rattle.turns_back.proofs.Seams.{value_is}
use Rattle.monotone.specs.Slope.{step_at, between, slope_at}
use Rattle.monotone.specs.Table.{table_of}
use Rattle.monotone.proofs.Limits.{between_same}
use Rattle.whole.proofs.Differences.{alike}
use Rattle.monotone.proofs.Pairs.{pairs_row, pairs_slope}

-- ---- the table's places
pub row_at : (z : List ℤ) (i n : ℕ) → n ≡ 2 * i → i < length z → get_or (table_of z) n (pos 0) ≡ get_or z i (pos 0)
row_at z i n e h = pairs_row z (length z) 0 i n e h ∙ ap (λ (m : ℕ). get_or z m (pos 0)) (none i)
  where
    none : (i : ℕ) → 0 + i ≡ i
    none i = omega arith

pub slope_at_lem : (z : List ℤ) (i n : ℕ) → n ≡ 2 * i + 1 → i < length z → get_or (table_of z) n (pos 0) ≡ slope_at z i
slope_at_lem z i n e h = pairs_slope z (length z) 0 i n e h ∙ ap (slope_at z) (none i)
  where
    none : (i : ℕ) → 0 + i ≡ i
    none i = omega arith

-- the first row's slope is the first step, the last one's the last
pub slope_first : (z : List ℤ) → slope_at z 0 ≡ step_at z 0
unfolding slope_at
slope_first z = ap (λ (m : ℕ). between (step_at z 0) (step_at z m)) (none (length z - 2)) ∙ between_same (step_at z 0)
  where
    none : (k : ℕ) → min 0 k ≡ 0
    none k = omega arith

pub slope_last : (z : List ℤ) → 2 ≤ length z → slope_at z (length z - 1) ≡ step_at z (length z - 2)
unfolding slope_at
slope_last z h =
    ap (λ (m : ℕ). between (step_at z m) (step_at z (min (length z - 1) (length z - 2)))) (first (length z) h)
    ∙ ap (λ (m : ℕ). between (step_at z (length z - 2)) (step_at z m)) (second (length z) h)
    ∙ between_same (step_at z (length z - 2))
  where
    first : (n : ℕ) → 2 ≤ n → n - 1 - 1 ≡ n - 2
    first n h = omega arith

    second : (n : ℕ) → 2 ≤ n → min (n - 1) (n - 2) ≡ n - 2
    second n h = omega arith

-- ---- a segment's four knots: the two rows and their slopes
module _ (z : List ℤ) (s : ℕ) (h : suc s < length z) where
  abbrev pub four : List ℤ
  four = drop (s * 2) (table_of z)

  pub four_0 : at four 0 ≡ get_or z s (pos 0)
  four_0 = get_or-drop (s * 2) (table_of z) 0 (pos 0) ∙ row_at z s (s * 2 + 0) (omega arith) (omega arith)

  pub four_1 : at four 1 ≡ slope_at z s
  four_1 = get_or-drop (s * 2) (table_of z) 1 (pos 0) ∙ slope_at_lem z s (s * 2 + 1) (omega arith) (omega arith)

  pub four_2 : at four 2 ≡ get_or z (suc s) (pos 0)
  four_2 = get_or-drop (s * 2) (table_of z) 2 (pos 0) ∙ row_at z (suc s) (s * 2 + 2) (omega arith) (omega arith)

  pub four_3 : at four 3 ≡ slope_at z (suc s)
  four_3 = get_or-drop (s * 2) (table_of z) 3 (pos 0) ∙ slope_at_lem z (suc s) (s * 2 + 3) (omega arith) (omega arith)

  abbrev x : ℤ
  x = get_or z s (pos 0)

  abbrev y : ℤ
  y = get_or z (suc s) (pos 0)

  moved : {a b : ℤ} → a ≡ b → Is a (up b) (down b)
  moved {a} {b} e = subst (λ (v : ℤ). Is v (up b) (down b)) (sym e) (itself b)

  pub starts_at : (n : ℕ) → curve_at Hermite (table_of z) s n 0 ≡ x *ℤ pos (n * n * n)
  unfolding curve_at coefficient
  starts_at n =
      alike
      (value_is (up x) (down x) (up (slope_at z s)) (down (slope_at z s)) (up y) (down y) (up (slope_at z (suc s))) (down (slope_at z (suc s))) four
      (moved four_0)
      (moved four_1) (moved four_2) (moved four_3)
      (whole_of Hermite) n 0)
      (times (n * n * n) (itself x))
      (omega arith)

  pub ends_at : (n : ℕ) → curve_at Hermite (table_of z) s n n ≡ y *ℤ pos (n * n * n)
  unfolding curve_at coefficient
  ends_at n =
      alike
      (value_is (up x) (down x) (up (slope_at z s)) (down (slope_at z s)) (up y) (down y) (up (slope_at z (suc s))) (down (slope_at z (suc s))) four
      (moved four_0)
      (moved four_1) (moved four_2) (moved four_3)
      (whole_of Hermite) n n)
      (times (n * n * n) (itself y))
      (omega arith)
