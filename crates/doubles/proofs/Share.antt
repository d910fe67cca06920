-- (s + x) × (1/k), each operation rounded, lies in 0 to 1, for whole numbers s < k up to 4093 and x in 0 to 1. Assumes nothing.
use Rattle.std.proofs.Common.{
  ◌≡◌,
  ℕ,
  suc,
  ◌+◌,
  ◌*◌,
  ◌^◌,
  ◌<◌,
  ◌≤◌,
  true,
  false,
  T,
  pos,
  refl,
  le_trans,
  le_of_eq,
  lt_of_le_of_lt,
  mul-le-mul_right,
  mul_assoc,
  suc-mul,
  mul_comm,
  mul-le-mul_left,
  mul-pos,
  mul_left_comm,
  arith,
  lit<,
  lit≤,
  leb→le,
  pow_pos,
}
use lib.Ieee.{Float, nan, inf, fin, binary64, low, up, down, add, mul, div, lt, le, of_int, round}
use lib.Ieee.Fits.{down_pos}
use lib.Ieee.Exact.{HasValue}
use lib.Ieee.Order.{round_mono}
use lib.Ieee.Scale.{grid, overflow, round_val, round_under}
use Rattle.doubles.specs.Numbers.{one}
use Rattle.doubles.proofs.Rounding.{Short, grid_short_le}
use Rattle.doubles.proofs.Bounds.{Within, InOne, within_finite, round_size}
use Rattle.doubles.proofs.Units.{clear, InUnit, units_of, whole_at, add_at, mul_at, clear_of, in_order, nought_le}
use Rattle.doubles.proofs.Order.{le_trans_float}
use Rattle.doubles.proofs.Reciprocal.{fair, is_fair}

room : (s k c u : ℕ) → s < k → u ≤ c → s * c + u ≤ k * c
room s k c u h l =
    let e : suc s * c ≡ s * c + c = suc-mul s c in
    le_trans {m = suc s * c} (omega arith) (mul-le-mul_right c h)

-- s + x is at most s + 1, as rounded
record Sum (z : Float) (k : ℕ) : Type 0 where
  r : ℕ
  is : HasValue z false r (2 ^ low binary64)
  most : r ≤ k * 2 ^ low binary64

summed : (k s : ℕ) (x : Float) → s < k → k ≤ 4096 → InUnit x → Sum (add binary64 (of_int binary64 (pos s)) x) k
unfolding lt le
summed k s x h l u =
    let f = binary64 in
    let c = 2 ^ low f in
    let U = units_of f x u.held u.sign in
    let top : U.h ≤ c = in_order f x one U.h c U.is (refl, refl) u.top in
    let a = s * c + U.h in
    let A : a ≤ k * c = room s k c U.h h top in
    let q : Short f (k * c) = record { q = k; j = low f; short = lt_of_le_of_lt l (lit< tt); whole = refl } in
    let g : grid f a c ≤ k * c = grid_short_le f a c (k * c) (pow_pos (low f)) q (mul-le-mul_right c A) in
    let fine : k * c < overflow f = lt_of_le_of_lt (mul-le-mul_right c l) (lit< tt) in
    record {
      r = grid f a c;
      is = rw (add_at f (of_int f (pos s)) x (s * c) U.h (whole_at s (omega arith)) U.is) (round_val f a c (lt_of_le_of_lt g fine));
      most = g;
    }

nearly : T (le (round binary64 false (2 ^ 53 + 1) (2 ^ 53)) one)
unfolding le lt round
nearly = tt

-- the product with a double v that is fair for k
under_one : (k : ℕ) (z v : Float) → Sum z k → T (fair k v) → T (clear (mul binary64 z v)) × T (le (mul binary64 z v) one)
under_one k z nan S h = absurd h
under_one k z (inf s) S h = absurd h
under_one k z (fin true n d) S h = absurd h
under_one k z (fin false n d) S h =
    let f = binary64 in
    let c = 2 ^ low f in
    let a = S.r * (n * up d) in
    let b = c * down d in
    let B : 0 < b = mul-pos (pow_pos (low f)) (down_pos d) in
    let w : k * (n * up d) * 2 ^ 53 ≤ (2 ^ 53 + 1) * down d = leb→le (k * (n * up d) * 2 ^ 53) ((2 ^ 53 + 1) * down d) h in
    let A : a * 2 ^ 53 ≤ (2 ^ 53 + 1) * b = cross S.r (n * up d) (2 ^ 53) k c (2 ^ 53 + 1) (down d) S.most w in
    let e : mul f z (fin false n d) ≡ round f false a b = mul_at f z n d S.r S.is in
    let o : T (le (mul f z (fin false n d)) one) =
    rw e (le_trans_float (round f false a b) (round f false (2 ^ 53 + 1) (2 ^ 53)) one (round_mono f a b (2 ^ 53 + 1) (2 ^ 53) B (pow_pos 53) A) nearly)
    in
    let s : Within 1 (round f false a b) = record { held = round_size f false a b 1 B (lit≤ tt) (twice a b A) } in
    let v : HasValue (round f false a b) false (grid f a b) c = round_val f a b (round_under f a b (within_finite s)) in
    (rw e (clear_of (round f false a b) (grid f a b) c v), o)
  where
    twice : (a b : ℕ) → a * 2 ^ 53 ≤ (2 ^ 53 + 1) * b → a ≤ 2 ^ 1 * b
    twice a b h = omega arith

    cross : (r n p k c q d : ℕ) → r ≤ k * c → k * n * p ≤ q * d → r * n * p ≤ q * (c * d)
    cross r n p k c q d R h =
        le_trans (mul-le-mul_right p (mul-le-mul_right n R))
        (le_trans (le_of_eq (simp (mul_assoc, mul_comm, mul_left_comm)))
        (le_trans (mul-le-mul_left c h) (le_of_eq (mul_left_comm c q d))))

pub share_in : (k s : ℕ) (x : Float) → s < k → k ≤ 4093 → InUnit x
    → InOne (mul binary64 (add binary64 (of_int binary64 (pos s)) x) (div binary64 one (of_int binary64 (pos k))))
share_in k s x h l u =
    let r = under_one k _ _ (summed k s x h (omega arith) u) (is_fair k (omega arith) l) in
    record { low = nought_le _ r.0; high = r.1 }
