-- What the table's curve promises: between two rows it never goes against them; over rows in order it keeps their direction throughout. Assumes nothing.
use Rattle.turns_back.specs.declared.Turning.TheVariants.{Never}
use Rattle.std.specs.Prelude.{Ok, Err}
use mathlib.Core.Path.{◌≡◌, refl, sym, ap, ◌∙◌, subst}
use mathlib.Core.Bool.{Bool, true, false}
use mathlib.Core.List.{List, ◌++◌}
use Prim.Native.Nat.{ℕ, zero, suc, ◌+◌, ◌-◌, ◌*◌, ◌/◌, ◌%◌, ◌≤◌, ◌<◌}
use native.Mathlib.Omega.{arith}
use lib.IntN.{ℤ, pos, nat_abs, ◌*ℤ◌}
use lib.ListN.{length, drop, get_or}
use lib.Signed.{◌≤ℤ◌}
use lib.Ieee.Fits.{and_r}
use borrow.Author.Tests.{le-ltb, eq-eqb}
use Rattle.error.specs.Refusals.{first, Verdict}
use Rattle.error.proofs.First.{never}
use Rattle.basis.specs.declared.Basis.TheVariants.{Hermite}
use Rattle.basis.specs.Basis.{segments_of}
use Rattle.checks.specs.Checks.{curve_length}
use Rattle.turns_back.specs.Curve.{cubic_never_falls, coefficient, curve_at, starts_no_lower, segment_never_falls}
use Rattle.turns_back.specs.Call as turning
use Rattle.whole.specs.Held.{turned, turned_all, Small}
use Rattle.turns_back.specs.Call.{turning_uses, turns_back_by_of}
use Rattle.turns_back.proofs.Segment.{rises}
use Rattle.turns_back.proofs.Everywhere.{NotAfter}
use Rattle.whole.proofs.Held.{turned_long, same_all, small_all}
use Rattle.turns_back.proofs.Verdicts.{passes}
use Rattle.turns_back.proofs.Answer as answer
use Rattle.turns_back.proofs.Answer.{before, in_order_everywhere}
use Rattle.turns_back.proofs.InOrder.{InOrder, back_order, turn_pair, none_turns}
use Rattle.monotone.specs.Table.{pairs, most, table_of, table_uses, made, left, made_of, left_of}
use Rattle.monotone.proofs.Sizes.{slope_within}
use Rattle.monotone.proofs.Pairs.{table_long}
use Rattle.monotone.proofs.Verdicts.{passed}
use Rattle.monotone.proofs.Through.{starts_at, ends_at}
use Rattle.monotone.proofs.Mirror.{table_turned}
use Rattle.monotone.proofs.Climbing as climbing

-- ---- signs changed
curve_turned : (t : Bool) (z : List ℤ) (s n j : ℕ) → curve_at Hermite (turned_all t z) s n j ≡ turned t (curve_at Hermite z s n j)
curve_turned true z s n j = ap (λ (l : List ℤ). curve_at Hermite l s n j) (same_all z)
curve_turned false z s n j = answer.curve_turned Hermite z s n j

-- ---- between two rows, whatever the others do
rises_within : (z : List ℤ) (s : ℕ) → suc s < length z → get_or z s (pos 0) ≤ℤ get_or z (suc s) (pos 0) → (n i j : ℕ) → i ≤ j → j ≤ n
    → curve_at Hermite (table_of z) s n i ≤ℤ curve_at Hermite (table_of z) s n j
unfolding segment_never_falls curve_at
rises_within z s h o n i j l m =
    let t = table_of z in
    let w0 = coefficient Hermite t s 0 in
    let w1 = coefficient Hermite t s 1 in
    let w2 = coefficient Hermite t s 2 in
    let w3 = coefficient Hermite t s 3 in
    rises w0 w1 w2 w3 (and_r (starts_no_lower Hermite t s) (cubic_never_falls w0 w1 w2) (climbing.climbs z s h o)) n i j l m

pub in_order_within : (t : Bool) (z : List ℤ) (s : ℕ) → suc s < length z → before t (get_or z s (pos 0)) (get_or z (suc s) (pos 0)) → (n i j : ℕ)
    → i ≤ j → j ≤ n
    → before t (curve_at Hermite (table_of z) s n i) (curve_at Hermite (table_of z) s n j)
in_order_within t z s h o n i j l m =
    let r = rises_within (turned_all t z) s (omega (arith, turned_long t z)) (turn_pair t z s (suc s) o) n i j l m in
    back_order t (curve_at Hermite (table_of z) s n i) (curve_at Hermite (table_of z) s n j)
    (rw (sym (curve_turned t (table_of z) s n i), sym (curve_turned t (table_of z) s n j), table_turned t z) r)

-- the curve stays between them
pub stays_between : (t : Bool) (z : List ℤ) (s : ℕ) → suc s < length z → before t (get_or z s (pos 0)) (get_or z (suc s) (pos 0)) → (n j : ℕ) → j ≤ n
    → before t (get_or z s (pos 0) *ℤ pos (n * n * n)) (curve_at Hermite (table_of z) s n j)
    × before t (curve_at Hermite (table_of z) s n j) (get_or z (suc s) (pos 0) *ℤ pos (n * n * n))
stays_between t z s h o n j l = (
  subst (λ (v : ℤ). before t v (curve_at Hermite (table_of z) s n j)) (starts_at z s h n) (in_order_within t z s h o n 0 j (omega arith) l),
  subst (λ (v : ℤ). before t (curve_at Hermite (table_of z) s n j) v) (ends_at z s h n) (in_order_within t z s h o n j n l (omega arith)),
)

-- ---- the whole curve over rows in order
-- every knot of the table is at most twice the largest row
pub knots_within : (z : List ℤ) (k : ℕ) → ((i : ℕ) → i < length z → nat_abs (get_or z i (pos 0)) ≤ k) → 2 ≤ length z
    → (c i : ℕ) → i + c ≤ length z → (n : ℕ) → n < length (pairs z i c) → nat_abs (get_or (pairs z i c) n (pos 0)) ≤ 2 * k
unfolding pairs
knots_within z k e m zero i h n l = absurd (omega arith)
knots_within z k e m (suc c) i h zero l = let s = e i (omega arith) in omega (arith, s)
knots_within z k e m (suc c) i h (suc zero) l = slope_within z k e m i (omega arith)
knots_within z k e m (suc c) i h (suc (suc n)) l = knots_within z k e m c (suc i) (omega arith) n (omega arith)

pub lengths_pass : (z : List ℤ) → 2 ≤ length z → length z ≤ 2048 → first (curve_length Hermite (length (table_of z))) ≡ Ok tt
lengths_pass z m f =
    rw (table_long z)
    (simp (le-ltb (2 * length z) 4 (omega arith), eq-eqb ((2 * length z - 4) % 2) 0 (even (length z) m), le-ltb 4096 (2 * length z) (omega arith)))
  where
    even : (n : ℕ) → 2 ≤ n → (2 * n - 4) % 2 ≡ 0
    even n h = omega arith

pub segments_are : (z : List ℤ) → 2 ≤ length z → segments_of Hermite (length (table_of z)) ≡ length z - 1
segments_are z m = ap (λ (n : ℕ). segments_of Hermite n) (table_long z) ∙ halves (length z) m
  where
    halves : (n : ℕ) → 2 ≤ n → (2 * n - 4) / 2 + 1 ≡ n - 1
    halves n h = omega arith

module _ (z : List ℤ) (m : 2 ≤ length z) (f : length z ≤ 2048) (s : Small most z) where
  table_passes : Ok tt ≡ first (turning_uses Hermite (table_of z))
  table_passes =
      passes Hermite (table_of z) {l = Ok tt} (sym (lengths_pass z m f)) refl
      (small_all turning.most (table_of z) (knots_within z most s.each m (length z) 0 (omega arith)))

  segments_of_lem : segments_of Hermite (length (table_of z)) ≡ length z - 1
  segments_of_lem = segments_are z m

  pub never_turns : (t : Bool) → InOrder t z → turns_back_by_of Hermite t (table_of z) ≡ Ok Never
  never_turns t o =
      none_turns Hermite t (table_of z) (sym table_passes)
      (λ i l. rw (table_turned t z) (climbing.climbs (turned_all t z) i (omega (arith, turned_long t z, segments_of_lem, l))
      (turn_pair t z i (suc i) (o.each i (omega (arith, segments_of_lem, l))))))

-- ---- of a call that wrote
told : (v : Verdict) (n k : ℕ) → made v n ≡ Ok k → v ≡ Ok tt
told (Ok _) n k e = refl
told (Err r) n k e = never (cc)

pub wrote_table : (z old : List ℤ) (k : ℕ) → made_of z (length old) ≡ Ok k → (k ≡ 2 * length z) × (left_of z old ≡ table_of z ++ drop (2 * length z) old)
unfolding made_of left_of
wrote_table z old k e = (
  count (first (table_uses z (length old))) (2 * length z) e,
  ap (λ (v : Verdict). left v (table_of z) old) (told (first (table_uses z (length old))) (2 * length z) k e)
      ∙ ap (λ (n : ℕ). table_of z ++ drop n old) (table_long z),
)
  where
    count : (v : Verdict) (n : ℕ) → made v n ≡ Ok k → k ≡ n
    count (Ok _) n e = cc
    count (Err r) n e = never (cc)

pub wrote_never_turns : (t : Bool) (z : List ℤ) (o k : ℕ) → made_of z o ≡ Ok k → InOrder t z → turns_back_by_of Hermite t (table_of z) ≡ Ok Never
unfolding made_of
wrote_never_turns t z o k e i = let p = passed z o (told (first (table_uses z o)) (2 * length z) k e) in never_turns z p.many p.few p.small t i

-- of two places the later is never on the wrong side of the earlier: the values, each multiplied by both numbers of parts, cubed
pub wrote_in_order : (t : Bool) (z : List ℤ) (o k : ℕ) → made_of z o ≡ Ok k → InOrder t z → (s n j s' n' j' : ℕ) → suc s' < length z
    → NotAfter s n j s' n' j'
    → before t (curve_at Hermite (table_of z) s n j *ℤ pos (n' * n' * n')) (curve_at Hermite (table_of z) s' n' j' *ℤ pos (n * n * n))
unfolding made_of
wrote_in_order t z o k e i s n j s' n' j' l a =
    let p = passed z o (told (first (table_uses z o)) (2 * length z) k e) in
    let g = segments_of_lem z p.many p.few p.small in
    in_order_everywhere Hermite t (table_of z) (never_turns z p.many p.few p.small t i) s n j s' n' j' (omega (arith, g)) a
