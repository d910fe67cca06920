-- The invariant: the pairs of the rows until i stand at the front, and behind them the slice is as it was lent. Assumes nothing.
use mathlib.Core.Path.{◌≡◌, sym, ap, ◌∙◌}
use mathlib.Core.List.{List, ◌++◌}
use Prim.Native.Nat.{ℕ, ◌*◌}
use native.Mathlib.Omega.{arith}
use lib.Dec.{lit<}
use lib.IntN.{ℤ}
use lib.ListN.{length, drop}
use Rattle.whole.specs.Held.{held, held_all}
use Rattle.whole.proofs.Held.{knot, long}
use Rattle.monotone.specs.Slope.{slope_at}
use Rattle.monotone.specs.Table.{pairs}
use Rattle.whole.proofs.Held.{back}
use Rattle.monotone.proofs.Sizes.{slope_le}
use Rattle.monotone.proofs.Pairs.{none_written, next_pair}
use Rattle.monotone.proofs.fill.Goals as goal

pub loop-i-init : goal.loop-i-init
loop-i-init c = sym (none_written (held_all c.args.rows.now) c.args.out.now)

pub loop-i-preserved : goal.loop-i-preserved
loop-i-preserved c = let l = c.loop-i in
    let ks = c.args.rows.now in
    next_pair (held_all ks) c.args.out.now l.out l.i _ _ (omega arith) l.invariant (sym (knot ks l.i))
    (ap held c.slope_at.ensures ∙ back (slope_at (held_all ks) l.i) 1000000000000
    (slope_le (held_all ks) c.requires.small (omega (arith, long ks)) l.i (omega (arith, long ks))) (lit< tt))

pub returns : goal.returns
returns c = let l = c.loop-i in
    let a = c.args in
    let ks = a.rows.now in
    let e : l.i ≡ length ks = omega arith in
    l.invariant ∙ all (held_all ks) a.out.now (e ∙ sym (long ks)) e
  where
    all : (z out : List ℤ) {i k m : ℕ} → i ≡ k → i ≡ m → pairs z 0 i ++ drop (2 * i) out ≡ pairs z 0 k ++ drop (2 * m) out
    all z out {i} {k} {m} p q = ap (λ (n : ℕ). pairs z 0 n ++ drop (2 * i) out) p ∙ ap (λ (n : ℕ). pairs z 0 k ++ drop (2 * n) out) q
