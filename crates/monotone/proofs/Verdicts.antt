-- The call, by the tests as the code makes them. Assumes nothing.
use Rattle.std.specs.Prelude.{Ok, Err}
use mathlib.Core.Path.{◌≡◌, sym, ap, ◌∙◌}
use mathlib.Core.List.{List, ◌++◌}
use Prim.Native.Nat.{ℕ, ◌*◌, ◌≤◌, ◌<◌}
use native.Mathlib.Omega.{arith}
use lib.IntN.{ℤ}
use lib.ListN.{length, drop}
use borrow.Author.Tests.{ltb-false, lt-ltb, le-ltb}
use Rattle.error.specs.declared.Refusal.{Refusal}
use Rattle.error.specs.declared.Refusal.TheVariants.{TooFew, TooMany, ShortBuffer, BadKnot}
use Rattle.error.specs.Refusals.{first, Verdict}
use Rattle.error.proofs.First.{clear}
use Rattle.whole.specs.Held.{first_large, Small}
use Rattle.monotone.specs.Table.{most, table_of, table_uses, made, left, made_of, left_of}
use Rattle.whole.proofs.Held.{all_small}
use Rattle.monotone.proofs.Pairs.{table_long}

-- ---- refusals
module _ (z : List ℤ) (o : ℕ) where
  pub too_few : length z < 2 → Err TooFew ≡ first (table_uses z o)
  too_few h = simp (lt-ltb (length z) 2 h)

  pub too_many : 2 ≤ length z → 2048 < length z → Err TooMany ≡ first (table_uses z o)
  too_many h k = simp (le-ltb (length z) 2 h, lt-ltb 2048 (length z) k)

  pub too_short : 2 ≤ length z → length z ≤ 2048 → o < 2 * length z → Err ShortBuffer ≡ first (table_uses z o)
  too_short h k l = simp (le-ltb (length z) 2 h, le-ltb 2048 (length z) k, lt-ltb o (2 * length z) l)

  pub too_large : 2 ≤ length z → length z ≤ 2048 → 2 * length z ≤ o → (i : ℕ) → i ≡ first_large most z → i < length z
      → Err (BadKnot i) ≡ first (table_uses z o)
  too_large h k l i e m =
      simp (le-ltb (length z) 2 h, le-ltb 2048 (length z) k, le-ltb o (2 * length z) l, lt-ltb (first_large most z) (length z) (omega (arith, e, m)))
      (ap (λ (n : ℕ). Err (BadKnot n)) e)

  pub passes : 2 ≤ length z → length z ≤ 2048 → 2 * length z ≤ o → length z ≤ first_large most z → Ok tt ≡ first (table_uses z o)
  passes h k l m = simp (le-ltb (length z) 2 h, le-ltb 2048 (length z) k, le-ltb o (2 * length z) l, le-ltb (first_large most z) (length z) m)

pub record Passing (z : List ℤ) (o : ℕ) : Type 0 where
  pub many : 2 ≤ length z
  pub few : length z ≤ 2048
  pub room : 2 * length z ≤ o
  pub small : Small most z

pub passed : (z : List ℤ) (o : ℕ) → first (table_uses z o) ≡ Ok tt → Passing z o
passed z o e =
    let c = clear (table_uses z o) e in
    record {
      many = ltb-false (length z) 2 (c 1);
      few = ltb-false 2048 (length z) (c 3);
      room = ltb-false o (2 * length z) (c 9);
      small = all_small most z (ltb-false (first_large most z) (length z) (c 4));
    }

-- ---- the answer, and what is left in the slice
module _ (z old : List ℤ) {v : Verdict} (e : v ≡ first (table_uses z (length old))) where
  pub refuses : {r : Refusal} → v ≡ Err r → (Err r ≡ made_of z (length old)) × (old ≡ left_of z old)
  unfolding made_of left_of
  refuses {r} h =
      let q : first (table_uses z (length old)) ≡ Err r = sym e ∙ h in
      (sym (ap (λ (w : Verdict). made w (2 * length z)) q), sym (ap (λ (w : Verdict). left w (table_of z) old) q))

  pub writes : v ≡ Ok tt → (n : ℕ) → n ≡ length z → (new : List ℤ) → new ≡ table_of z ++ drop (2 * n) old
      → (Ok (2 * n) ≡ made_of z (length old)) × (new ≡ left_of z old)
  unfolding made_of left_of
  writes h n l new w =
      let q : first (table_uses z (length old)) ≡ Ok tt = sym e ∙ h in
      let m : 2 * n ≡ length (table_of z) = omega (arith, l, table_long z) in (
        ap (λ (k : ℕ). Ok (2 * k)) l ∙ sym (ap (λ (w : Verdict). made w (2 * length z)) q),
        w ∙ ap (λ (k : ℕ). table_of z ++ drop k old) m ∙ sym (ap (λ (w : Verdict). left w (table_of z) old) q),
      )
