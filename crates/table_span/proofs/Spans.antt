-- Which spans are good, and what is told without one: the length's refusal, or 14. Assumes nothing.
use Rattle.std.specs.Prelude.{Ok, Err}
use mathlib.Core.Path.{◌≡◌, refl, sym, ◌∙◌}
use mathlib.Core.Bool.{Bool, true, false, not}
use mathlib.Core.List.{[], ◌∷◌}
use Prim.Native.Nat.{ℕ, ◌≤◌}
use native.Mathlib.Omega.{arith}
use borrow.Author.Tests.{leb-true, le-leb, lt-leb}
use lib.Dec.{leb, ltb}
use Rattle.basis.specs.declared.Basis.{Basis}
use Rattle.basis.specs.Basis.{regular}
use Rattle.error.specs.declared.Refusal.{Refusal}
use Rattle.error.specs.declared.Refusal.TheVariants.{TooFew, BadPattern, TooMany, BadSpan}
use Rattle.error.specs.Refusals.{first, Verdict}
use Rattle.error.proofs.First.{never}
use Rattle.checks.specs.Checks.{curve_length}
use Rattle.table_span.specs.Second.{day, good_span}

-- ---- a good span
pub good_least : (s : ℕ) → good_span s ≡ true → (1 ≤ s) × (s ≤ day)
good_least s e = go (leb 1 s) refl (leb s day) refl e
  where
    go : (p : Bool) → leb 1 s ≡ p → (q : Bool) → leb s day ≡ q → good_span s ≡ true → (1 ≤ s) × (s ≤ day)
    go true e true f h = (leb-true 1 s e, leb-true s day f)
    go true e false f h = let z : false ≡ true = rw (e, f) at h in never (cc)
    go false e q f h = let z : false ≡ true = rw e at h in never (cc)

pub least_good : (s : ℕ) → 1 ≤ s → s ≤ day → good_span s ≡ true
least_good s h k = rw (le-leb 1 s h, le-leb s day k) refl

pub short_bad : (s : ℕ) → s ≤ 0 → good_span s ≡ false
short_bad s h = rw (lt-leb 1 s (omega arith)) refl

-- what `without_span` answers
module _ (b : Basis) (n : ℕ) where
  pub by_length : {v : Verdict} (r : Refusal) → v ≡ first (curve_length b n) → v ≡ Err r → Err r ≡ first ((BadSpan, true) ∷ curve_length b n)
  by_length {v} r p q = go (ltb n 4) (regular b n) (ltb 4096 n) (sym q ∙ p)
    where
      go : (few whole many : Bool) → Err r ≡ first ((TooFew, few) ∷ (BadPattern, not whole) ∷ (TooMany, many) ∷ [])
          → Err r ≡ first ((BadSpan, true) ∷ (TooFew, few) ∷ (BadPattern, not whole) ∷ (TooMany, many) ∷ [])
      go true whole many h = h
      go false false many h = h
      go false true true h = h
      go false true false h = never (cc)

  pub by_span : {v : Verdict} → v ≡ first (curve_length b n) → v ≡ Ok tt → Err BadSpan ≡ first ((BadSpan, true) ∷ curve_length b n)
  by_span {v} p q = go (ltb n 4) (regular b n) (ltb 4096 n) (sym q ∙ p)
    where
      go : (few whole many : Bool) → Ok tt ≡ first ((TooFew, few) ∷ (BadPattern, not whole) ∷ (TooMany, many) ∷ [])
          → Err BadSpan ≡ first ((BadSpan, true) ∷ (TooFew, few) ∷ (BadPattern, not whole) ∷ (TooMany, many) ∷ [])
      go true whole many h = never (cc)
      go false false many h = never (cc)
      go false true true h = never (cc)
      go false true false h = refl
