-- The laws by which texts are put together in a lent slice. Assumes nothing.
use mathlib.Core.Path.{◌≡◌, refl, sym, ap, ◌∙◌}
use mathlib.Core.List.{List, [], ◌++◌, append_assoc, append-nil}
use Prim.Native.Nat.{ℕ, ◌+◌}
use native.Mathlib.Nat.{add-zero}
use native.Mathlib.Omega.{arith}
use lib.ListN.{length, take, drop, length-append}
use lib.Seq.{drop-drop}
use Rattle.text.specs.Wrote.{Wrote}

pub nothing : (o : List ℕ) (at : ℕ) → Wrote o at [] o at
nothing o at = record { next = sym (add-zero at); long = refl; front = sym (append-nil (take at o)); back = refl }

pub then : {o o₁ o₂ t t₂ : List ℕ} {at a₁ a₂ : ℕ} → Wrote o at t o₁ a₁ → Wrote o₁ a₁ t₂ o₂ a₂ → Wrote o at (t ++ t₂) o₂ a₂
then {o} {o₁} {o₂} {t} {t₂} {at} {a₁} {a₂} u v = record {
  next = simp length-append (omega arith);
  long = v.long ∙ u.long;
  front = v.front ∙ ap (λ (l : List ℕ). l ++ t₂) u.front ∙ append_assoc (take at o) t t₂;
  back = v.back ∙ deeper;
}
  where
    deeper : drop a₂ o₁ ≡ drop a₂ o
    deeper = rw (v.next, ← drop-drop (length t₂) a₁ o₁, ← drop-drop (length t₂) a₁ o) (ap (drop (length t₂)) u.back)
