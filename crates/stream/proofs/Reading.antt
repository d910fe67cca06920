-- Reads one after another: the bytes of each follow those of the reads before it. Assumes nothing.
use mathlib.Core.Path.{◌≡◌, refl, sym, ap, ◌∙◌}
use mathlib.Core.List.{List, [], ◌++◌}
use Prim.Native.Nat.{ℕ}
use Rattle.lines_machine.specs.Program.{Program}
use Rattle.lines_machine.specs.Bytes.{State, ran_of}
use Rattle.lines_machine.proofs.Whole.{ran_append}
use Rattle.stream.specs.Stream.{Reached}

module _ {S : Type 0} (P : Program S) where
  pub reached_at_once : (s : State S) → Reached P s s
  unfolding ran_of
  reached_at_once s = record { bytes = []; ran = refl }

  pub reached_on : {s t u : State S} (x : List ℕ) → Reached P s t → u ≡ ran_of P t x → Reached P s u
  reached_on {s} {t} {u} x r e = record {
    bytes = r.bytes ++ x;
    ran = e ∙ ap (λ (a : State S). ran_of P a x) r.ran ∙ sym (ran_append P s r.bytes x);
  }
