-- Invariant: none before j is the same, so that the first from there on is the first of all.
use mathlib.Core.Path.{◌≡◌}
use mathlib.Core.List.{[]}
use Prim.Native.Nat.{◌-◌}
use lib.ListN.{get_or}
use Rattle.ask_sheet.specs.Contract.{labels_to}
use Rattle.ask_verdict.specs.Faults.{same_from, first_same}
use Rattle.ask_verdict.proofs.first_same.Given as goal

abbrev pub invariant-loop-j : goal.invariant-loop-j
invariant-loop-j l = same_from (labels_to l.labels l.n) (get_or (labels_to l.labels l.n) l.i []) l.j (l.i - l.j) ≡ first_same (labels_to l.labels l.n) l.i
