-- The comparison of two tables: however its input is cut, what its calls write is what the whole of it prints. Assumes nothing.
use mathlib.Core.Path.{◌≡◌, ap, ◌∙◌}
use mathlib.Core.List.{List, [], ◌∷◌, ◌++◌}
use Prim.Native.Nat.{ℕ}
use lib.ListN.{take, length}
use Rattle.table_span.specs.declared.Table.{Table}
use Rattle.text.specs.Text.{bytes}
use Rattle.compare.specs.Comparison.{comparison_text}
use Rattle.compare.specs.Printed.{rebuilt_table}
use Rattle.compare_lines.specs.declared.Comparisons.{Comparisons}
use Rattle.compare_lines.specs.Listings.{none, on, before, compare_program}
use Rattle.compare_lines.specs.Contract.{both_of}
use Rattle.compare_lines.specs.Inputs.{listed, NoOther, Heard}
use Rattle.compare_lines.proofs.Inputs.{prints_comparison}
use Rattle.compare_lines.proofs.Refusals.{any_rebuilds}
use Rattle.lines_machine.specs.Program.{Line, lines_of, output_of, so}
use Rattle.lines_machine.specs.Bytes.{state_at}
use Rattle.lines_machine.specs.Contract.{So}
use Rattle.lines_machine.proofs.Feeding.{so_none, so_fed, so_ended}
use Rattle.compare_lines.proofs.Comparisons.new.Reads as new
use Rattle.compare_lines.proofs.ComparisonsMachine.begin.Reads as begin
use Rattle.compare_lines.proofs.ComparisonsMachine.feed.Reads as feed
use Rattle.compare_lines.proofs.ComparisonsMachine.finish.Reads as finish
use Rattle.calls.specs.Calls.{OneReply}
use Rattle.promises_programs.proofs.There.{one, wrote_one, fed_one}

-- its calls one after another, each as its contract tells: of the input the bytes x were taken, and the bytes w written
pub data CompareSoFar : Comparisons → Line → List ℕ → List ℕ → Type 0 where
  begun : (s : Comparisons) (o : Line) → both_of s.held s.old s.new ≡ before none → o ≡ so [] → CompareSoFar s o [] []
  fed : (κs : _) (a : _) (z : _) (e : _) → feed.Learnt κs a z e → (x w : List ℕ) → CompareSoFar a.0.now a.1.0.now x w
      → CompareSoFar e.0.now e.1.0.now (x ++ take z.bytes a.1.1.0.now) (w ++ take z.at e.1.1.1.0.now)

-- so begin the calls that make one
pub compare_begun : (κs : _) (a : _) (z : _) (e : _) → new.Learnt κs a z e
    → (κs' : _) (a' : _) (o : _) (e' : _) → begin.Learnt κs' a' o e' → CompareSoFar z o [] []
compare_begun κs a z e p κs' a' o e' q = begun z o p q

-- a whole run: the input is x, and all that the calls wrote, once the last has returned, is y
pub data CompareRun : List ℕ → List ℕ → Type 0 where
  ended : (κs : _) (a : _) (z : _) (e : _) → finish.Learnt κs a z e → (x w : List ℕ) → CompareSoFar a.0.now a.1.0.now x w
      → CompareRun x (w ++ take z e.1.1.0.now)

so_far : (s : Comparisons) (o : Line) (x w : List ℕ) → CompareSoFar s o x w → So compare_program (before none) (state_at o (both_of s.held s.old s.new)) x w
so_far s o x w (begun t l p q) = rw (p, q) (so_none compare_program (before none))
so_far s o x w (fed κs a z e p y v r) = so_fed compare_program (so_far _ _ y v r) p.0

-- however the input is cut
pub compare_writes : (x y : List ℕ) → CompareRun x y → y ≡ output_of compare_program (before none) x
compare_writes x y (ended κs a z e p v w r) = so_ended compare_program (so_far _ _ v w r) p.0

-- ---- no second reply
pub compare_begin_one_reply : OneReply new.Learnt (λ κs z e z' e'. both_of z.held z.old z.new ≡ both_of z'.held z'.old z'.new)
    × OneReply begin.Learnt (λ κs z e z' e'. z ≡ z')
compare_begin_one_reply = ((λ κs a z z' e e' p q. one p q), (λ κs a z z' e e' p q. one p q))

-- where two runs take as many bytes of the chunk; how many that are is left to the room in `out`
pub compare_feed_one_reply : OneReply feed.Learnt
    (λ κs z e z' e'. z.bytes ≡ z'.bytes
    → (z.at ≡ z'.at) × (e.1.1.1.0.now ≡ e'.1.1.1.0.now)
    × (state_at e.1.0.now (both_of e.0.now.held e.0.now.old e.0.now.new) ≡ state_at e'.1.0.now (both_of e'.0.now.held e'.0.now.old e'.0.now.new)))
compare_feed_one_reply κs a z z' e e' p q n = fed_one compare_program (ap (λ (i : ℕ). take i a.1.1.0.now) n) p.0 q.0

pub compare_finish_one_reply : OneReply finish.Learnt (λ κs z e z' e'. (z ≡ z') × (e.1.1.0.now ≡ e'.1.1.0.now))
compare_finish_one_reply κs a z z' e e' p q = wrote_one p.0 q.0

-- ---- bytes in, bytes out
module _ (x y : List ℕ) (r : CompareRun x y) (xs ys : List (List ℕ)) (t : Table) (ks : List ℕ) (u : Table) (ls : List ℕ)
    (e : lines_of x ≡ xs ++ (bytes "other" ∷ ys)) (p : listed none xs ≡ on t ks) (q : listed none ys ≡ on u ls) where
  -- two listings: the comparison of their tables is written, where no line is refused
  pub comparison_written : Heard none xs → Heard none ys → y ≡ comparison_text t ks u ls
  comparison_written h g = compare_writes x y r ∙ prints_comparison x xs ys t ks u ls e h g p q

  -- the second table is rebuilt from the first's knots, its own basis, span and length, and the bytes written, whatever is refused
  pub rebuilt_from_written : NoOther xs → rebuilt_table ks u.basis u.span (length ls) y ≡ (u, ls)
  rebuilt_from_written h = ap (rebuilt_table ks u.basis u.span (length ls)) (compare_writes x y r) ∙ any_rebuilds x xs ys t ks u ls e h p q
