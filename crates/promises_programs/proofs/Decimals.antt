-- The printer of decimals: however its input is cut, what its calls write is what the whole of it prints. Assumes nothing.
use mathlib.Core.Path.{◌≡◌, refl, ap, ◌∙◌}
use mathlib.Core.List.{List, [], ◌∷◌, ◌++◌}
use Prim.Native.Nat.{ℕ}
use lib.ListN.{take}
use Rattle.decimals.specs.declared.Decimals.{Decimals}
use Rattle.decimals.specs.Decimals.{shown_line, decimals_program}
use Rattle.lines_machine.specs.Program.{Line, lines_of, line_of, prints_of, output_of}
use Rattle.lines_machine.specs.Bytes.{state_at}
use Rattle.lines_machine.specs.Contract.{So}
use Rattle.lines_machine.proofs.Feeding.{so_none, so_fed, so_ended}
use Rattle.decimals.proofs.DecimalsMachine.begin.Reads as begin
use Rattle.decimals.proofs.DecimalsMachine.feed.Reads as feed
use Rattle.decimals.proofs.DecimalsMachine.finish.Reads as finish
use Rattle.calls.specs.Calls.{OneReply}
use Rattle.promises_programs.proofs.There.{one, wrote_one, fed_one}

-- its calls one after another, each as its contract tells: of the input the bytes x were taken, and the bytes w written
pub data DecimalsSoFar : Decimals → Line → List ℕ → List ℕ → Type 0 where
  begun : (s : Decimals) (κs : _) (a : _) (o : _) (e : _) → begin.Learnt κs a o e → DecimalsSoFar s o [] []
  fed : (κs : _) (a : _) (z : _) (e : _) → feed.Learnt κs a z e → (x w : List ℕ) → DecimalsSoFar a.0.now a.1.0.now x w
      → DecimalsSoFar e.0.now e.1.0.now (x ++ take z.bytes a.1.1.0.now) (w ++ take z.at e.1.1.1.0.now)

-- a whole run: the input is x, and all that the calls wrote, once the last has returned, is y
pub data DecimalsRun : List ℕ → List ℕ → Type 0 where
  ended : (κs : _) (a : _) (z : _) (e : _) → finish.Learnt κs a z e → (x w : List ℕ) → DecimalsSoFar a.0.now a.1.0.now x w
      → DecimalsRun x (w ++ take z e.1.1.0.now)

so_far : (s : Decimals) (o : Line) (x w : List ℕ) → DecimalsSoFar s o x w → So decimals_program tt (state_at o (tt)) x w
so_far s o x w (begun t κs a z e p) = rw p (so_none decimals_program tt)
so_far s o x w (fed κs a z e p y v r) = so_fed decimals_program (so_far _ _ y v r) p.0

-- however the input is cut
pub decimals_writes : (x y : List ℕ) → DecimalsRun x y → y ≡ output_of decimals_program tt x
decimals_writes x y (ended κs a z e p v w r) = so_ended decimals_program (so_far _ _ v w r) p.0

-- ---- no second reply
pub decimals_begin_one_reply : OneReply begin.Learnt (λ κs z e z' e'. z ≡ z')
decimals_begin_one_reply κs a z z' e e' p q = one p q

-- where two runs take as many bytes of the chunk; how many that are is left to the room in `out`
pub decimals_feed_one_reply : OneReply feed.Learnt
    (λ κs z e z' e'. z.bytes ≡ z'.bytes
    → (z.at ≡ z'.at) × (e.1.1.1.0.now ≡ e'.1.1.1.0.now)
    × (state_at e.1.0.now (tt {0}) ≡ state_at e'.1.0.now (tt {0})))
decimals_feed_one_reply κs a z z' e e' p q n = fed_one decimals_program (ap (λ (i : ℕ). take i a.1.1.0.now) n) p.0 q.0

pub decimals_finish_one_reply : OneReply finish.Learnt (λ κs z e z' e'. (z ≡ z') × (e.1.1.0.now ≡ e'.1.1.0.now))
decimals_finish_one_reply κs a z z' e e' p q = wrote_one p.0 q.0

-- ---- bytes in, bytes out: each line with decimals for its patterns, in order
unfoldable pub shown_lines : List (List ℕ) → List ℕ
shown_lines [] = []
shown_lines (l ∷ ls) = shown_line (line_of l) ++ shown_lines ls

each_shown : (ls : List (List ℕ)) → prints_of decimals_program tt ls ≡ shown_lines ls
unfolding prints_of shown_lines
each_shown [] = refl
each_shown (l ∷ ls) = ap (λ (w : List ℕ). shown_line (line_of l) ++ w) (each_shown ls)

pub decimals_shown : (x y : List ℕ) → DecimalsRun x y → y ≡ shown_lines (lines_of x)
unfolding output_of
decimals_shown x y r = decimals_writes x y r ∙ each_shown (lines_of x)
