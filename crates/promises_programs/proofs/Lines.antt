-- The line program: however its input is cut, what its calls write is what the whole of it prints. Assumes nothing.
use mathlib.Core.Path.{◌≡◌, ap, ◌∙◌}
use mathlib.Core.List.{List, [], ◌∷◌, ◌++◌}
use Prim.Native.Nat.{ℕ}
use lib.ListN.{take}
use lib.Ieee.{Float}
use Rattle.lines_answer.specs.Answer.{none}
use Rattle.lines.specs.declared.Lines.{Lines}
use Rattle.lines.specs.Lines.{line_program}
use Rattle.lines_answer.specs.Contract.{curve_of}
use Rattle.lines_machine.specs.Program.{Line, lines_of, line_of, prints_of, output_of, so}
use Rattle.lines_machine.specs.Bytes.{state_at}
use Rattle.lines_machine.specs.Contract.{So}
use Rattle.lines_machine.proofs.Feeding.{so_none, so_fed, so_ended}
use Rattle.lines.proofs.Lines.new.Reads as new
use Rattle.lines.proofs.LinesMachine.begin.Reads as begin
use Rattle.lines.proofs.LinesMachine.feed.Reads as feed
use Rattle.lines.proofs.LinesMachine.finish.Reads as finish
use Rattle.calls.specs.Calls.{OneReply}
use Rattle.promises_programs.proofs.There.{state_after, printed_by, printed_there, one, wrote_one, fed_one}

-- its calls one after another, each as its contract tells: of the input the bytes x were taken, and the bytes w written
pub data LinesSoFar : Lines → Line → List ℕ → List ℕ → Type 0 where
  begun : (s : Lines) (o : Line) → curve_of s.held s.table ≡ none → o ≡ so [] → LinesSoFar s o [] []
  fed : (κs : _) (a : _) (z : _) (e : _) → feed.Learnt κs a z e → (x w : List ℕ) → LinesSoFar a.0.now a.1.0.now x w
      → LinesSoFar e.0.now e.1.0.now (x ++ take z.bytes a.1.1.0.now) (w ++ take z.at e.1.1.1.0.now)

-- so begin the calls that make one
pub lines_begun : (κs : _) (a : _) (z : _) (e : _) → new.Learnt κs a z e
    → (κs' : _) (a' : _) (o : _) (e' : _) → begin.Learnt κs' a' o e' → LinesSoFar z o [] []
lines_begun κs a z e p κs' a' o e' q = begun z o p q

-- a whole run: the input is x, and all that the calls wrote, once the last has returned, is y
pub data LinesRun : List ℕ → List ℕ → Type 0 where
  ended : (κs : _) (a : _) (z : _) (e : _) → finish.Learnt κs a z e → (x w : List ℕ) → LinesSoFar a.0.now a.1.0.now x w
      → LinesRun x (w ++ take z e.1.1.0.now)

so_far : (s : Lines) (o : Line) (x w : List ℕ) → LinesSoFar s o x w → So line_program none (state_at o (curve_of s.held s.table)) x w
so_far s o x w (begun t l p q) = rw (p, q) (so_none line_program none)
so_far s o x w (fed κs a z e p y v r) = so_fed line_program (so_far _ _ y v r) p.0

-- however the input is cut
pub lines_writes : (x y : List ℕ) → LinesRun x y → y ≡ output_of line_program none x
lines_writes x y (ended κs a z e p v w r) = so_ended line_program (so_far _ _ v w r) p.0

-- ---- no second reply
pub lines_begin_one_reply : OneReply new.Learnt (λ κs z e z' e'. curve_of z.held z.table ≡ curve_of z'.held z'.table)
    × OneReply begin.Learnt (λ κs z e z' e'. z ≡ z')
lines_begin_one_reply = ((λ κs a z z' e e' p q. one p q), (λ κs a z z' e e' p q. one p q))

-- where two runs take as many bytes of the chunk; how many that are is left to the room in `out`
pub lines_feed_one_reply : OneReply feed.Learnt
    (λ κs z e z' e'. z.bytes ≡ z'.bytes
    → (z.at ≡ z'.at) × (e.1.1.1.0.now ≡ e'.1.1.1.0.now)
    × (state_at e.1.0.now (curve_of e.0.now.held e.0.now.table) ≡ state_at e'.1.0.now (curve_of e'.0.now.held e'.0.now.table)))
lines_feed_one_reply κs a z z' e e' p q n = fed_one line_program (ap (λ (i : ℕ). take i a.1.1.0.now) n) p.0 q.0

pub lines_finish_one_reply : OneReply finish.Learnt (λ κs z e z' e'. (z ≡ z') × (e.1.1.0.now ≡ e'.1.1.0.now))
lines_finish_one_reply κs a z z' e e' p q = wrote_one p.0 q.0

-- ---- bytes in, bytes out: where a line stands in the input, there its reply stands in what was written
pub lines_reply_there : (x y : List ℕ) → LinesRun x y → (ls : List (List ℕ)) (l : List ℕ) (ms : List (List ℕ)) → lines_of x ≡ ls ++ (l ∷ ms)
    → y
    ≡ printed_by line_program none ls ++ (line_program.tells (state_after line_program none ls) (line_of l)
    ++ prints_of line_program (line_program.after (state_after line_program none ls) (line_of l)) ms)
lines_reply_there x y r ls l ms e = lines_writes x y r ∙ printed_there line_program none x ls l ms e
