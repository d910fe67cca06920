-- The reader of sheets: however its input is cut, what its calls write is what the whole of it prints. Assumes nothing.
use mathlib.Core.Path.{◌≡◌, refl, ap, ◌∙◌}
use mathlib.Core.List.{List, [], ◌++◌}
use Prim.Native.Nat.{ℕ}
use lib.ListN.{take}
use lib.Ieee.{Float}
use native.Mathlib.Omega.{arith}
use Rattle.basis.specs.declared.Basis.{Basis}
use Rattle.lines_reply.specs.Reply.{curve, text_of}
use Rattle.lines_answer.specs.Answer.{Curve, on, bare}
use Rattle.lines_answer.proofs.Records.{ends_before}
use Rattle.lines.proofs.Replies.{curve_after}
use Rattle.lines.proofs.Again.{turn_again}
use Rattle.sheet.specs.declared.Sheets.{Sheets}
use Rattle.sheet.specs.Sheet.{unbegun, ends_of, sheet_program}
use Rattle.sheet.specs.Contract.{sheet_of}
use Rattle.sheet.proofs.Whole.{Admissible, admitted, printed_at_the_end, depths_fit}
use Rattle.lines_machine.specs.Program.{Line, lines_of, output_of, so}
use Rattle.lines_machine.specs.Bytes.{state_at}
use Rattle.lines_machine.specs.Contract.{So}
use Rattle.lines_machine.proofs.Feeding.{so_none, so_fed, so_ended}
use Rattle.sheet.proofs.Sheets.new.Reads as new
use Rattle.sheet.proofs.SheetsMachine.begin.Reads as begin
use Rattle.sheet.proofs.SheetsMachine.feed.Reads as feed
use Rattle.sheet.proofs.SheetsMachine.finish.Reads as finish
use Rattle.calls.specs.Calls.{OneReply}
use Rattle.promises_programs.proofs.There.{one, wrote_one, fed_one}

-- its calls one after another, each as its contract tells: of the input the bytes x were taken, and the bytes w written
pub data SheetSoFar : Sheets → Line → List ℕ → List ℕ → Type 0 where
  begun : (s : Sheets) (o : Line) → sheet_of s.held s.table ≡ unbegun → o ≡ so [] → SheetSoFar s o [] []
  fed : (κs : _) (a : _) (z : _) (e : _) → feed.Learnt κs a z e → (x w : List ℕ) → SheetSoFar a.0.now a.1.0.now x w
      → SheetSoFar e.0.now e.1.0.now (x ++ take z.bytes a.1.1.0.now) (w ++ take z.at e.1.1.1.0.now)

-- so begin the calls that make one
pub sheet_begun : (κs : _) (a : _) (z : _) (e : _) → new.Learnt κs a z e
    → (κs' : _) (a' : _) (o : _) (e' : _) → begin.Learnt κs' a' o e' → SheetSoFar z o [] []
sheet_begun κs a z e p κs' a' o e' q = begun z o p q

-- a whole run: the input is x, and all that the calls wrote, once the last has returned, is y
pub data SheetRun : List ℕ → List ℕ → Type 0 where
  ended : (κs : _) (a : _) (z : _) (e : _) → finish.Learnt κs a z e → (x w : List ℕ) → SheetSoFar a.0.now a.1.0.now x w
      → SheetRun x (w ++ take z e.1.1.0.now)

so_far : (s : Sheets) (o : Line) (x w : List ℕ) → SheetSoFar s o x w → So sheet_program unbegun (state_at o (sheet_of s.held s.table)) x w
so_far s o x w (begun t l p q) = rw (p, q) (so_none sheet_program unbegun)
so_far s o x w (fed κs a z e p y v r) = so_fed sheet_program (so_far _ _ y v r) p.0

-- however the input is cut
pub sheet_writes : (x y : List ℕ) → SheetRun x y → y ≡ output_of sheet_program unbegun x
sheet_writes x y (ended κs a z e p v w r) = so_ended sheet_program (so_far _ _ v w r) p.0

-- ---- no second reply
pub sheet_begin_one_reply : OneReply new.Learnt (λ κs z e z' e'. sheet_of z.held z.table ≡ sheet_of z'.held z'.table)
    × OneReply begin.Learnt (λ κs z e z' e'. z ≡ z')
sheet_begin_one_reply = ((λ κs a z z' e e' p q. one p q), (λ κs a z z' e e' p q. one p q))

pub sheet_feed_one_reply : OneReply feed.Learnt
    (λ κs z e z' e'. (z.at ≡ z'.at) × (e.1.1.1.0.now ≡ e'.1.1.1.0.now)
    × (state_at e.1.0.now (sheet_of e.0.now.held e.0.now.table) ≡ state_at e'.1.0.now (sheet_of e'.0.now.held e'.0.now.table)))
sheet_feed_one_reply κs a z z' e e' p q =
    fed_one sheet_program (ap (λ (i : ℕ). take i a.1.1.0.now) (one (p.1.1.1.1.0 refl) (q.1.1.1.1.0 refl))) p.0 q.0

pub sheet_finish_one_reply : OneReply finish.Learnt (λ κs z e z' e'. (z ≡ z') × (e.1.1.0.now ≡ e'.1.1.0.now))
sheet_finish_one_reply κs a z z' e e' p q = wrote_one p.0 q.0

-- ---- bytes in, bytes out: of an admissible sheet its curve is written as a listing, one knot for each depth line, in order
pub sheet_prints : (x y : List ℕ) → SheetRun x y → (b : Basis) (xs : List Float) → Admissible (lines_of x) b xs → y ≡ text_of (curve b [] xs)
unfolding ends_of
sheet_prints x y r b xs a = sheet_writes x y r ∙ printed_at_the_end x ∙ ap ends_of (admitted (lines_of x) b xs a)

-- which the line program, after whatever it read before, takes for that curve, without a span; the ends stay
pub sheet_read_again : (x y : List ℕ) → SheetRun x y → (c : Curve) (b : Basis) (xs : List Float) → Admissible (lines_of x) b xs
    → curve_after c (lines_of y) ≡ on (bare b) (ends_before c) xs
sheet_read_again x y r c b xs a =
    ap (λ (t : List ℕ). curve_after c (lines_of t)) (sheet_prints x y r b xs a)
    ∙ turn_again c b 0 xs (omega arith) (depths_fit a.rest xs a.depths) a.few
