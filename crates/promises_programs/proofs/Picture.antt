-- The picture of a listing: however its input is cut, what its calls write is what the whole of it prints. Assumes nothing.
use Rattle.std.specs.Prelude.{Some, Option}
use mathlib.Core.Path.{◌≡◌, refl, ap, ◌∙◌}
use mathlib.Core.List.{List, [], ◌++◌}
use Prim.Native.Nat.{ℕ}
use lib.ListN.{take}
use lib.Ieee.{Float}
use Rattle.picture.specs.declared.Pictures.{Pictures}
use Rattle.picture.specs.Program.{Drawing, nothing_drawn, told_of, fault_in, fault_after, ends_with, picture_program}
use Rattle.picture.specs.Contract.{drawing_of}
use Rattle.error.specs.declared.Refusal.{Refusal}
use Rattle.error.proofs.First.{never}
use Rattle.inverse_order.specs.declared.EndsBy.{EndsBy}
use Rattle.lines.specs.Lines.{says}
use Rattle.lines_answer.specs.Answer.{Curve, none, on, reply_to}
use Rattle.lines_record.specs.declared.Record.{Record}
use Rattle.lines_record.specs.declared.Record.TheVariants.{Curve as CurveOf, Span, Knot, Ends, At, Find, Turn, Bad}
use Rattle.lines_reply.specs.Reply.{refused}
use Rattle.table_span.specs.declared.Table.{Table}
use Rattle.lines_machine.specs.Program.{Line, lines_of, output_of, so}
use Rattle.lines_machine.specs.Bytes.{state_at}
use Rattle.lines_machine.specs.Contract.{So}
use Rattle.lines_machine.proofs.Feeding.{so_none, so_fed, so_ended}
use Rattle.picture.proofs.Pictures.new.Reads as new
use Rattle.picture.proofs.PicturesMachine.begin.Reads as begin
use Rattle.picture.proofs.PicturesMachine.feed.Reads as feed
use Rattle.picture.proofs.PicturesMachine.finish.Reads as finish
use Rattle.calls.specs.Calls.{OneReply}
use Rattle.promises_programs.proofs.There.{state_after, printed_at_the_end, one, wrote_one, fed_one}

-- its calls one after another, each as its contract tells: of the input the bytes x were taken, and the bytes w written
pub data PictureSoFar : Pictures → Line → List ℕ → List ℕ → Type 0 where
  begun : (s : Pictures) (o : Line) → drawing_of s.held s.table ≡ nothing_drawn → o ≡ so [] → PictureSoFar s o [] []
  fed : (κs : _) (a : _) (z : _) (e : _) → feed.Learnt κs a z e → (x w : List ℕ) → PictureSoFar a.0.now a.1.0.now x w
      → PictureSoFar e.0.now e.1.0.now (x ++ take z.bytes a.1.1.0.now) (w ++ take z.at e.1.1.1.0.now)

-- so begin the calls that make one
pub picture_begun : (κs : _) (a : _) (z : _) (e : _) → new.Learnt κs a z e
    → (κs' : _) (a' : _) (o : _) (e' : _) → begin.Learnt κs' a' o e' → PictureSoFar z o [] []
picture_begun κs a z e p κs' a' o e' q = begun z o p q

-- a whole run: the input is x, and all that the calls wrote, once the last has returned, is y
pub data PictureRun : List ℕ → List ℕ → Type 0 where
  ended : (κs : _) (a : _) (z : _) (e : _) → finish.Learnt κs a z e → (x w : List ℕ) → PictureSoFar a.0.now a.1.0.now x w
      → PictureRun x (w ++ take z e.1.1.0.now)

so_far : (s : Pictures) (o : Line) (x w : List ℕ) → PictureSoFar s o x w → So picture_program nothing_drawn (state_at o (drawing_of s.held s.table)) x w
so_far s o x w (begun t l p q) = rw (p, q) (so_none picture_program nothing_drawn)
so_far s o x w (fed κs a z e p y v r) = so_fed picture_program (so_far _ _ y v r) p.0

-- however the input is cut
pub picture_writes : (x y : List ℕ) → PictureRun x y → y ≡ output_of picture_program nothing_drawn x
picture_writes x y (ended κs a z e p v w r) = so_ended picture_program (so_far _ _ v w r) p.0

-- ---- no second reply
pub picture_begin_one_reply : OneReply new.Learnt (λ κs z e z' e'. drawing_of z.held z.table ≡ drawing_of z'.held z'.table)
    × OneReply begin.Learnt (λ κs z e z' e'. z ≡ z')
picture_begin_one_reply = ((λ κs a z z' e e' p q. one p q), (λ κs a z z' e e' p q. one p q))

pub picture_feed_one_reply : OneReply feed.Learnt
    (λ κs z e z' e'. (z.at ≡ z'.at) × (e.1.1.1.0.now ≡ e'.1.1.1.0.now)
    × (state_at e.1.0.now (drawing_of e.0.now.held e.0.now.table) ≡ state_at e'.1.0.now (drawing_of e'.0.now.held e'.0.now.table)))
picture_feed_one_reply κs a z z' e e' p q =
    fed_one picture_program (ap (λ (i : ℕ). take i a.1.1.0.now) (one (p.1.1.1.1.0 refl) (q.1.1.1.1.0 refl))) p.0 q.0

pub picture_finish_one_reply : OneReply finish.Learnt (λ κs z e z' e'. (z ≡ z') × (e.1.1.0.now ≡ e'.1.1.0.now))
picture_finish_one_reply κs a z z' e e' p q = wrote_one p.0 q.0

-- ---- bytes in, bytes out: the picture of what the whole listing leaves, and nothing before it
pub picture_drawn : (x y : List ℕ) → PictureRun x y
    → (let d = state_after picture_program nothing_drawn (lines_of x) in y ≡ ends_with d.curve d.finds d.fault)
picture_drawn x y r = picture_writes x y r ∙ printed_at_the_end picture_program (λ s o. refl) nothing_drawn x

-- ---- refusals
told : (f : Option Refusal) (c : Curve) (q : Record) (r : Refusal) → reply_to c q ≡ refused r
    → ((t : Table) (m : EndsBy) (ks : List Float) (y : Float) → c ≡ on t m ks → q ≡ Find y → ⊥) → fault_after f q (told_of c q) ≡ Some r
unfolding reply_to
told f none (CurveOf b) r h n = never (cc)
told f none (Span s) r h n = ap (fault_in f) h
told f none (Knot x) r h n = ap (fault_in f) h
told f none (Ends k) r h n = ap (fault_in f) h
told f none (At x) r h n = ap (fault_in f) h
told f none (Find y) r h n = ap (fault_in f) h
told f none (Turn b) r h n = ap (fault_in f) h
told f none Bad r h n = ap (fault_in f) h
told f (on t m ks) (CurveOf b) r h n = never (cc)
told f (on t m ks) (Span s) r h n = ap (fault_in f) h
told f (on t m ks) (Knot x) r h n = ap (fault_in f) h
told f (on t m ks) (Ends k) r h n = never (cc)
told f (on t m ks) (At x) r h n = ap (fault_in f) h
told f (on t m ks) (Find y) r h n = absurd (n t m ks y refl refl)
told f (on t m ks) (Turn b) r h n = ap (fault_in f) h
told f (on t m ks) Bad r h n = ap (fault_in f) h

-- a line that the line program refuses is the fault that is told; but a find of a curve is drawn at the end, its place or its refusal
pub refused_told : (d : Drawing) (o : Line) (r : Refusal) → reply_to d.curve (says o) ≡ refused r
    → ((t : Table) (m : EndsBy) (ks : List Float) (y : Float) → d.curve ≡ on t m ks → says o ≡ Find y → ⊥) → (picture_program.after d o).fault ≡ Some r
refused_told d o r h n = told d.fault d.curve (says o) r h n
