-- The program: a listing in, its last table's picture at the end. Definitions only.
use Rattle.error.specs.declared.Refusal.{Refusal}
use Rattle.std.specs.Prelude.{List, [], ℕ, Float, Some, None, Option}
use Rattle.basis.specs.declared.Basis.TheVariants.{Linear}
use Rattle.inverse_order.specs.declared.EndsBy.TheVariants.{Knots}
use Rattle.lines_answer.specs.Answer.{Curve, none, on, bare, reply_to}
use Rattle.lines_answer.specs.Answer.{after_of as curve_after}
use Rattle.lines_machine.specs.Program.{Program}
use Rattle.lines.specs.Lines.{says}
use Rattle.lines_record.specs.declared.Record.{Record}
use Rattle.lines_record.specs.declared.Record.TheVariants.{Curve as CurveOf, Span, Knot, Ends, At, Find, Turn, Bad}
use Rattle.lines_reply.specs.Reply.{Reply, silence, refused, value, place, curve}
use Rattle.picture_finds.specs.Finds.{asked}
use Rattle.picture.specs.Picture.{picture_text}

-- the curve that the line program holds, the last targets asked of it, and why a line was refused last
pub record Drawing : Type 0 where
  pub curve : Curve
  pub finds : List Float
  pub fault : Option Refusal

-- before the first line
abbrev pub nothing_drawn : Drawing
nothing_drawn = record { curve = none; finds = []; fault = None }

-- a new curve has been asked nothing yet
abbrev pub finds_after : List Float → Record → List Float
finds_after l (CurveOf c) = []
finds_after l (Find y) = asked y l
finds_after l (Span s) = l
finds_after l (Knot x) = l
finds_after l (Ends k) = l
finds_after l (At x) = l
finds_after l (Turn c) = l
finds_after l Bad = l

-- what is told at a line: the line program's reply, but a find of a curve is drawn at the end
abbrev pub told_of : Curve → Record → Reply
told_of none r = reply_to none r
told_of (on t m ks) (Find y) = silence
told_of (on t m ks) (CurveOf c) = reply_to (on t m ks) (CurveOf c)
told_of (on t m ks) (Span s) = reply_to (on t m ks) (Span s)
told_of (on t m ks) (Knot x) = reply_to (on t m ks) (Knot x)
told_of (on t m ks) (Ends k) = reply_to (on t m ks) (Ends k)
told_of (on t m ks) (At x) = reply_to (on t m ks) (At x)
told_of (on t m ks) (Turn c) = reply_to (on t m ks) (Turn c)
told_of (on t m ks) Bad = reply_to (on t m ks) Bad

-- a line that is refused
abbrev pub fault_in : Option Refusal → Reply → Option Refusal
fault_in f (refused r) = Some r
fault_in f silence = f
fault_in f (value x) = f
fault_in f (place x g n ss) = f
fault_in f (curve b ss l) = f

-- a new curve has no fault yet
abbrev pub fault_after : Option Refusal → Record → Reply → Option Refusal
fault_after f (CurveOf c) a = None
fault_after f (Span s) a = fault_in f a
fault_after f (Knot x) a = fault_in f a
fault_after f (Ends k) a = fault_in f a
fault_after f (At x) a = fault_in f a
fault_after f (Find y) a = fault_in f a
fault_after f (Turn c) a = fault_in f a
fault_after f Bad a = fault_in f a

abbrev pub drawn : Drawing → Record → Drawing
drawn d r =
    record { curve = curve_after d.curve r; finds = finds_after d.finds r; fault = fault_after d.fault r (told_of d.curve r) }

-- no curve at all is drawn as an empty one
unfoldable pub ends_with : Curve → List Float → Option Refusal → List ℕ
ends_with none l fault = picture_text (bare Linear) Knots [] l fault
ends_with (on t m ks) l fault = picture_text t m ks l fault

abbrev pub picture_program : Program Drawing
picture_program = record { tells = λ d o. []; after = λ d o. drawn d (says o); ends = λ d. ends_with d.curve d.finds d.fault }
