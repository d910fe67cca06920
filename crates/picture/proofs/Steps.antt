-- The loops over points and knots, a pass at a time; what a record brings. Assumes nothing.
use Rattle.std.specs.Prelude.{Ok, Err, Some, Option}
use mathlib.Core.Path.{◌≡◌, refl}
use mathlib.Core.List.{List, [], ◌++◌}
use Prim.Native.Nat.{ℕ, ◌+◌}
use native.Mathlib.Numerals.{add-one}
use lib.ListN.{length, get_or}
use lib.Ieee.{Float, nan}
use Rattle.basis.specs.declared.Basis.{Basis}
use Rattle.picture_scale.specs.declared.Extent.{Extent}
use Rattle.picture_scale.specs.Scale.{curve_height, column_of}
use Rattle.picture_scale.specs.Words.{point_text}
use Rattle.convert.specs.Conversion.{convert_uses, converted_of}
use Rattle.error.specs.declared.Refusal.{Refusal}
use Rattle.error.specs.Refusals.{first}
use Rattle.lines_answer.specs.Answer.{places, Curve, curve_reply, reply_to}
use Rattle.lines_answer.specs.Contract.{curve_of, Answers}
use Rattle.lines_answer.specs.declared.SessionReply.{SessionReply}
use Rattle.lines_machine.specs.Program.{Line}
use Rattle.lines_reply.specs.Contract.{reply_of}
use Rattle.lines.specs.Lines.{says}
use Rattle.lines_record.specs.declared.Record.{Record}
use Rattle.lines_record.specs.declared.Record.TheVariants.{Curve as CurveOf, Span, Knot, Ends, At, Find, Turn, Bad}
use Rattle.lines_reply.specs.Reply.{Reply}
use Rattle.picture.specs.Program.{finds_after, told_of, fault_in, fault_after, drawn}
use Rattle.picture.specs.Contract.{Takes}
use Rattle.picture.specs.Picture.{points_text, knot_text, knots_text}

module _ (b : Basis) (ks : List Float) (e : Extent) where
  pub no_points : (p : ℕ) → points_text b ks e p 0 ≡ []
  unfolding points_text
  no_points p = refl

  pub points_go_on : (p i : ℕ) → points_text b ks e p (i + 1) ≡ points_text b ks e p i ++ point_text e (column_of i p) (curve_height b ks p i)
  unfolding points_text
  points_go_on p i = rw (add-one i) refl

  pub no_knots : knots_text b ks e 0 ≡ []
  unfolding knots_text
  no_knots = refl

  pub knots_go_on : (j : ℕ) → knots_text b ks e (j + 1) ≡ knots_text b ks e j ++ knot_text b (length ks) e j (get_or ks j nan)
  unfolding knots_text
  knots_go_on j = rw (add-one j) refl

-- ---- a record that was answered, or would have been
pub answered : {c : Curve} {r : Record} {a : SessionReply} {table : List Float} → Answers c r a table table → told_of c r ≡ reply_to c r → Takes c r a table
answered {c} {r} {a} {table} w e = record { held = w.held; told = λ f. rw (w.told, e) refl; few = w.few }

-- a conversion that would be refused is, and any other brings no fault
pub not_turned : (b c : Basis) (ks : List Float) (f : Option Refusal) (s : ℕ) → first (convert_uses b c ks places) ≡ Ok tt
    → f ≡ fault_in f (curve_reply s c (converted_of b c ks places))
unfolding converted_of
not_turned b c ks f s e = rw e refl

pub turn_refused : (b c : Basis) (ks : List Float) (f : Option Refusal) (s : ℕ) (r : Refusal) → first (convert_uses b c ks places) ≡ Err r
    → Some r ≡ fault_in f (curve_reply s c (converted_of b c ks places))
unfolding converted_of
turn_refused b c ks f s r e = rw e refl

-- ---- what is drawn after a line, part by part
fault_so : (f : Option Refusal) (r : Record) (a a' : Reply) → ((g : Option Refusal) → fault_in g a ≡ fault_in g a') → fault_after f r a ≡ fault_after f r a'
fault_so f (CurveOf c) a a' h = refl
fault_so f (Span s) a a' h = h f
fault_so f (Knot x) a a' h = h f
fault_so f (Ends k) a a' h = h f
fault_so f (At x) a a' h = h f
fault_so f (Find y) a a' h = h f
fault_so f (Turn c) a a' h = h f
fault_so f Bad a a' h = h f

pub drawn_so : (o : Line) (f₀ : List Float) (g₀ : Option Refusal) {r : Record} {c : Curve} {f : List Float}
    {g : Option Refusal} {a : SessionReply} {table : List Float}
    → r ≡ says o → Takes c r a table → f ≡ finds_after f₀ r → ((l : List Float) → g ≡ fault_after g₀ r (reply_of a.told l))
    → record { curve = curve_of a.held table; finds = f; fault = g } ≡ drawn (record { curve = c; finds = f₀; fault = g₀ }) (says o)
drawn_so o f₀ g₀ {r} {c} {f} {g} {a} {table} e w v u =
    rw (← e, w.held, v, u table, fault_so g₀ r (reply_of a.told table) (told_of c r) w.told) refl
