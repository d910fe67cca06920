-- How code holds what is drawn, and what it is to have taken a record. Definitions only.
use Rattle.error.specs.declared.Refusal.{Refusal}
use Rattle.std.specs.Prelude.{◌≡◌, List, ℕ, ◌≤◌, Float, Option}
use Rattle.lines_answer.specs.Answer.{places, Curve, after_of}
use Rattle.lines_answer.specs.Contract.{curve_of}
use Rattle.lines_answer.specs.Contract.{count_of as knots_of}
use Rattle.picture.specs.declared.PictureState.{PictureState}
use Rattle.lines_answer.specs.declared.SessionReply.{SessionReply}
use Rattle.lines_record.specs.declared.Record.{Record}
use Rattle.lines_reply.specs.Contract.{reply_of}
use Rattle.picture_finds.specs.Contract.{targets_of}
use Rattle.picture.specs.Program.{Drawing, told_of, fault_in}

-- the knots are the first doubles of the table
abbrev pub drawing_of : PictureState → List Float → Drawing
drawing_of h table = record { curve = curve_of h.curve table; finds = targets_of h.finds; fault = h.fault }

abbrev pub count_of : PictureState → ℕ
count_of h = knots_of h.curve

-- a record that came upon the curve c was taken: the curve after it, and the fault that it brings
pub record Takes (c : Curve) (r : Record) (a : SessionReply) (table : List Float) : Type 0 where
  pub held : curve_of a.held table ≡ after_of c r
  pub told : (f : Option Refusal) → fault_in f (reply_of a.told table) ≡ fault_in f (told_of c r)
  pub few : knots_of a.held ≤ places
