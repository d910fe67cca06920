-- How the program holds the curve, and what it is to have answered a record. Definitions only.
use Rattle.std.specs.Prelude.{◌≡◌, List, ℕ, ◌≤◌, take, Float}
use Rattle.lines_record.specs.declared.Record.{Record}
use Rattle.lines_reply.specs.Contract.{reply_of, lent_of}
use Rattle.lines_answer.specs.declared.SessionReply.{SessionReply}
use Rattle.lines_answer.specs.declared.Session.{Session}
use Rattle.lines_answer.specs.declared.Session.TheVariants as H
use Rattle.lines_answer.specs.Answer.{places, Curve, none, on, reply_to, after_of}

-- the knots are the first ones of the table
abbrev pub curve_of : Session → List Float → Curve
curve_of H.Nothing table = none
curve_of (H.Curve t m n) table = on t m (take n table)

abbrev pub count_of : Session → ℕ
count_of H.Nothing = 0
count_of (H.Curve t m n) = n

-- a record that came upon the curve c was answered
pub record Answers (c : Curve) (r : Record) (a : SessionReply) (table converted : List Float) : Type 0 where
  pub held : curve_of a.held table ≡ after_of c r
  pub told : reply_of a.told converted ≡ reply_to c r
  pub few : count_of a.held ≤ places
  pub lent : lent_of a.told ≤ places
