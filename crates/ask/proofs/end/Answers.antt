-- The verdict, unless it was told.
use Rattle.text.proofs.Writing.{nothing}
use Rattle.ask_sheet.specs.Contract.{sheet_of, line_in, last_line, Sound}
use Prim.Native.Nat.{◌≤◌}
use Rattle.ask.proofs.Steps.{as_text, read_ends, told_ends}
use native.Mathlib.Omega.{arith}
use Rattle.ask.proofs.end.Goals as goal

pub verdict-t-requires : goal.verdict-t-requires
verdict-t-requires c = let k : (line_in c.in-Reading.s ≤ last_line) × Sound (sheet_of c.in-Reading.s c.args.rows.now c.args.labels.now) = rw
    c.in-Reading.is at c.requires.held in record {
      held = k.0;
      rows = c.requires.rows;
      sound = k.1;
      labels = c.requires.labels;
      knots = c.requires.knots;
      room = c.requires.room;
    }

pub returns-in-Reading : goal.returns-in-Reading
returns-in-Reading c =
    rw c.in-Reading.is (record {
      text = as_text (read_ends (sheet_of c.in-Reading.s c.args.rows.now c.args.labels.now)) c.verdict-t.ensures.text;
      short = c.verdict-t.ensures.short;
    })

pub returns-in-Told : goal.returns-in-Told
returns-in-Told c = rw c.in-Told.is (record { text = as_text (told_ends _) (nothing _ _); short = omega arith })
