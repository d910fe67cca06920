-- The line program: what a line gets, and the curve after it. Definitions only.
use Rattle.std.specs.Prelude.{[]}
use Rattle.lines_answer.specs.Answer.{Curve, reply_to, after_of}
use Rattle.lines_record.specs.declared.Record.{Record}
use Rattle.lines_record.specs.declared.Record.TheVariants.{Bad}
use Rattle.lines_record.specs.Record.{record_of}
use Rattle.lines_reply.specs.Reply.{text_of}
use Rattle.lines_machine.specs.Program.{Line, so, over, Program}

-- what a line says; one that is too long is no record
unfoldable pub says : Line → Record
says (so l) = record_of l
says over = Bad

-- each line gets its reply, and the end none
abbrev pub line_program : Program Curve
line_program = record { tells = λ c o. text_of (reply_to c (says o)); after = λ c o. after_of c (says o); ends = λ c. [] }
