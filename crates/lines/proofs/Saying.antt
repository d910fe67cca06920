-- What the answer to a line leaves and prints. Assumes nothing.
use mathlib.Core.Path.{◌≡◌, refl, ap, subst, ◌∙◌}
use mathlib.Core.List.{List}
use Prim.Native.Nat.{ℕ}
use lib.Ieee.{Float}
use Rattle.lines_answer.specs.declared.SessionReply.{SessionReply}
use Rattle.lines_answer.specs.Answer.{Curve, reply_to, after_of}
use Rattle.lines_answer.specs.Contract.{Answers}
use Rattle.lines_record.specs.declared.Record.{Record}
use Rattle.lines_reply.specs.Reply.{Reply, text_of}
use Rattle.lines_reply.specs.Contract.{reply_of}
use Rattle.text.specs.Wrote.{Wrote}
use Rattle.lines_machine.specs.Program.{Line}
use Rattle.lines.specs.Lines.{says, line_program}

-- ---- a line is answered as its record
module _ (c : Curve) {r : Record} (o : Line) (e : r ≡ says o) where
  pub line_state : {d : Curve} → d ≡ after_of c r → d ≡ line_program.after c o
  line_state h = h ∙ ap (after_of c) e

  pub line_wrote : {out : List ℕ} {at : ℕ} {out' : List ℕ} {next : ℕ} → Wrote out at (text_of (reply_to c r)) out' next
      → Wrote out at (line_program.tells c o) out' next
  line_wrote {out} {at} {out'} {next} w = subst (λ (q : Record). Wrote out at (text_of (reply_to c q)) out' next) e w
