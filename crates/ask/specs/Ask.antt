-- bin/ask: a sheet, and from the line `ask` on questions. Definitions only.
use Rattle.std.specs.Prelude.{Bool, false, cond, List, [], ℕ}
use Rattle.error.specs.declared.Refusal.TheVariants.{BadSheet}
use Rattle.text.specs.Text.{bytes, same}
use Rattle.lines_reply.specs.Reply.{refused_text}
use Rattle.lines_machine.specs.Program.{Line, so, over, Program}
use Rattle.ask_sheet.specs.Sheet.{Sheet, after_of}
use Rattle.ask_verdict.specs.Told.{verdict_of, Asked, bad, fine, asked_of}
use Rattle.ask_answers.specs.Answers.{answer_text, span_after}

-- the sheet as far as it was read; or, its verdict told, what may be asked
pub data Asking : Type 0 where
  reading : Sheet → Asking
  told : Asked → Asking

-- whether a line is a word
abbrev pub is_word : List ℕ → Line → Bool
is_word w (so l) = same l w
is_word w over = false

abbrev pub is_ask : Line → Bool
is_ask o = is_word (bytes "ask") o

-- ---- a question: on a sheet that is not fine each gets 13, and a curve's span alone changes by one
unfoldable pub answer_to : Asked → Line → List ℕ
answer_to bad o = refused_text BadSheet
answer_to (fine k ks ls span) o = answer_text k ks ls span o

unfoldable pub after_ask : Asked → Line → Asked
after_ask bad o = bad
after_ask (fine k ks ls span) o = fine k ks ls (span_after k ks span o)

-- ---- the verdict at `ask`, or at the end of the input
unfoldable pub tells_of : Asking → Line → List ℕ
tells_of (reading s) o = cond (is_ask o) (verdict_of s) []
tells_of (told a) o = answer_to a o

unfoldable pub next_of : Asking → Line → Asking
next_of (reading s) o = cond (is_ask o) (told (asked_of s)) (reading (after_of s o))
next_of (told a) o = told (after_ask a o)

unfoldable pub ends_of : Asking → List ℕ
ends_of (reading s) = verdict_of s
ends_of (told a) = []

abbrev pub ask_program : Program Asking
ask_program = record { tells = λ s o. tells_of s o; after = λ s o. next_of s o; ends = λ s. ends_of s }
