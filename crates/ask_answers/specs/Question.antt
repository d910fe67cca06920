-- What a line after the verdict asks. Definitions only.
use Rattle.std.specs.Prelude.{cond, List, ℕ, suc, ltb, length, take, drop, Some, None, Option, Bool}
use Rattle.text.specs.Text.{bytes, same, tab_of}
use Rattle.text_decimals.specs.Decimals.{number_in}
use Rattle.sheet.specs.Sheet.{depth_in}
use Rattle.sheet_depth.specs.Depth.{depth_of}
use Rattle.lines_machine.specs.Program.{Line, so, over}
use Rattle.ask_answers.specs.declared.Question.{Question}
use Rattle.ask_answers.specs.declared.Question.TheVariants.{Table, Row, Find, At, Every, Nothing}

-- a word and a number
unfoldable pub by_number : List ℕ → ℕ → Question
by_number w n =
    cond (same w (bytes "row")) (Row n) (cond (same w (bytes "at")) (At n) (cond (same w (bytes "every")) (Every n) Nothing))

abbrev pub numbered : List ℕ → Option ℕ → Question
numbered w (Some n) = by_number w n
numbered w None = Nothing

-- a decimal as in a sheet
abbrev pub sought : Option (Bool × ℕ) → Question
sought (Some (minus, n)) = Find (depth_of minus n)
sought None = Nothing

-- a word, and what stands behind its tab
unfoldable pub by_word : List ℕ → List ℕ → Question
by_word w s = cond (same w (bytes "find")) (sought (depth_in s)) (numbered w (number_in 5 s))

unfoldable pub question_of : Line → Question
question_of (so l) =
    cond (same l (bytes "table")) Table
    (cond (ltb (tab_of l) (length l)) (by_word (take (tab_of l) l) (drop (suc (tab_of l)) l)) Nothing)
question_of over = Nothing
