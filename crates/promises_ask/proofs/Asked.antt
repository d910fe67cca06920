-- bin/ask over a whole input: the verdict comes once, at the first line `ask` or at the end; what stands behind it are questions. On a sheet that is not fine
-- each gets 13 and nothing else; on a fine one each gets its answer, by the span that those before it left. Assumes nothing.
use mathlib.Core.Path.{◌≡◌, refl, sym, ap, ◌∙◌}
use mathlib.Core.Bool.{Bool, true, false, ◌||◌}
use mathlib.Core.List.{List, [], ◌∷◌, ◌++◌, append_assoc, append-nil}
use Prim.Native.Nat.{ℕ, zero, suc, ◌≤◌}
use lib.Ieee.{Float}
use lib.ListN.{length}
use Rattle.error.specs.declared.Refusal.TheVariants.{BadSheet}
use Rattle.error.proofs.First.{never}
use Rattle.lines_reply.specs.Reply.{refused_text}
use Rattle.lines_machine.specs.Program.{lines_of, line_of, prints_of, output_of}
use Rattle.ask_sheet.specs.declared.Kind.{Kind}
use Rattle.ask_sheet.specs.Sheet.{Sheet, unbegun, after_of}
use Rattle.ask_verdict.specs.Told.{verdict_of, Asked, bad, fine, asked_of}
use Rattle.ask_answers.specs.Answers.{answer_text, span_after}
use Rattle.ask.specs.Ask.{reading, told, is_ask, answer_to, after_ask, tells_of, next_of, ends_of, ask_program}
use Rattle.table_span.specs.Second.{day}
use Rattle.promises_ask.proofs.Answers.{span_few}
use Rattle.promises_ask.proofs.Reading.{sheet_after, sheet_read}

-- whether one of some lines is `ask`
unfoldable pub some_ask : List (List ℕ) → Bool
some_ask [] = false
some_ask (l ∷ ls) = is_ask (line_of l) || some_ask ls

-- so many refusals, one after another
unfoldable pub refusals : ℕ → List ℕ
refusals zero = []
refusals (suc n) = refused_text BadSheet ++ refusals n

-- the answers to some lines, and the span that they leave
unfoldable pub answers_text : Kind → List Float → List (List ℕ) → ℕ → List (List ℕ) → List ℕ
answers_text k ks ls span [] = []
answers_text k ks ls span (q ∷ qs) = answer_text k ks ls span (line_of q) ++ answers_text k ks ls (span_after k ks span (line_of q)) qs

unfoldable pub span_left : Kind → List Float → ℕ → List (List ℕ) → ℕ
span_left k ks span [] = span
span_left k ks span (q ∷ qs) = span_left k ks (span_after k ks span (line_of q)) qs

-- ---- before `ask` nothing is printed
neither : (a b : Bool) → (a || b) ≡ false → (a ≡ false) × (b ≡ false)
neither true b e = never (cc)
neither false b e = (refl, e)

prints_on : (s : Sheet) (ls ms : List (List ℕ)) → some_ask ls ≡ false
    → prints_of ask_program (reading s) (ls ++ ms) ≡ prints_of ask_program (reading (sheet_after s ls)) ms
unfolding prints_of sheet_after some_ask tells_of next_of
prints_on s [] ms e = refl
prints_on s (l ∷ ls) ms e =
    let n = neither (is_ask (line_of l)) (some_ask ls) e in
    rw n.0 (prints_on (after_of s (line_of l)) ls ms n.1)

-- ---- behind it each line is a question
prints_bad : (qs : List (List ℕ)) → prints_of ask_program (told bad) qs ≡ refusals (length qs)
unfolding prints_of tells_of next_of ends_of answer_to after_ask refusals
prints_bad [] = refl
prints_bad (q ∷ qs) = ap (λ (t : List ℕ). refused_text BadSheet ++ t) (prints_bad qs)

prints_fine : (k : Kind) (ks : List Float) (ls : List (List ℕ)) (span : ℕ) (qs : List (List ℕ))
    → prints_of ask_program (told (fine k ks ls span)) qs ≡ answers_text k ks ls span qs
unfolding prints_of tells_of next_of ends_of answer_to after_ask answers_text
prints_fine k ks ls span [] = refl
prints_fine k ks ls span (q ∷ qs) =
    ap (λ (t : List ℕ). answer_text k ks ls span (line_of q) ++ t) (prints_fine k ks ls (span_after k ks span (line_of q)) qs)

prints_ask : (s : Sheet) (l : List ℕ) (qs : List (List ℕ)) → is_ask (line_of l) ≡ true
    → prints_of ask_program (reading s) (l ∷ qs) ≡ verdict_of s ++ prints_of ask_program (told (asked_of s)) qs
unfolding prints_of tells_of next_of
prints_ask s l qs e = rw e refl

-- ---- the whole output
-- without `ask` the verdict alone
pub verdict_alone : (x : List ℕ) → some_ask (lines_of x) ≡ false → output_of ask_program (reading unbegun) x ≡ verdict_of (sheet_read (lines_of x))
unfolding output_of prints_of ends_of
verdict_alone x e =
    ap (prints_of ask_program (reading unbegun)) (sym (append-nil (lines_of x))) ∙ prints_on unbegun (lines_of x) [] e

-- the lines before the first `ask`, that line, and the questions
module _ (x : List ℕ) (ls : List (List ℕ)) (l : List ℕ) (qs : List (List ℕ)) (lines : lines_of x ≡ ls ++ (l ∷ qs)) (sheet : some_ask ls ≡ false)
    (ask : is_ask (line_of l) ≡ true) where
  output_is : output_of ask_program (reading unbegun) x ≡ verdict_of (sheet_read ls) ++ prints_of ask_program (told (asked_of (sheet_read ls))) qs
  unfolding output_of
  output_is = ap (prints_of ask_program (reading unbegun)) lines ∙ prints_on unbegun ls (l ∷ qs) sheet ∙ prints_ask (sheet_read ls) l qs ask

  -- not fine: 13 for each question, and nothing else
  pub asked_bad : asked_of (sheet_read ls) ≡ bad → output_of ask_program (reading unbegun) x ≡ verdict_of (sheet_read ls) ++ refusals (length qs)
  asked_bad e =
      output_is ∙ ap (λ (a : Asked). verdict_of (sheet_read ls) ++ prints_of ask_program (told a) qs) e
      ∙ ap (λ (t : List ℕ). verdict_of (sheet_read ls) ++ t) (prints_bad qs)

  -- fine: the answer to each question
  pub asked_fine : (k : Kind) (ks : List Float) (ns : List (List ℕ)) (span : ℕ) → asked_of (sheet_read ls) ≡ fine k ks ns span
      → output_of ask_program (reading unbegun) x ≡ verdict_of (sheet_read ls) ++ answers_text k ks ns span qs
  asked_fine k ks ns span e =
      output_is ∙ ap (λ (a : Asked). verdict_of (sheet_read ls) ++ prints_of ask_program (told a) qs) e
      ∙ ap (λ (t : List ℕ). verdict_of (sheet_read ls) ++ t) (prints_fine k ks ns span qs)

-- the answer to one of them stands where the question stands
pub answered_there : (k : Kind) (ks : List Float) (ls : List (List ℕ)) (span : ℕ) (ps : List (List ℕ)) (q : List ℕ) (rs : List (List ℕ))
    → answers_text k ks ls span (ps ++ (q ∷ rs))
    ≡ answers_text k ks ls span ps
    ++ (answer_text k ks ls (span_left k ks span ps) (line_of q) ++ answers_text k ks ls (span_after k ks (span_left k ks span ps) (line_of q)) rs)
unfolding answers_text span_left
answered_there k ks ls span [] q rs = refl
answered_there k ks ls span (p ∷ ps) q rs =
    let n = span_after k ks span (line_of p) in
    ap (λ (t : List ℕ). answer_text k ks ls span (line_of p) ++ t) (answered_there k ks ls n ps q rs)
    ∙ sym (append_assoc (answer_text k ks ls span (line_of p)) (answers_text k ks ls n ps) _)

-- and the span by which it is answered is of a day at most
pub left_few : (k : Kind) (ks : List Float) (span : ℕ) (qs : List (List ℕ)) → span ≤ day → span_left k ks span qs ≤ day
unfolding span_left
left_few k ks span [] h = h
left_few k ks span (q ∷ qs) h = left_few k ks (span_after k ks span (line_of q)) qs (span_few k ks [] span (line_of q) h)
