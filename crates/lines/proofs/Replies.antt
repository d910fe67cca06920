-- Each line gets one reply, in order; what an input prints are their texts. Assumes nothing.
use mathlib.Core.Path.{◌≡◌, refl, ap}
use mathlib.Core.List.{List, [], ◌∷◌, ◌++◌}
use Prim.Native.Nat.{ℕ, suc, ◌<◌}
use borrow.Author.Tests.{lt-leb}
use lib.ListN.{length}
use Rattle.lines_answer.specs.Answer.{Curve, reply_to, after_of}
use Rattle.lines_answer.proofs.Records.{refused_changes_nothing}
use Rattle.error.specs.declared.Refusal.{Refusal}
use Rattle.lines_record.specs.declared.Record.{Record}
use Rattle.lines_record.specs.declared.Record.TheVariants.{Bad}
use Rattle.lines_reply.specs.Reply.{Reply, refused, text_of}
use Rattle.lines_machine.specs.Program.{lines_of, widest, line_of, prints_of, output_of}
use Rattle.lines.specs.Lines.{says, line_program}

-- what a line of any length says
abbrev pub says_of : List ℕ → Record
says_of l = says (line_of l)

-- the replies to the lines, in order, c being the curve before them
unfoldable pub replies_of : Curve → List (List ℕ) → List Reply
replies_of c [] = []
replies_of c (l ∷ ls) = reply_to c (says_of l) ∷ replies_of (after_of c (says_of l)) ls

-- their texts, one after another
unfoldable pub texts_of : List Reply → List ℕ
texts_of [] = []
texts_of (r ∷ rs) = text_of r ++ texts_of rs

prints_replies : (c : Curve) (ls : List (List ℕ)) → prints_of line_program c ls ≡ texts_of (replies_of c ls)
unfolding prints_of replies_of texts_of
prints_replies c [] = refl
prints_replies c (l ∷ ls) = ap (λ (t : List ℕ). text_of (reply_to c (says_of l)) ++ t) (prints_replies (after_of c (says_of l)) ls)

-- what an input prints are the texts of the replies to its lines
pub output_replies : (c : Curve) (x : List ℕ) → output_of line_program c x ≡ texts_of (replies_of c (lines_of x))
unfolding output_of
output_replies c x = prints_replies c (lines_of x)

-- one reply to each line
pub one_reply_each : (c : Curve) (ls : List (List ℕ)) → length (replies_of c ls) ≡ length ls
unfolding replies_of
one_reply_each c [] = refl
one_reply_each c (l ∷ ls) = ap suc (one_reply_each (after_of c (says_of l)) ls)

-- the curve after some lines
unfoldable pub curve_after : Curve → List (List ℕ) → Curve
curve_after c [] = c
curve_after c (l ∷ ls) = curve_after (after_of c (says_of l)) ls

-- the replies to the lines before come before, and those to the lines after are what these lines get upon the curve that was left
pub in_order : (c : Curve) (ls ms : List (List ℕ)) → replies_of c (ls ++ ms) ≡ replies_of c ls ++ replies_of (curve_after c ls) ms
unfolding replies_of curve_after
in_order c [] ms = refl
in_order c (l ∷ ls) ms = ap (λ t. reply_to c (says_of l) ∷ t) (in_order (after_of c (says_of l)) ls ms)

-- a refused line changes nothing: the lines after it get what they would get without it
pub refused_line_lem : (c : Curve) (l : List ℕ) (ls : List (List ℕ)) (e : Refusal) → reply_to c (says_of l) ≡ refused e
    → replies_of c (l ∷ ls) ≡ refused e ∷ replies_of c ls
unfolding replies_of
refused_line_lem c l ls e h = rw (h, refused_changes_nothing c (says_of l) e h) refl

-- a line of more than 64 bytes is no record
pub overlong : (l : List ℕ) → widest < length l → says_of l ≡ Bad
unfolding says
overlong l h = rw (lt-leb (length l) widest h) refl
