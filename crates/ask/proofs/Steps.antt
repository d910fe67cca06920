-- A line, step by step: what it prints and what is held after it. Assumes nothing.
use mathlib.Core.Path.{◌≡◌, refl, sym, ap, ◌∙◌, subst}
use mathlib.Core.Bool.{Bool, true, false}
use mathlib.Core.List.{List, []}
use Prim.Native.Nat.{ℕ, ◌≤◌}
use lib.Ieee.{Float}
use Rattle.text.specs.Text.{bytes, dec_text}
use Rattle.text.specs.Wrote.{Wrote}
use Rattle.lines_machine.specs.Program.{Line}
use Rattle.ask_sheet.specs.declared.Kind.{Kind}
use Rattle.ask_sheet.specs.Sheet.{Sheet, after_of}
use Rattle.ask_verdict.specs.Told.{verdict_of, Asked, bad, fine, asked_of}
use Rattle.ask_verdict.specs.Contract.{Asks}
use Rattle.table_span.specs.Second.{day}
use Rattle.ask_answers.specs.Answers.{answer_text, span_after}
use Rattle.ask.specs.Ask.{reading, told, is_word, is_ask, answer_to, after_ask, tells_of, next_of, ends_of}

pub as_text : {o o' t t' : List ℕ} {at r : ℕ} → t ≡ t' → Wrote o at t o' r → Wrote o at t' o' r
as_text {o} {o'} {t} {t'} {at} {r} e w = subst (λ (x : List ℕ). Wrote o at x o' r) e w

-- ---- answers
pub bad_text : (o : Line) → bytes "refused\t13\n" ≡ answer_to bad o
unfolding answer_to dec_text
bad_text o = refl

pub bad_after : (o : Line) → bad ≡ after_ask bad o
unfolding after_ask
bad_after o = refl

module _ (k : Kind) (ks : List Float) (ls : List (List ℕ)) (span : ℕ) (o : Line) where
  pub fine_text_lem : answer_text k ks ls span o ≡ answer_to (fine k ks ls span) o
  unfolding answer_to
  fine_text_lem = refl

  pub fine_after : {n : ℕ} → n ≡ span_after k ks span o → fine k ks ls n ≡ after_ask (fine k ks ls span) o
  unfolding after_ask
  fine_after e = ap (λ (n : ℕ). fine k ks ls n) e

-- another span, of a day at most
pub asks_on : {rows n span span' : ℕ} → Asks rows n span → span' ≤ day → Asks rows n span'
asks_on a h = record { few_rows = a.few_rows; enough = a.enough; few = a.few; short = h }

-- ---- while the sheet is read
module _ (s : Sheet) (o : Line) {t : Bool} (is : t ≡ is_ask o) where
  pub ask_next : t ≡ true → {a : Asked} → a ≡ asked_of s → told a ≡ next_of (reading s) o
  unfolding next_of
  ask_next e f = rw (sym is ∙ e) (ap told f)

  pub ask_text : t ≡ true → verdict_of s ≡ tells_of (reading s) o
  unfolding tells_of
  ask_text e = rw (sym is ∙ e) refl

  pub read_next : t ≡ false → {s' : Sheet} → s' ≡ after_of s o → reading s' ≡ next_of (reading s) o
  unfolding next_of
  read_next e f = rw (sym is ∙ e) (ap reading f)

  pub read_text : t ≡ false → [] ≡ tells_of (reading s) o
  unfolding tells_of
  read_text e = rw (sym is ∙ e) refl

-- ---- after the verdict
pub told_next : (a : Asked) (o : Line) {a' : Asked} → a' ≡ after_ask a o → told a' ≡ next_of (told a) o
unfolding next_of
told_next a o e = ap told e

pub told_text : (a : Asked) (o : Line) → answer_to a o ≡ tells_of (told a) o
unfolding tells_of
told_text a o = refl

-- ---- the end
pub read_ends : (s : Sheet) → verdict_of s ≡ ends_of (reading s)
unfolding ends_of
read_ends s = refl

pub told_ends : (a : Asked) → [] ≡ ends_of (told a)
unfolding ends_of
told_ends a = refl
