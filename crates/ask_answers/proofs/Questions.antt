-- What a line asks, case by case. Assumes nothing.
use Rattle.std.specs.Prelude.{Some, None, Option, ℕ, Bool}
use mathlib.Core.Path.{◌≡◌, refl, sym, ap, ◌∙◌}
use mathlib.Core.Bool.{Bool, true, false}
use mathlib.Core.List.{List, ◌∷◌}
use Prim.Native.Nat.{ℕ, suc, ◌+◌, ◌-◌, ◌≤◌, ◌<◌}
use native.Mathlib.Omega.{arith}
use native.Mathlib.Numerals.{add-one}
use borrow.Author.Tests.{lt-ltb, le-ltb}
use lib.Ieee.{Float}
use lib.ListN.{length, take, drop, length-drop}
use lib.Seq.{take_all}
use Rattle.text.specs.Text.{bytes, same, place_of, tab_of, TAB}
use Rattle.text_decimals.specs.Decimals.{number_in}
use Rattle.sheet.specs.Sheet.{depth_in, depth_line}
use Rattle.sheet.proofs.Lines.{depth_small}
use Rattle.sheet_depth.specs.Depth.{depth_of}
use Rattle.lines_machine.specs.Program.{so, over}
use Rattle.ask_answers.specs.declared.Question.{Question}
use Rattle.ask_answers.specs.declared.Question.TheVariants.{Table, Row, Find, At, Every, Nothing}
use Rattle.ask_answers.specs.Question.{by_number, sought, by_word, question_of}

-- ---- a word and a number
module _ (w : List ℕ) (n : ℕ) {a : Bool} (is : a ≡ same w (bytes "row")) where
  pub row_asked : a ≡ true → Row n ≡ by_number w n
  unfolding by_number
  row_asked p = rw (sym is ∙ p) refl

  module _ (p : a ≡ false) {b : Bool} (is' : b ≡ same w (bytes "at")) where
    pub at_asked : b ≡ true → At n ≡ by_number w n
    unfolding by_number
    at_asked q = rw (sym is ∙ p, sym is' ∙ q) refl

    module _ (q : b ≡ false) {c : Bool} (is'' : c ≡ same w (bytes "every")) where
      pub every_asked : c ≡ true → Every n ≡ by_number w n
      unfolding by_number
      every_asked r = rw (sym is ∙ p, sym is' ∙ q, sym is'' ∙ r) refl

      pub no_number : c ≡ false → Nothing ≡ by_number w n
      unfolding by_number
      no_number r = rw (sym is ∙ p, sym is' ∙ q, sym is'' ∙ r) refl

-- ---- a depth: that of a sheet's line behind some label
pub depth_few : (s : List ℕ) (b : Bool) (n : ℕ) {d : Option (Bool × ℕ)} → d ≡ depth_in s → d ≡ Some (b, n) → n ≤ 999999999999
unfolding depth_line place_of
depth_few s b n p q = depth_small (120 ∷ TAB ∷ s) b n (behind ∙ sym p ∙ q)
  where
    behind : depth_line (120 ∷ TAB ∷ s) ≡ depth_in s
    behind = rw (lt-ltb 1 (suc (suc (length s))) (omega arith)) refl

pub is_sought : {d e : Option (Bool × ℕ)} (b : Bool) (n : ℕ) {x : Float} → d ≡ e → d ≡ Some (b, n) → x ≡ depth_of b n → Find x ≡ sought e
is_sought b n p q r = rw (sym p ∙ q) (ap Find r)

pub not_sought : {d e : Option (Bool × ℕ)} → d ≡ e → d ≡ None → Nothing ≡ sought e
not_sought p q = rw (sym p ∙ q) refl

-- ---- a word, and what stands behind its tab
module _ (w s : List ℕ) {a : Bool} (is : a ≡ same w (bytes "find")) where
  pub find_word : a ≡ true → {q : Question} → q ≡ sought (depth_in s) → q ≡ by_word w s
  unfolding by_word
  find_word p e = rw (sym is ∙ p) e

  module _ (p : a ≡ false) {r : Option ℕ} (number : r ≡ number_in 5 s) where
    pub number_word : (n : ℕ) → r ≡ Some n → {q : Question} → q ≡ by_number w n → q ≡ by_word w s
    unfolding by_word
    number_word n f e = rw (sym is ∙ p, sym number ∙ f) e

    pub no_word : r ≡ None → Nothing ≡ by_word w s
    unfolding by_word
    no_word f = rw (sym is ∙ p, sym number ∙ f) refl

-- ---- a line
module _ (l : List ℕ) {a : Bool} (is : a ≡ same l (bytes "table")) where
  pub table_asked : a ≡ true → Table ≡ question_of (so l)
  unfolding question_of
  table_asked p = rw (sym is ∙ p) refl

  module _ (p : a ≡ false) (t : ℕ) (tab : t ≡ tab_of l) where
    pub word_asked : t < length l → {q : Question} → q ≡ by_word (take (t - 0) l) (take (length l - (t + 1)) (drop (t + 1) l)) → q ≡ question_of (so l)
    unfolding question_of
    word_asked h e =
        let z : t - 0 ≡ t = omega arith in
        let rest : take (length l - (t + 1)) (drop (t + 1) l) ≡ drop (suc t) l =
        take_all (length l - (t + 1)) (drop (t + 1) l) (rw length-drop (omega arith)) ∙ ap (λ (x : ℕ). drop x l) (add-one t) in
        rw (sym is ∙ p, ← tab, lt-ltb t (length l) h) (rw (z, rest) at e)

    pub no_tab : length l ≤ t → Nothing ≡ question_of (so l)
    unfolding question_of
    no_tab h = rw (sym is ∙ p, ← tab, le-ltb t (length l) h) refl

pub too_long : Nothing ≡ question_of over
unfolding question_of
too_long = refl
