-- Of any program: what a line prints stands in the output where the line stands in the input; a silent one prints its end alone; and no second reply fits
-- what its calls promise. Assumes nothing.
use mathlib.Core.Path.{◌≡◌, refl, sym, ap, subst, ◌∙◌}
use mathlib.Core.List.{List, [], ◌∷◌, ◌++◌, append_assoc}
use Prim.Native.Nat.{ℕ}
use lib.ListN.{take, drop, take-append-drop}
use Rattle.text.specs.Wrote.{Wrote}
use Rattle.lines_machine.specs.Program.{lines_of, Line, line_of, Program, prints_of, output_of}
use Rattle.lines_machine.specs.Bytes.{State, told_of, ran_of}
use Rattle.lines_machine.specs.Contract.{Fed}

-- the state after some lines
unfoldable pub state_after : {S : Type 0} → Program S → S → List (List ℕ) → S
state_after P s [] = s
state_after P s (l ∷ ls) = state_after P (P.after s (line_of l)) ls

-- what they print, one after another
unfoldable pub printed_by : {S : Type 0} → Program S → S → List (List ℕ) → List ℕ
printed_by P s [] = []
printed_by P s (l ∷ ls) = P.tells s (line_of l) ++ printed_by P (P.after s (line_of l)) ls

module _ {S : Type 0} (P : Program S) where
  prints_on : (s : S) (ls ms : List (List ℕ)) → prints_of P s (ls ++ ms) ≡ printed_by P s ls ++ prints_of P (state_after P s ls) ms
  unfolding prints_of printed_by state_after
  prints_on s [] ms = refl
  prints_on s (l ∷ ls) ms =
      let t = P.after s (line_of l) in
      ap (λ (w : List ℕ). P.tells s (line_of l) ++ w) (prints_on t ls ms)
      ∙ sym (append_assoc (P.tells s (line_of l)) (printed_by P t ls) (prints_of P (state_after P t ls) ms))

  -- what the lines before it print, what it prints, and what comes after
  pub printed_there : (s : S) (x : List ℕ) (ls : List (List ℕ)) (l : List ℕ) (ms : List (List ℕ)) → lines_of x ≡ ls ++ (l ∷ ms)
      → output_of P s x
      ≡ printed_by P s ls ++ (P.tells (state_after P s ls) (line_of l) ++ prints_of P (P.after (state_after P s ls) (line_of l)) ms)
  unfolding output_of prints_of
  printed_there s x ls l ms e = ap (prints_of P s) e ∙ prints_on s ls (l ∷ ms)

  -- one that prints nothing for a line
  silent_on : ((s : S) (o : Line) → P.tells s o ≡ []) → (s : S) (ls : List (List ℕ)) → prints_of P s ls ≡ P.ends (state_after P s ls)
  unfolding prints_of state_after
  silent_on h s [] = refl
  silent_on h s (l ∷ ls) =
      ap (λ (w : List ℕ). w ++ prints_of P (P.after s (line_of l)) ls) (h s (line_of l)) ∙ silent_on h (P.after s (line_of l)) ls

  pub printed_at_the_end : ((s : S) (o : Line) → P.tells s o ≡ []) → (s : S) (x : List ℕ) → output_of P s x ≡ P.ends (state_after P s (lines_of x))
  unfolding output_of
  printed_at_the_end h s x = silent_on h s (lines_of x)

-- ---- no second reply
pub one : {A : Type 0} {d x x' : A} → x ≡ d → x' ≡ d → x ≡ x'
one p q = p ∙ sym q

-- the bytes written and the place behind them
pub wrote_one : {o t o' o'' : List ℕ} {at r r' : ℕ} → Wrote o at t o' r → Wrote o at t o'' r' → (r ≡ r') × (o' ≡ o'')
wrote_one {o} {t} {o'} {o''} {at} {r} {r'} u v =
    let n : r ≡ r' = one u.next v.next in
    let f : take r o' ≡ take r o'' = one u.front (ap (λ (i : ℕ). take i o'') n ∙ v.front) in
    let b : drop r o' ≡ drop r o'' = one u.back (ap (λ (i : ℕ). drop i o'') n ∙ v.back ∙ ap (λ (i : ℕ). drop i o) (sym n)) in
    (n, sym (take-append-drop r o') ∙ ap (λ (l : List ℕ). l ++ drop r o') f ∙ ap (λ (l : List ℕ). take r o'' ++ l) b ∙ take-append-drop r o'')

-- and the state, where two runs took the same bytes
pub fed_one : {S : Type 0} (P : Program S) {s s' s'' : State S} {x y out out' out'' : List ℕ} {r r' : ℕ} → x ≡ y
    → Fed P s x s' out 0 out' r → Fed P s y s'' out 0 out'' r' → (r ≡ r') × (out' ≡ out'') × (s' ≡ s'')
fed_one P {s} {s'} {s''} {x} {y} {out} {out'} {out''} {r} {r'} e u v =
    let w : Wrote out 0 (told_of P s x) out'' r' = subst (λ (z : List ℕ). Wrote out 0 (told_of P s z) out'' r') (sym e) v.wrote in
    let b = wrote_one u.wrote w in
    (b.0, b.1, one u.state (v.state ∙ ap (ran_of P s) (sym e)))
