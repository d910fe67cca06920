-- The bytes that the steps of any program over lines write, then the end, are what the whole input prints, however it is cut. Assumes nothing.
use mathlib.Core.Path.{◌≡◌, refl, sym, ap, ◌∙◌}
use mathlib.Core.Bool.{Bool, true, false, cond}
use mathlib.Core.List.{List, [], ◌∷◌, ◌++◌, append_assoc}
use Prim.Native.Nat.{ℕ, ◌+◌, ◌≤◌, ◌<◌}
use native.Mathlib.Omega.{arith}
use borrow.Author.Tests.{ltb-true, ltb-false, le-leb, lt-leb}
use lib.Dec.{ltb, leb, eqb}
use lib.ListN.{length, length-append}
use Rattle.text.specs.Text.{LF, onto}
use Rattle.lines_machine.specs.Program.{lines_of, widest, Line, so, over, line_of, Program, prints_of, output_of}
use Rattle.lines_machine.specs.Bytes.{State, state_at, start, push, close_text, closed, pushed, tell_of, next_of, told_of, ran_of, last_text, end_of}

-- ---- the lines, where the bytes l of the first have been read
front : List ℕ → List (List ℕ) → List (List ℕ)
front [] ls = ls
front (b ∷ l) ls = onto b (front l ls)

front_ended : (l : List ℕ) (ls : List (List ℕ)) → front l ([] ∷ ls) ≡ l ∷ ls
unfolding front onto
front_ended [] ls = refl
front_ended (b ∷ l) ls = ap (onto b) (front_ended l ls)

front_more : (l : List ℕ) (b : ℕ) (ls : List (List ℕ)) → front l (onto b ls) ≡ front (l ++ (b ∷ [])) ls
unfolding front
front_more [] b ls = refl
front_more (a ∷ l) b ls = ap (onto a) (front_more l b ls)

front_last : (b : ℕ) (l : List ℕ) → front (b ∷ l) [] ≡ (b ∷ l) ∷ []
unfolding front onto
front_last b [] = refl
front_last b (a ∷ l) = ap (onto b) (front_last a l)

push_line : (l : List ℕ) (b : ℕ) → push (line_of l) b ≡ line_of (l ++ (b ∷ []))
unfolding push
push_line l b = go (ltb (length l) widest) refl (leb (length l) widest) refl
  where
    long : length (l ++ (b ∷ [])) ≡ length l + 1
    long = length-append l (b ∷ [])

    go : (u : Bool) → ltb (length l) widest ≡ u → (t : Bool) → leb (length l) widest ≡ t → push (line_of l) b ≡ line_of (l ++ (b ∷ []))
    go true f t e =
        let h : length l < widest = ltb-true (length l) widest f in
        simp (f, le-leb (length l) widest (omega arith), le-leb (length (l ++ (b ∷ []))) widest (omega (arith, long)))
    go false f true e =
        let h : widest ≤ length l = ltb-false (length l) widest f in
        simp (e, f, lt-leb (length (l ++ (b ∷ []))) widest (omega (arith, long)))
    go false f false e =
        let h : widest ≤ length l = ltb-false (length l) widest f in
        simp (e, lt-leb (length (l ++ (b ∷ []))) widest (omega (arith, long)))

module _ {S : Type 0} (P : Program S) where
  -- ---- cutting
  pub ran_append : (s : State S) (x y : List ℕ) → ran_of P s (x ++ y) ≡ ran_of P (ran_of P s x) y
  unfolding ran_of
  ran_append s [] y = refl
  ran_append s (b ∷ x) y = ran_append (next_of P s b) x y

  pub told_append : (s : State S) (x y : List ℕ) → told_of P s (x ++ y) ≡ told_of P s x ++ told_of P (ran_of P s x) y
  unfolding ran_of told_of
  told_append s [] y = refl
  told_append s (b ∷ x) y =
      rw (told_append (next_of P s b) x y)
      (sym (append_assoc (tell_of P s b) (told_of P (next_of P s b) x) (told_of P (ran_of P (next_of P s b) x) y)))

  -- ---- the whole
  last_line : (a : ℕ) (l : List ℕ) (h : S) → last_text P (line_of (a ∷ l)) h ≡ P.tells h (line_of (a ∷ l)) ++ P.ends (P.after h (line_of (a ∷ l)))
  unfolding last_text
  last_line a l h = go (leb (length (a ∷ l)) widest)
    where
      go : (u : Bool) → last_text P (cond u (so (a ∷ l)) over) h ≡ P.tells h (cond u (so (a ∷ l)) over) ++ P.ends (P.after h (cond u (so (a ∷ l)) over))
      go true = refl
      go false = refl

  ended : (l : List ℕ) (h : S) → end_of P (state_at (line_of l) h) ≡ prints_of P h (front l [])
  unfolding last_text front prints_of
  ended [] h = refl
  ended (a ∷ l) h = last_line a l h ∙ ap (prints_of P h) (sym (front_last a l))

  -- one byte and those after it
  abbrev Prints : List ℕ → List ℕ → S → Type 0
  Prints x l h = told_of P (state_at (line_of l) h) x ++ end_of P (ran_of P (state_at (line_of l) h) x) ≡ prints_of P h (front l (lines_of x))

  byte : (b : ℕ) (x l : List ℕ) (h : S) → Prints x [] (P.after h (line_of l)) → Prints x (l ++ (b ∷ [])) h → (t : Bool)
      → (let s = state_at (line_of l) h in let n = cond t (closed P s) (pushed s b) in
      (cond t (close_text P s) [] ++ told_of P n x) ++ end_of P (ran_of P n x) ≡ prints_of P h (front l (cond t ([] ∷ lines_of x) (onto b (lines_of x)))))
  unfolding prints_of front
  byte b x l h p q true =
      let s : State S = state_at (line_of l) h in
      let n : State S = closed P s in
      append_assoc (close_text P s) (told_of P n x) (end_of P (ran_of P n x))
      ∙ ap (λ (t : List ℕ). close_text P s ++ t) p
      ∙ ap (prints_of P h) (sym (front_ended l (lines_of x)))
  byte b x l h p q false =
      ap (λ (o : Line). told_of P (state_at o h) x ++ end_of P (ran_of P (state_at o h) x)) (push_line l b)
      ∙ q
      ∙ ap (prints_of P h) (sym (front_more l b (lines_of x)))

  run : (x l : List ℕ) (h : S) → Prints x l h
  unfolding told_of ran_of lines_of next_of tell_of
  run [] l h = ended l h
  run (b ∷ x) l h = byte b x l h (run x [] (P.after h (line_of l))) (run x (l ++ (b ∷ [])) h) (eqb b LF)

  -- the bytes written for byte after byte, then at the end, are the definition's
  pub whole : (s : S) (x : List ℕ) → told_of P (start s) x ++ end_of P (ran_of P (start s) x) ≡ output_of P s x
  unfolding output_of front
  whole s x = run x [] s

-- ---- however the input is cut
unfoldable pub joined : List (List ℕ) → List ℕ
joined [] = []
joined (c ∷ cs) = c ++ joined cs

-- the bytes written for piece after piece, then at the end
unfoldable pub in_pieces : {S : Type 0} → Program S → State S → List (List ℕ) → List ℕ
in_pieces P s [] = end_of P s
in_pieces P s (c ∷ cs) = told_of P s c ++ in_pieces P (ran_of P s c) cs

module _ {S : Type 0} (P : Program S) where
  pieces : (cs : List (List ℕ)) (s : State S) → in_pieces P s cs ≡ told_of P s (joined cs) ++ end_of P (ran_of P s (joined cs))
  unfolding in_pieces joined told_of ran_of
  pieces [] s = refl
  pieces (c ∷ cs) s =
      ap (λ (t : List ℕ). told_of P s c ++ t) (pieces cs (ran_of P s c))
      ∙ rw (told_append P s c (joined cs), ran_append P s c (joined cs))
      (sym (append_assoc (told_of P s c) (told_of P (ran_of P s c) (joined cs)) (end_of P (ran_of P (ran_of P s c) (joined cs)))))

  -- what is printed does not turn on how the input was cut
  pub however_cut : (s : S) (cs : List (List ℕ)) → in_pieces P (start s) cs ≡ output_of P s (joined cs)
  however_cut s cs = pieces cs (start s) ∙ whole P s (joined cs)

-- ---- one program within another: states of P stand as states of Q, and Q does there what P does
pub record Within {S R : Type 0} (P : Program S) (Q : Program R) (f : S → R) : Type 0 where
  pub tells : (s : S) (o : Line) → Q.tells (f s) o ≡ P.tells s o
  pub after : (s : S) (o : Line) → Q.after (f s) o ≡ f (P.after s o)
  pub ends : (s : S) → Q.ends (f s) ≡ P.ends s

module _ {S R : Type 0} (P : Program S) (Q : Program R) (f : S → R) (w : Within P Q f) where
  within_lines : (s : S) (ls : List (List ℕ)) → prints_of Q (f s) ls ≡ prints_of P s ls
  unfolding prints_of
  within_lines s [] = w.ends s
  within_lines s (l ∷ ls) =
      ap (λ (t : List ℕ). t ++ prints_of Q (Q.after (f s) (line_of l)) ls) (w.tells s (line_of l))
      ∙ ap (λ (r : R). P.tells s (line_of l) ++ prints_of Q r ls) (w.after s (line_of l))
      ∙ ap (λ (t : List ℕ). P.tells s (line_of l) ++ t) (within_lines (P.after s (line_of l)) ls)

  pub within_output : (s : S) (x : List ℕ) → output_of Q (f s) x ≡ output_of P s x
  unfolding output_of
  within_output s x = within_lines s (lines_of x)
