-- A chunk in stretches of lines, for any program: what is read and written grows by a stretch, by a line's end, and at the input's. Assumes nothing.
use mathlib.Core.Path.{◌≡◌, refl, sym, ap, subst, ◌∙◌}
use mathlib.Core.Bool.{Bool, true, false, true≢false}
use mathlib.Core.List.{List, [], ◌∷◌, ◌++◌, append-nil}
use Prim.Native.Nat.{ℕ, ◌+◌, ◌-◌, ◌≤◌, ◌<◌}
use native.Mathlib.Numerals.{add-one}
use native.Mathlib.Omega.{arith}
use borrow.Author.Tests.{eq-eqb, ne_eqb, leb-true}
use lib.Dec.{leb}
use lib.ListN.{length, take, drop, get_or, take-append-drop}
use lib.Seq.{slice, slice_empty, take-suc, take-take, take_all, drop-append-le, length-take-le}
use Rattle.text.specs.Text.{LF}
use Rattle.text.specs.Wrote.{Wrote}
use Rattle.std.proofs.lemmas.Bool.{false≢true}
use Rattle.std.proofs.lemmas.List.{length-drop}
use Rattle.text.proofs.Writing.{nothing, then}
use Rattle.lines_machine.specs.Program.{widest, Line, so, over, Program, output_of}
use Rattle.lines_machine.specs.Bytes.{State, state_at, start, push, Grown, next_of, tell_of, told_of, ran_of, last_text, end_of}
use Rattle.lines_machine.specs.Contract.{open_of, unbegun, Stretch, Fed, So}
use Rattle.lines_machine.proofs.Whole.{ran_append, told_append, whole}

-- ---- a stretch
grown_more : (o : Line) (x : List ℕ) (o' : Line) (b : ℕ) → Grown o x o' → (b ≡ LF → ⊥) → Grown o (x ++ (b ∷ [])) (push o' b)
grown_more o [] o' b e n = (n, ap (λ (u : Line). push u b) e)
grown_more o (a ∷ x) o' b g n = (g.0, grown_more (push o a) x o' b g.1 n)

slice_more : (chunk : List ℕ) (from i : ℕ) → from ≤ i → i < length chunk → slice from (i + 1) chunk ≡ slice from i chunk ++ (get_or chunk i 0 ∷ [])
slice_more chunk from i h k =
    let z : from ≤ length (take i chunk) = rw (length-take-le i chunk (omega arith)) h in
    rw (add-one i, take-suc chunk i 0 k) (drop-append-le from (take i chunk) (get_or chunk i 0 ∷ []) z)

pub slice_on : (chunk : List ℕ) (from i stop : ℕ) → from ≤ i → i ≤ length chunk → i ≤ stop
    → slice from i chunk ++ slice i stop chunk ≡ slice from stop chunk
slice_on chunk from i stop p q r =
    let z : from ≤ length (take i chunk) = rw (length-take-le i chunk q) p in
    let e : take i chunk ++ slice i stop chunk ≡ take stop chunk =
    ap (λ (t : List ℕ). t ++ slice i stop chunk) (sym (take-take i stop chunk r)) ∙ take-append-drop i (take stop chunk) in
    sym (drop-append-le from (take i chunk) (slice i stop chunk) z) ∙ ap (drop from) e

pub stretch_more : (chunk : List ℕ) (from i : ℕ) (o o' o'' : Line) → from ≤ i → i < length chunk → Grown o (slice from i chunk) o'
    → (get_or chunk i 0 ≡ LF → ⊥) → o'' ≡ push o' (get_or chunk i 0) → Grown o (slice from (i + 1) chunk) o''
stretch_more chunk from i o o' o'' h k g n e =
    rw (e, slice_more chunk from i h k) (grown_more o (slice from i chunk) o' (get_or chunk i 0) g n)

module _ {S : Type 0} (P : Program S) where
  ran_grown : (o : Line) (x : List ℕ) (o' : Line) (h : S) → Grown o x o' → ran_of P (state_at o h) x ≡ state_at o' h
  unfolding ran_of next_of
  ran_grown o [] o' h e = ap (λ (u : Line). state_at u h) (sym e)
  ran_grown o (b ∷ x) o' h g = rw (ne_eqb b LF g.0) (ran_grown (push o b) x o' h g.1)

  told_grown : (o : Line) (x : List ℕ) (o' : Line) (h : S) → Grown o x o' → told_of P (state_at o h) x ≡ []
  unfolding told_of next_of tell_of
  told_grown o [] o' h e = refl
  told_grown o (b ∷ x) o' h g = rw (ne_eqb b LF g.0) (told_grown (push o b) x o' h g.1)

  -- ---- what is read and written grows
  pub fed_none : (s : State S) (out : List ℕ) (at : ℕ) → Fed P s [] s out at out at
  unfolding ran_of told_of
  fed_none s out at = record { state = refl; wrote = nothing out at }

  pub fed_then : {s s₁ s₂ : State S} {x y : List ℕ} {out out₁ out₂ : List ℕ} {at at₁ at₂ : ℕ} → Fed P s x s₁ out at out₁ at₁ → Fed P s₁ y s₂ out₁ at₁ out₂ at₂
      → Fed P s (x ++ y) s₂ out at out₂ at₂
  fed_then {s} {s₁} {s₂} {x} {y} {out} {out₁} {out₂} {at} {at₁} {at₂} u v =
      let w : Wrote out₁ at₁ (told_of P (ran_of P s x) y) out₂ at₂ =
      subst (λ (a : State S). Wrote out₁ at₁ (told_of P a y) out₂ at₂) u.state v.wrote in
      record {
        state = v.state ∙ ap (λ (a : State S). ran_of P a y) u.state ∙ sym (ran_append P s x y);
        wrote = rw (told_append P s x y) (then u.wrote w);
      }

  pub fed_stretch : (chunk : List ℕ) (from i stop : ℕ) {o o' : Line} {s : State S} {h : S} {out out₁ : List ℕ} {at at₁ : ℕ} → from ≤ i → i ≤ length chunk
      → Fed P s (slice from i chunk) (state_at o h) out at out₁ at₁ → Stretch chunk i o stop o'
      → Fed P s (slice from stop chunk) (state_at o' h) out at out₁ at₁
  fed_stretch chunk from i stop {o} {o'} {s} {h} {out} {out₁} {at} {at₁} p q u c =
      let x : List ℕ = slice i stop chunk in
      let v : Fed P (state_at o h) x (state_at o' h) out₁ at₁ out₁ at₁ = record {
        state = sym (ran_grown o x o' h c.grown);
        wrote = rw (told_grown o x o' h c.grown) (nothing out₁ at₁);
      } in
      subst (λ (t : List ℕ). Fed P s t (state_at o' h) out at out₁ at₁) (slice_on chunk from i stop p q c.after) (fed_then u v)

  -- the end of a line, by what the program's own line does
  pub fed_line : (chunk : List ℕ) (from j : ℕ) {o : Line} {s : State S} {h h' : S} {out out₁ out₂ : List ℕ} {at at₁ at₂ : ℕ} → from ≤ j → j < length chunk
      → Fed P s (slice from j chunk) (state_at o h) out at out₁ at₁ → get_or chunk j 0 ≡ LF
      → h' ≡ P.after h o → Wrote out₁ at₁ (P.tells h o) out₂ at₂
      → Fed P s (slice from (j + 1) chunk) (state_at (so []) h') out at out₂ at₂
  unfolding ran_of told_of next_of tell_of
  fed_line chunk from j {o} {s} {h} {h'} {out} {out₁} {out₂} {at} {at₁} {at₂} p k u e a w =
      let v : Fed P (state_at o h) (get_or chunk j 0 ∷ []) (state_at (so []) h') out₁ at₁ out₂ at₂ = record {
        state = rw (eq-eqb (get_or chunk j 0) LF e) (ap (state_at (so [])) a);
        wrote = rw (eq-eqb (get_or chunk j 0) LF e, append-nil (P.tells h o)) w;
      } in
      rw (slice_more chunk from j p k) (fed_then u v)

  -- what is left of a chunk leads to where all of it does
  pub ran_rest : (rest : List ℕ) (n : ℕ) {s s' : State S} {out out' : List ℕ} {at r : ℕ} → Fed P s (take n rest) s' out at out' r
      → ran_of P s' (take (length rest - n) (drop n rest)) ≡ ran_of P s rest
  ran_rest rest n {s} {s'} u =
      let e : length (drop n rest) ≡ length rest - n = length-drop n rest in
      ap (ran_of P s') (take_all (length rest - n) (drop n rest) (omega (arith, e)))
      ∙ ap (λ (a : State S). ran_of P a (drop n rest)) u.state
      ∙ sym (ran_append P s (take n rest) (drop n rest))
      ∙ ap (ran_of P s) (take-append-drop n rest)

  pub ran_end : (s : State S) (rest : List ℕ) → length rest ≡ 0 → s ≡ ran_of P s rest
  unfolding ran_of
  ran_end s [] e = refl
  ran_end s (b ∷ l) e = absurd (omega (arith, e))

  -- ---- the end, by whether a line was begun
  pub end_unbegun : (o : Line) (h : S) {out out' : List ℕ} {at r : ℕ} → unbegun o ≡ true → Wrote out at (P.ends h) out' r
      → Wrote out at (end_of P (state_at o h)) out' r
  unfolding last_text
  end_unbegun (so []) h e w = w
  end_unbegun (so (b ∷ l)) h e w = absurd (false≢true e)
  end_unbegun over h e w = absurd (false≢true e)

  pub end_begun : (o : Line) (h : S) {h' : S} {out out₁ out₂ : List ℕ} {at a r : ℕ} → unbegun o ≡ false → h' ≡ P.after h o
      → Wrote out at (P.tells h o) out₁ a → Wrote out₁ a (P.ends h') out₂ r → Wrote out at (end_of P (state_at o h)) out₂ r
  unfolding last_text
  end_begun (so []) h n e w v = absurd (true≢false n)
  end_begun (so (b ∷ l)) h {h'} {out} {out₁} {out₂} {at} {a} {r} n e w v = then w (subst (λ (x : S). Wrote out₁ a (P.ends x) out₂ r) e v)
  end_begun over h {h'} {out} {out₁} {out₂} {at} {a} {r} n e w v = then w (subst (λ (x : S). Wrote out₁ a (P.ends x) out₂ r) e v)

  -- ---- the calls one after another
  pub so_none : (h : S) → So P h (start h) [] []
  unfolding ran_of told_of
  so_none h = record { state = refl; wrote = refl }

  pub so_fed : {h : S} {s s' : State S} {x w c out out' : List ℕ} {r : ℕ} → So P h s x w → Fed P s c s' out 0 out' r
      → So P h s' (x ++ c) (w ++ take r out')
  so_fed {h} {s} {s'} {x} {w} {c} p u = record {
    state = u.state ∙ ap (λ (a : State S). ran_of P a c) p.state ∙ sym (ran_append P (start h) x c);
    wrote =
        ap (λ (a : List ℕ). w ++ a) (u.wrote.front ∙ ap (λ (a : State S). told_of P a c) p.state)
        ∙ ap (λ (a : List ℕ). a ++ told_of P (ran_of P (start h) x) c) p.wrote
        ∙ sym (told_append P (start h) x c);
  }

  -- what is written in all is the program's output
  pub so_ended : {h : S} {s : State S} {x w out out' : List ℕ} {r : ℕ} → So P h s x w → Wrote out 0 (end_of P s) out' r → w ++ take r out' ≡ output_of P h x
  so_ended {h} {s} {x} {w} p u =
      ap (λ (a : List ℕ). w ++ a) (u.front ∙ ap (λ (a : State S). end_of P a) p.state)
      ∙ ap (λ (a : List ℕ). a ++ end_of P (ran_of P (start h) x)) p.wrote
      ∙ whole P h x
