-- Of the bytes that are printed: every difference has one line, nothing else has one, and the second table is rebuilt from them. Assumes
-- nothing.
use mathlib.Core.Path.{◌≡◌, refl, sym, ap, subst, ◌∙◌}
use mathlib.Core.Logic.{◌⊎◌, inl, inr}
use mathlib.Core.List.Memᴰ
use mathlib.Core.List.{
  List,
  [],
  ◌∷◌,
  ◌++◌,
  append-nil,
  Memᴰ,
}
use Prim.Native.Nat.{ℕ}
use lib.ListN.{length}
use Rattle.table_span.specs.declared.Table.{Table}
use Rattle.lines_machine.specs.Program.{lines_of}
use Rattle.compare.specs.Differences.{Difference, differences_of, rebuilt}
use Rattle.compare.specs.Comparison.{comparison_text}
use Rattle.compare.specs.Printed.{Said, tells, nothing, count, unread, said_in, said_over, read_of, told_in, tells_all, last_said, rebuilt_table}
use Rattle.compare.proofs.Listed.{Differs, all_listed, nothing_else, once}
use Rattle.compare.proofs.Rebuilt.{rebuilds}
use Rattle.compare.proofs.ReadBack.{
  line_text,
  Fits,
  AllFit,
  line_back,
  line_texts,
  last_line,
  printed_lines,
  said_append,
  Held,
  all_fit,
  comparison_back,
}

-- ---- what is told among what is said
told_append : (xs ys : List Said) → told_in (xs ++ ys) ≡ told_in xs ++ told_in ys
unfolding told_in
told_append [] ys = refl
told_append (tells d ∷ xs) ys = ap (λ (ds : List Difference). d ∷ ds) (told_append xs ys)
told_append (nothing ∷ xs) ys = told_append xs ys
told_append (count n ∷ xs) ys = told_append xs ys
told_append (unread ∷ xs) ys = told_append xs ys

told_all : (ds : List Difference) → told_in (tells_all ds) ≡ ds
unfolding told_in tells_all
told_all [] = refl
told_all (d ∷ ds) = ap (λ (es : List Difference). d ∷ es) (told_all ds)

told_last : (ds : List Difference) → told_in (last_said ds ∷ []) ≡ []
unfolding told_in last_said
told_last [] = refl
told_last (d ∷ ds) = refl

-- a line that says a difference has it told
told_by : (ls : List (List ℕ)) (l : List ℕ) (d : Difference) → Memᴰ l ls → said_in l ≡ tells d → Memᴰ d (told_in (said_over ls))
unfolding said_over told_in
told_by [] l d m e = absurd (Memᴰ.not-nil m)
told_by (k ∷ ls) l d m e = go (told_by ls l d) (Memᴰ.cases_cons m)
  where
    here : (r : Said) → r ≡ tells d → Memᴰ d (told_in (r ∷ said_over ls))
    here r q = rw q (Memᴰ.head refl)

    there : (r : Said) → Memᴰ d (told_in (said_over ls)) → Memᴰ d (told_in (r ∷ said_over ls))
    there (tells c) p = Memᴰ.tail p
    there nothing p = p
    there (count n) p = p
    there unread p = p

    go : (Memᴰ l ls → said_in l ≡ tells d → Memᴰ d (told_in (said_over ls))) → (l ≡ k) ⊎ Memᴰ l ls
        → Memᴰ d (told_in (said_in k ∷ said_over ls))
    go ih (inl q) = here (said_in k) (ap said_in (sym q) ∙ e)
    go ih (inr p) = there (said_in k) (ih p e)

-- ---- the line of a difference
its_line : (ds : List Difference) (d : Difference) → AllFit ds → Memᴰ d ds → Memᴰ (line_text d) (line_texts ds) × Fits d
unfolding line_texts
its_line [] d h m = absurd (Memᴰ.not-nil m)
its_line (e ∷ ds) d h m = go (its_line ds d h.1) (Memᴰ.cases_cons m)
  where
    go : (Memᴰ d ds → Memᴰ (line_text d) (line_texts ds) × Fits d) → (d ≡ e) ⊎ Memᴰ d ds
        → Memᴰ (line_text d) (line_text e ∷ line_texts ds) × Fits d
    go ih (inl q) = (Memᴰ.head (ap (λ c. line_text c) q), subst Fits (sym q) h.0)
    go ih (inr p) = (Memᴰ.tail (ih p).0, (ih p).1)

of_line : (ds : List Difference) (l : List ℕ) → AllFit ds → Memᴰ l (line_texts ds)
    → (d : Difference) × Memᴰ d ds × (l ≡ line_text d) × (said_in l ≡ tells d)
unfolding line_texts
of_line [] l h m = absurd (Memᴰ.not-nil m)
of_line (e ∷ ds) l h m = go (of_line ds l h.1) (Memᴰ.cases_cons m)
  where
    go : (Memᴰ l (line_texts ds) → (d : Difference) × Memᴰ d ds × (l ≡ line_text d) × (said_in l ≡ tells d))
        → (l ≡ line_text e) ⊎ Memᴰ l (line_texts ds) → (d : Difference) × Memᴰ d (e ∷ ds) × (l ≡ line_text d) × (said_in l ≡ tells d)
    go ih (inl q) = (e, Memᴰ.head refl, q, ap said_in q ∙ line_back e h.0)
    go ih (inr p) = let r = ih p in (r.0, Memᴰ.tail r.1, r.2, r.3)

module _ (t : Table) (ks : List ℕ) (u : Table) (ls : List ℕ) (h : Held t ks) (g : Held u ls) where
  -- the differences that the bytes tell are those of the two tables
  pub differences_back : told_in (read_of (comparison_text t ks u ls)) ≡ differences_of t ks u ls
  differences_back =
      let ds = differences_of t ks u ls in
      ap told_in (comparison_back t ks u ls h g)
      ∙ told_append (tells_all ds) (last_said ds ∷ [])
      ∙ rw (told_all ds, told_last ds) (append-nil ds)

  -- the lines: one for each difference, in order, and the last
  pub lines_are : lines_of (comparison_text t ks u ls) ≡ line_texts (differences_of t ks u ls) ++ (last_line (differences_of t ks u ls) ∷ [])
  unfolding comparison_text
  lines_are = printed_lines (differences_of t ks u ls)

  -- every difference has a line
  pub all_printed : (d : Difference) → Differs t ks u ls d → (l : List ℕ) × Memᴰ l (lines_of (comparison_text t ks u ls)) × (said_in l ≡ tells d)
  all_printed d p =
      let ds = differences_of t ks u ls in
      let r = its_line ds d (all_fit t ks u ls h g) (all_listed t ks u ls d p) in
      (line_text d, rw lines_are (Memᴰ.append_left (last_line ds ∷ []) r.0), line_back d r.1)

  -- and no line before or behind that one says it again
  pub once_printed : (xs ys : List (List ℕ)) (l m : List ℕ) (d : Difference) → lines_of (comparison_text t ks u ls) ≡ xs ++ (l ∷ ys) → said_in l ≡ tells d
      → Memᴰ m xs ⊎ Memᴰ m ys → said_in m ≡ tells d → ⊥
  unfolding said_over told_in
  once_printed xs ys l m d e f w k = once t ks u ls (told_in (said_over xs)) (told_in (said_over ys)) d whole (parts w)
    where
      whole : differences_of t ks u ls ≡ told_in (said_over xs) ++ (d ∷ told_in (said_over ys))
      whole =
          sym differences_back
          ∙ ap (λ (x : List (List ℕ)). told_in (said_over x)) e
          ∙ ap told_in (said_append xs (l ∷ ys))
          ∙ told_append (said_over xs) (said_in l ∷ said_over ys)
          ∙ rw f refl

      parts : Memᴰ m xs ⊎ Memᴰ m ys → Memᴰ d (told_in (said_over xs)) ⊎ Memᴰ d (told_in (said_over ys))
      parts (inl p) = inl (told_by xs m d p k)
      parts (inr p) = inr (told_by ys m d p k)

  -- every line says a difference of the two tables, but the last, which is `same` or the number of places
  pub nothing_else_printed : (l : List ℕ) → Memᴰ l (lines_of (comparison_text t ks u ls))
      → ((d : Difference) × (said_in l ≡ tells d) × Differs t ks u ls d) ⊎ (l ≡ last_line (differences_of t ks u ls))
  nothing_else_printed l m =
      let ds = differences_of t ks u ls in
      go (Memᴰ.append_cases (line_texts ds) (subst (Memᴰ l) lines_are m))
    where
      go : Memᴰ l (line_texts (differences_of t ks u ls)) ⊎ Memᴰ l (last_line (differences_of t ks u ls) ∷ [])
          → ((d : Difference) × (said_in l ≡ tells d) × Differs t ks u ls d) ⊎ (l ≡ last_line (differences_of t ks u ls))
      go (inl p) =
          let r = of_line (differences_of t ks u ls) l (all_fit t ks u ls h g) p in
          inl (r.0, r.3, nothing_else t ks u ls r.0 r.1)
      go (inr p) = inr (Memᴰ.eq_of_singleton p)

  -- the second table, from the first's knots, its own basis, span and length, and the bytes
  pub rebuilds_from_print : rebuilt_table ks u.basis u.span (length ls) (comparison_text t ks u ls) ≡ (u, ls)
  unfolding rebuilt_table
  rebuilds_from_print = ap (λ (x : List ℕ). (u, x)) (ap (rebuilt 0 (length ls) ks) differences_back ∙ rebuilds t ks u ls)

-- two tables of one basis, span and length that print alike beside a third are the same
pub print_tells : (t : Table) (ks : List ℕ) (u v : Table) (ls ms : List ℕ) → Held t ks → Held u ls → Held v ms
    → u.basis ≡ v.basis → u.span ≡ v.span → length ls ≡ length ms → comparison_text t ks u ls ≡ comparison_text t ks v ms
    → ◌≡◌ {A = Table × List ℕ} (u, ls) (v, ms)
print_tells t ks u v ls ms h g k p q r e =
    sym (rebuilds_from_print t ks u ls h g)
    ∙ rw (e, p, q, r) refl
    ∙ rebuilds_from_print t ks v ms h k
