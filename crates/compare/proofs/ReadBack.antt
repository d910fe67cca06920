-- A comparison that was printed, read line by line, says its differences in order, then the last line, and nothing else: places below
-- 10,000, patterns below 2^64. Assumes nothing.
use Rattle.std.specs.Prelude.{Some}
use mathlib.Core.Path.{◌≡◌, refl, ap, ◌∙◌}
use mathlib.Core.Bool.{Bool, true, false, cond}
use mathlib.Core.List.{List, [], ◌∷◌, ◌++◌, append_assoc}
use Prim.Native.Nat.{ℕ, zero, suc, ◌+◌, ◌≤◌, ◌<◌, ◌^◌}
use native.Mathlib.Omega.{arith}
use lib.Dec.{eqb}
use lib.ListN.{length}
use Rattle.basis.specs.declared.Basis.{Basis}
use Rattle.basis.specs.declared.Basis.TheVariants.{Bspline, Bezier, CatmullRom, Hermite, Linear, Power}
use Rattle.table_span.specs.declared.Table.{Table}
use Rattle.text.specs.Text.{bytes, same, LF, TAB, onto, fields_of, hex_text, dec_text}
use Rattle.text.proofs.ReadBack.{parse_print}
use Rattle.text_decimals.specs.Decimals.{number_in, digits_of}
use Rattle.text_decimals.proofs.ReadBack.{number_back}
use Rattle.lines_record.specs.Record.{name_of, named_of}
use Rattle.lines_machine.specs.Program.{lines_of}
use Rattle.lines_machine.proofs.Breaking.{Free, free_append, freeb, free_of, free_hex, free_dec, field_ended, field_last, line_ended, broken}
use Rattle.compare.specs.Differences.{
  Difference,
  basis,
  span,
  knot,
  only,
  rank_of,
  basis_difference,
  span_difference,
  knots_from,
  differences_of,
  places_in,
}
use Rattle.compare.specs.Comparison.{difference_text, lines_text, last_text, comparison_text}
use Rattle.compare.specs.Printed.{Said, tells, said_by, said_in, said_over, read_of, tells_all, last_said}
use Rattle.compare.proofs.Same.{places_counted}

-- ---- names: no byte of one is a tab or an LF, and they read back
name_tab : (b : Basis) → Free TAB (name_of b)
unfolding freeb
name_tab Bspline = free_of TAB (name_of Bspline) tt
name_tab Bezier = free_of TAB (name_of Bezier) tt
name_tab CatmullRom = free_of TAB (name_of CatmullRom) tt
name_tab Hermite = free_of TAB (name_of Hermite) tt
name_tab Linear = free_of TAB (name_of Linear) tt
name_tab Power = free_of TAB (name_of Power) tt

name_lf : (b : Basis) → Free LF (name_of b)
unfolding freeb
name_lf Bspline = free_of LF (name_of Bspline) tt
name_lf Bezier = free_of LF (name_of Bezier) tt
name_lf CatmullRom = free_of LF (name_of CatmullRom) tt
name_lf Hermite = free_of LF (name_of Hermite) tt
name_lf Linear = free_of LF (name_of Linear) tt
name_lf Power = free_of LF (name_of Power) tt

name_back : (b : Basis) → named_of (name_of b) ≡ Some b
unfolding named_of same
name_back Bspline = refl
name_back Bezier = refl
name_back CatmullRom = refl
name_back Hermite = refl
name_back Linear = refl
name_back Power = refl

-- ---- a line of each kind, without its LF
abbrev pub line_text : Difference → List ℕ
line_text (basis b c) = bytes "basis\t" ++ name_of b ++ (TAB ∷ []) ++ name_of c
line_text (span r s) = bytes "span\t" ++ dec_text 9 r ++ (TAB ∷ []) ++ dec_text 9 s
line_text (knot i a b) = bytes "knot\t" ++ dec_text 3 i ++ (TAB ∷ []) ++ hex_text 16 a ++ (TAB ∷ []) ++ hex_text 16 b
line_text (only i a) = bytes "only\t" ++ dec_text 3 i ++ (TAB ∷ []) ++ hex_text 16 a

line_text_lem : (d : Difference) → difference_text d ≡ line_text d ++ (LF ∷ [])
line_text_lem (basis b c) = refl
line_text_lem (span r s) = refl
line_text_lem (knot i a b) = refl
line_text_lem (only i a) = refl

line_plain : (d : Difference) → Free LF (line_text d)
unfolding freeb
line_plain (basis b c) =
    free_append LF (bytes "basis\t" ++ name_of b ++ (TAB ∷ [])) (name_of c)
    (free_append LF (bytes "basis\t" ++ name_of b) (TAB ∷ []) (free_append LF (bytes "basis\t") (name_of b) (free_of LF (bytes "basis\t") tt) (name_lf b))
    (free_of LF (TAB ∷ []) tt)) (name_lf c)
line_plain (span r s) =
    free_append LF (bytes "span\t" ++ dec_text 9 r ++ (TAB ∷ [])) (dec_text 9 s)
    (free_append LF (bytes "span\t" ++ dec_text 9 r) (TAB ∷ [])
    (free_append LF (bytes "span\t") (dec_text 9 r) (free_of LF (bytes "span\t") tt) (free_dec LF 9 r (omega arith))) (free_of LF (TAB ∷ []) tt))
    (free_dec LF 9 s (omega arith))
line_plain (knot i a b) =
    free_append LF (bytes "knot\t" ++ dec_text 3 i ++ (TAB ∷ []) ++ hex_text 16 a ++ (TAB ∷ [])) (hex_text 16 b)
    (free_append LF (bytes "knot\t" ++ dec_text 3 i ++ (TAB ∷ []) ++ hex_text 16 a) (TAB ∷ [])
    (free_append LF (bytes "knot\t" ++ dec_text 3 i ++ (TAB ∷ [])) (hex_text 16 a)
    (free_append LF (bytes "knot\t" ++ dec_text 3 i) (TAB ∷ [])
    (free_append LF (bytes "knot\t") (dec_text 3 i) (free_of LF (bytes "knot\t") tt) (free_dec LF 3 i (omega arith))) (free_of LF (TAB ∷ []) tt))
    (free_hex LF 16 a (omega arith))) (free_of LF (TAB ∷ []) tt)) (free_hex LF 16 b (omega arith))
line_plain (only i a) =
    free_append LF (bytes "only\t" ++ dec_text 3 i ++ (TAB ∷ [])) (hex_text 16 a)
    (free_append LF (bytes "only\t" ++ dec_text 3 i) (TAB ∷ [])
    (free_append LF (bytes "only\t") (dec_text 3 i) (free_of LF (bytes "only\t") tt) (free_dec LF 3 i (omega arith))) (free_of LF (TAB ∷ []) tt))
    (free_hex LF 16 a (omega arith))

-- ---- what a line has room for
abbrev pub Fits : Difference → Type 0
Fits (basis b c) = Unit
Fits (span r s) = (r < 10 ^ 10) × (s < 10 ^ 10)
Fits (knot i a b) = (i < 10 ^ 4) × (a < 2 ^ 64) × (b < 2 ^ 64)
Fits (only i a) = (i < 10 ^ 4) × (a < 2 ^ 64)

abbrev pub AllFit : List Difference → Type 0
AllFit [] = Unit
AllFit (d ∷ ds) = Fits d × AllFit ds

-- three fields, and four
three : (w x y : List ℕ) → Free TAB w → Free TAB x → Free TAB y → fields_of (w ++ (TAB ∷ []) ++ x ++ (TAB ∷ []) ++ y) ≡ w ∷ x ∷ y ∷ []
three w x y p q r =
    ap fields_of (simp append_assoc)
    ∙ field_ended w (x ++ (TAB ∷ y)) p
    ∙ ap (λ (l : List (List ℕ)). w ∷ l) (field_ended x y q ∙ ap (λ (l : List (List ℕ)). x ∷ l) (field_last y r))

four : (w x y z : List ℕ) → Free TAB w → Free TAB x → Free TAB y → Free TAB z
    → fields_of (w ++ (TAB ∷ []) ++ x ++ (TAB ∷ []) ++ y ++ (TAB ∷ []) ++ z) ≡ w ∷ x ∷ y ∷ z ∷ []
four w x y z p q r s =
    ap fields_of (simp append_assoc)
    ∙ field_ended w (x ++ (TAB ∷ (y ++ (TAB ∷ z)))) p
    ∙ ap (λ (l : List (List ℕ)). w ∷ l)
    (field_ended x (y ++ (TAB ∷ z)) q ∙ ap (λ (l : List (List ℕ)). x ∷ l) (field_ended y z r ∙ ap (λ (l : List (List ℕ)). y ∷ l) (field_last z s)))

-- a line that was printed says its difference
pub line_back : (d : Difference) → Fits d → said_in (line_text d) ≡ tells d
unfolding said_in said_by same freeb
line_back (basis b c) h =
    ap said_by (three (bytes "basis") (name_of b) (name_of c) (free_of TAB (bytes "basis") tt) (name_tab b) (name_tab c)) ∙ rw (name_back b, name_back c) refl
line_back (span r s) h =
    ap said_by
    (three (bytes "span") (dec_text 9 r) (dec_text 9 s) (free_of TAB (bytes "span") tt) (free_dec TAB 9 r (omega arith)) (free_dec TAB 9 s (omega arith)))
    ∙ rw (number_back 9 9 r (omega arith) h.0, number_back 9 9 s (omega arith) h.1) refl
line_back (knot i a b) h =
    ap said_by
    (four (bytes "knot") (dec_text 3 i) (hex_text 16 a) (hex_text 16 b) (free_of TAB (bytes "knot") tt) (free_dec TAB 3 i (omega arith))
    (free_hex TAB 16 a (omega arith)) (free_hex TAB 16 b (omega arith)))
    ∙ rw (number_back 3 3 i (omega arith) h.0, parse_print a h.1, parse_print b h.2) refl
line_back (only i a) h =
    ap said_by
    (three (bytes "only") (dec_text 3 i) (hex_text 16 a) (free_of TAB (bytes "only") tt) (free_dec TAB 3 i (omega arith)) (free_hex TAB 16 a (omega arith)))
    ∙ rw (number_back 3 3 i (omega arith) h.0, parse_print a h.1) refl

-- ---- the lines of a comparison
unfoldable pub line_texts : List Difference → List (List ℕ)
line_texts [] = []
line_texts (d ∷ ds) = line_text d ∷ line_texts ds

-- the last line, without its LF
unfoldable pub last_line : List Difference → List ℕ
last_line [] = bytes "same"
last_line (d ∷ ds) = dec_text 3 (places_in (d ∷ ds))

lines_first : (ds : List Difference) (x : List ℕ) → lines_of (lines_text ds ++ x) ≡ line_texts ds ++ lines_of x
unfolding lines_text line_texts
lines_first [] x = refl
lines_first (d ∷ ds) x =
    ap lines_of (append_assoc (difference_text d) (lines_text ds) x ∙ ap (λ (t : List ℕ). t ++ (lines_text ds ++ x)) (line_text_lem d))
    ∙ broken (line_text d) (lines_text ds ++ x) (line_plain d)
    ∙ ap (λ (l : List (List ℕ)). line_text d ∷ l) (lines_first ds x)

lines_last : (ds : List Difference) → lines_of (last_text ds) ≡ last_line ds ∷ []
unfolding last_text last_line lines_of onto
lines_last [] = refl
lines_last (d ∷ ds) = line_ended (dec_text 3 (places_in (d ∷ ds))) [] (free_dec LF 3 (places_in (d ∷ ds)) (omega arith))

-- a line for each difference, in order, and the last: no other
pub printed_lines : (ds : List Difference) → lines_of (lines_text ds ++ last_text ds) ≡ line_texts ds ++ (last_line ds ∷ [])
printed_lines ds = lines_first ds (last_text ds) ∙ ap (λ (l : List (List ℕ)). line_texts ds ++ l) (lines_last ds)

-- ---- what they say
pub said_append : (xs ys : List (List ℕ)) → said_over (xs ++ ys) ≡ said_over xs ++ said_over ys
unfolding said_over
said_append [] ys = refl
said_append (l ∷ xs) ys = ap (λ (r : List Said). said_in l ∷ r) (said_append xs ys)

lines_say : (ds : List Difference) → AllFit ds → said_over (line_texts ds) ≡ tells_all ds
unfolding said_over line_texts tells_all
lines_say [] h = refl
lines_say (d ∷ ds) h = rw (line_back d h.0, lines_say ds h.1) refl

last_says : (ds : List Difference) → places_in ds < 10 ^ 4 → said_in (last_line ds) ≡ last_said ds
unfolding said_in said_by same last_line last_said fields_of onto number_in digits_of
last_says [] h = refl
last_says (d ∷ ds) h =
    let n = places_in (d ∷ ds) in
    ap said_by (field_last (dec_text 3 n) (free_dec TAB 3 n (omega arith))) ∙ rw (number_back 3 3 n (omega arith) h) refl

pub reads_back : (ds : List Difference) → AllFit ds → places_in ds < 10 ^ 4 → read_of (lines_text ds ++ last_text ds) ≡ tells_all ds ++ (last_said ds ∷ [])
unfolding said_over
reads_back ds h k =
    ap said_over (printed_lines ds)
    ∙ said_append (line_texts ds) (last_line ds ∷ [])
    ∙ rw (lines_say ds h, last_says ds k) refl

-- ---- the differences of two tables fit
abbrev pub Small : List ℕ → Type 0
Small [] = Unit
Small (a ∷ ks) = (a < 2 ^ 64) × Small ks

-- a table as the program holds it: its span a u32, at most 4,096 knots, each of 64 bits
pub record Held (t : Table) (ks : List ℕ) : Type 0 where
  pub span : t.span < 2 ^ 32
  pub few : length ks ≤ 4096
  pub bits : Small ks

knots_fit : (i : ℕ) (ks ls : List ℕ) → Small ks → Small ls → i + length ks ≤ 4096 → i + length ls ≤ 4096 → AllFit (knots_from i ks ls)
unfolding knots_from
knots_fit i [] [] p q h g = tt
knots_fit i [] (b ∷ ls) p q h g = ((omega arith, q.0), knots_fit (suc i) [] ls tt q.1 (omega arith) (omega arith))
knots_fit i (a ∷ ks) [] p q h g = ((omega arith, p.0), knots_fit (suc i) ks [] p.1 tt (omega arith) (omega arith))
knots_fit i (a ∷ ks) (b ∷ ls) p q h g = go (eqb a b) (knots_fit (suc i) ks ls p.1 q.1 (omega arith) (omega arith))
  where
    go : (t : Bool) → AllFit (knots_from (suc i) ks ls) → AllFit (cond t (knots_from (suc i) ks ls) (knot i a b ∷ knots_from (suc i) ks ls))
    go true r = r
    go false r = ((omega arith, p.0, q.0), r)

places_few : (i n : ℕ) (ks ls : List ℕ) → length ks ≤ n → length ls ≤ n → places_in (knots_from i ks ls) ≤ n
unfolding knots_from places_in
places_few i n [] [] h g = omega arith
places_few i zero [] (b ∷ ls) h g = absurd (omega arith)
places_few i (suc n) [] (b ∷ ls) h g = omega (arith, places_few (suc i) n [] ls (omega arith) (omega arith))
places_few i zero (a ∷ ks) ls h g = absurd (omega arith)
places_few i (suc n) (a ∷ ks) [] h g = omega (arith, places_few (suc i) n ks [] (omega arith) (omega arith))
places_few i (suc n) (a ∷ ks) (b ∷ ls) h g = go (eqb a b) (places_few (suc i) n ks ls (omega arith) (omega arith))
  where
    go : (t : Bool) → places_in (knots_from (suc i) ks ls) ≤ n → places_in (cond t (knots_from (suc i) ks ls) (knot i a b ∷ knots_from (suc i) ks ls)) ≤ suc n
    go true r = omega arith
    go false r = omega arith

module _ (t : Table) (ks : List ℕ) (u : Table) (ls : List ℕ) (h : Held t ks) (g : Held u ls) where
  pub all_fit : AllFit (differences_of t ks u ls)
  unfolding differences_of basis_difference span_difference
  all_fit = outer (eqb (rank_of t.basis) (rank_of u.basis)) (eqb t.span u.span)
    where
      places : AllFit (knots_from 0 ks ls)
      places = knots_fit 0 ks ls h.bits g.bits (omega (arith, h.few)) (omega (arith, g.few))

      two : (q : Bool) → AllFit (cond q [] (span t.span u.span ∷ []) ++ knots_from 0 ks ls)
      two true = places
      two false = ((omega (arith, h.span), omega (arith, g.span)), places)

      outer : (p q : Bool) → AllFit (cond p [] (basis t.basis u.basis ∷ []) ++ cond q [] (span t.span u.span ∷ []) ++ knots_from 0 ks ls)
      outer true q = two q
      outer false q = (tt, two q)

  few_places : places_in (differences_of t ks u ls) < 10 ^ 4
  few_places = omega (arith, places_counted t ks u ls, places_few 0 4096 ks ls h.few g.few)

  -- a printed comparison says its differences in order, then the last line, and nothing else
  pub comparison_back : read_of (comparison_text t ks u ls) ≡ tells_all (differences_of t ks u ls) ++ (last_said (differences_of t ks u ls) ∷ [])
  unfolding comparison_text
  comparison_back = reads_back (differences_of t ks u ls) all_fit few_places
