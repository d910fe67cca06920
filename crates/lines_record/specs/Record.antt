-- What a line says: `curve` BASIS, `span` N, `knot` D, `ends` `knots` or `curve`, `at` D, `find` D, `turn` BASIS, or none of these.
-- Definitions only.
use Rattle.std.specs.Prelude.{cond, List, [], ◌∷◌, ℕ, Float, Some, None, Option}
use Rattle.basis.specs.declared.Basis.{Basis}
use Rattle.basis.specs.declared.Basis.TheVariants.{Bspline, Bezier, CatmullRom, Hermite, Linear, Power}
use Rattle.text_decimals.specs.Decimals.{number_in}
use Rattle.inverse_order.specs.declared.EndsBy.{EndsBy}
use Rattle.inverse_order.specs.declared.EndsBy.TheVariants as M
use Rattle.text.specs.Text.{bytes, same, fields_of, hex_of, double_of}
use Rattle.lines_record.specs.declared.Record.{Record}
use Rattle.lines_record.specs.declared.Record.TheVariants.{Curve, Span, Knot, Ends, At, Find, Turn, Bad}
use Rattle.lines_record.specs.declared.Word.{Word}
use Rattle.lines_record.specs.declared.Word.TheVariants as W

-- the word that s is
unfoldable pub word_of : List ℕ → Word
word_of s =
    cond (same s (bytes "curve")) W.Curve
    (cond (same s (bytes "span")) W.Span
    (cond (same s (bytes "knot")) W.Knot
    (cond (same s (bytes "ends")) W.Ends
    (cond (same s (bytes "at")) W.At
    (cond (same s (bytes "find")) W.Find
    (cond (same s (bytes "turn")) W.Turn
    W.Other))))))

-- the name of a basis
abbrev pub name_of : Basis → List ℕ
name_of Bspline = bytes "Bspline"
name_of Bezier = bytes "Bezier"
name_of CatmullRom = bytes "CatmullRom"
name_of Hermite = bytes "Hermite"
name_of Linear = bytes "Linear"
name_of Power = bytes "Power"

-- the one of some bases that s names
abbrev pub named_among : List Basis → List ℕ → Option Basis
named_among [] s = None
named_among (b ∷ bs) s = cond (same s (name_of b)) (Some b) (named_among bs s)

-- the basis that s names
unfoldable pub named_of : List ℕ → Option Basis
named_of s = named_among (Bspline ∷ Bezier ∷ CatmullRom ∷ Hermite ∷ Linear ∷ Power ∷ []) s

-- the ends that s names
unfoldable pub ends_of : List ℕ → Option EndsBy
ends_of s = cond (same s (bytes "knots")) (Some M.Knots) (cond (same s (bytes "curve")) (Some M.Curve) None)

-- a record that tells a basis, ends, a whole number, or a double
abbrev pub with_basis : (Basis → Record) → Option Basis → Record
with_basis f (Some b) = f b
with_basis f None = Bad

abbrev pub with_ends : (EndsBy → Record) → Option EndsBy → Record
with_ends f (Some m) = f m
with_ends f None = Bad

abbrev pub with_number : (ℕ → Record) → Option ℕ → Record
with_number f (Some n) = f n
with_number f None = Bad

abbrev pub with_double : (Float → Record) → Option ℕ → Record
with_double f (Some n) = f (double_of n)
with_double f None = Bad

-- the record of a word and the field after it; a span has 1 to 5 digits
unfoldable pub meaning_of : Word → List ℕ → Record
meaning_of W.Curve s = with_basis (λ b. Curve b) (named_of s)
meaning_of W.Span s = with_number (λ n. Span n) (number_in 5 s)
meaning_of W.Knot s = with_double (λ x. Knot x) (hex_of s)
meaning_of W.Ends s = with_ends (λ m. Ends m) (ends_of s)
meaning_of W.At s = with_double (λ x. At x) (hex_of s)
meaning_of W.Find s = with_double (λ x. Find x) (hex_of s)
meaning_of W.Turn s = with_basis (λ b. Turn b) (named_of s)
meaning_of W.Other s = Bad

-- a record has two fields, no more and no fewer
unfoldable pub of_fields : List (List ℕ) → Record
of_fields [] = Bad
of_fields (w ∷ []) = Bad
of_fields (w ∷ s ∷ []) = meaning_of (word_of w) s
of_fields (w ∷ s ∷ t ∷ ts) = Bad

-- what a line says
unfoldable pub record_of : List ℕ → Record
record_of l = of_fields (fields_of l)
