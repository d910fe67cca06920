-- Numbers, points, dots and the depths and times of labels, as bytes. Definitions only.
use Rattle.std.specs.Prelude.{Bool, cond, List, ◌++◌, ℕ, ◌+◌, ◌-◌, ◌/◌, ◌%◌, min, leb, ltb, eqb}
use Rattle.text.specs.Text.{bytes, dec_text}
use Rattle.text_rounded.specs.Rounded.{fixed_text}
use Rattle.picture_scale.specs.declared.Extent.{Extent}
use Rattle.picture_scale.specs.Scale.{level, row_of}

-- a word, and a number of at most four digits: every coordinate that is not constant is written so
abbrev pub numbered : List ℕ → ℕ → List ℕ
numbered w n = w ++ dec_text 3 (min n 9999)

abbrev pub point_text : Extent → ℕ → ℕ → List ℕ
point_text e x h = numbered (bytes " ") x ++ numbered (bytes ",") (row_of e h)

abbrev pub dot_text : Extent → ℕ → ℕ → List ℕ
dot_text e x h = numbered (bytes "M") x ++ numbered (bytes ",") (row_of e h) ++ bytes "h0"

-- ---- labels

-- so many thousandths, with no more digits than it takes
unfoldable pub trimmed_text : ℕ → List ℕ
trimmed_text n =
    cond (eqb (n % 1000) 0) (dec_text 12 (n / 1000))
    (cond (eqb (n % 100) 0) (fixed_text 1 (n / 100)) (cond (eqb (n % 10) 0) (fixed_text 2 (n / 10)) (fixed_text 3 n)))

-- a height, as the depth that it is of
abbrev pub label_text : ℕ → List ℕ
label_text h = cond (ltb h level) (bytes "-" ++ trimmed_text (level - h)) (trimmed_text (h - level))

-- whether a label may have more than eight characters: from 10,000,000 on, and from 1,000 on where it is not whole
unfoldable pub is_long : ℕ → Bool
is_long h = let u = (level - h) + (h - level) in cond (eqb (u % 1000) 0) (leb 10000000000 u) (leb 1000000 u)
