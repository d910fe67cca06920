-- The knots' lines, one more at a time. Assumes nothing.
use mathlib.Core.Path.{◌≡◌, refl, sym, ap, ◌∙◌}
use mathlib.Core.List.{List, [], ◌∷◌, ◌++◌, append_assoc, append-nil}
use Prim.Native.Nat.{ℕ, ◌+◌, ◌<◌}
use native.Mathlib.Numerals.{add-one}
use lib.ListN.{length, take, get_or}
use lib.Seq.{take-suc}
use lib.Ieee.{Float}
use Rattle.text.specs.Text.{bytes}
use Rattle.lines_reply.specs.Reply.{line_text, knots_text}

abbrev knot_text : Float → List ℕ
knot_text x = line_text (bytes "knot\t") x

knots_snoc : (l : List Float) (x : Float) → knots_text (l ++ (x ∷ [])) ≡ knots_text l ++ knot_text x
unfolding knots_text
knots_snoc [] x = append-nil (knot_text x)
knots_snoc (y ∷ l) x =
    ap (λ (t : List ℕ). knot_text y ++ t) (knots_snoc l x)
    ∙ sym (append_assoc (knot_text y) (knots_text l) (knot_text x))

pub knots_none : knots_text [] ≡ []
unfolding knots_text
knots_none = refl

pub knots_more : (l : List Float) (i : ℕ) (d : Float) → i < length l → knots_text (take (i + 1) l) ≡ knots_text (take i l) ++ knot_text (get_or l i d)
knots_more l i d h = rw (add-one i, take-suc l i d h, knots_snoc (take i l) (get_or l i d)) refl
