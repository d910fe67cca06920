-- The textbook cubic of a segment, in whole numbers. Definitions only.
use Rattle.std.specs.Prelude.{List, [], ℕ, ◌*◌, ℤ, pos, ◌+ℤ◌, ◌*ℤ◌, get_or}

abbrev pub at : List ℤ → ℕ → ℤ
at r i = get_or r i (pos 0)

-- z0·r0 + z1·r1 + z2·r2 + z3·r3
unfoldable pub whole_sum : List ℤ → List ℤ → ℤ
whole_sum z r = at z 0 *ℤ at r 0 +ℤ at z 1 *ℤ at r 1 +ℤ at z 2 *ℤ at r 2 +ℤ at z 3 *ℤ at r 3

-- w0·t³ + w1·t² + w2·t + w3 at t = j/256, multiplied by 256³
unfoldable pub cubic : List (List ℤ) → List ℤ → ℕ → ℤ
cubic m z j =
    whole_sum z (get_or m 0 []) *ℤ pos (j * j * j)
    +ℤ whole_sum z (get_or m 1 []) *ℤ pos (256 * j * j)
    +ℤ whole_sum z (get_or m 2 []) *ℤ pos (256 * 256 * j)
    +ℤ whole_sum z (get_or m 3 []) *ℤ pos (256 * 256 * 256)
