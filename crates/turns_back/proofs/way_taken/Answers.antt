-- The ends are raised alike, so that they compare as the curve's do. Assumes nothing.
use mathlib.Core.Path.{sym, ap, ◌∙◌}
use Prim.Native.Nat.{ℕ, ◌-◌, ◌*◌}
use Rattle.basis.specs.Basis.{step_of, segments_of}
use Rattle.whole.specs.Held.{held_all}
use Rattle.whole.proofs.Held.{long}
use Rattle.turns_back.proofs.Ends.{starts_so, ends_so, upwards, downwards, level}
use Rattle.turns_back.proofs.way_taken.Goals as goal

pub returns-then-s-e : goal.returns-then-s-e
returns-then-s-e c = let a = c.args in let z = held_all a.knots.now in let p = starts_so a.b z
    c.start-s.result c.four_from-f.result.k0 c.four_from-f.result.k1 c.four_from-f.result.k2 c.four_from-f.result.k3 c.four_from-f.ensures
    c.start-s.ensures in let q = ends_so a.b z c.end-e.result
    c.last.result c.four_from-l.result.k0 c.four_from-l.result.k1 c.four_from-l.result.k2 c.four_from-l.result.k3 (c.last.ensures.is
    ∙ ap (λ (n : ℕ). (segments_of a.b n - 1) * step_of a.b)
    (sym (long a.knots.now))) c.four_from-l.ensures c.end-e.ensures in upwards c.start-s.result c.end-e.result p q c.if-s-e.true

pub returns-then-e-s : goal.returns-then-e-s
returns-then-e-s c = let a = c.args in let z = held_all a.knots.now in let p =
    starts_so a.b z c.start-s.result c.four_from-f.result.k0 c.four_from-f.result.k1 c.four_from-f.result.k2 c.four_from-f.result.k3
    c.four_from-f.ensures c.start-s.ensures in let q = ends_so a.b z
    c.end-e.result c.last.result c.four_from-l.result.k0 c.four_from-l.result.k1 c.four_from-l.result.k2 c.four_from-l.result.k3 (c.last.ensures.is
    ∙ ap (λ (n : ℕ). (segments_of a.b n - 1) *
    step_of a.b) (sym (long a.knots.now))) c.four_from-l.ensures c.end-e.ensures in downwards c.start-s.result c.end-e.result p q c.if-e-s.true

pub returns : goal.returns
returns c = let a = c.args in let z = held_all a.knots.now in let p =
    starts_so a.b z c.start-s.result c.four_from-f.result.k0 c.four_from-f.result.k1 c.four_from-f.result.k2 c.four_from-f.result.k3
    c.four_from-f.ensures c.start-s.ensures in let q = ends_so a.b z
    c.end-e.result c.last.result c.four_from-l.result.k0 c.four_from-l.result.k1 c.four_from-l.result.k2 c.four_from-l.result.k3 (c.last.ensures.is
    ∙ ap (λ (n : ℕ). (segments_of a.b n - 1) *
    step_of a.b) (sym (long a.knots.now))) c.four_from-l.ensures c.end-e.ensures in level c.start-s.result c.end-e.result p q c.if-s-e.false c.if-e-s.false
