-- A case for each way out. Assumes nothing.
use mathlib.Core.Path.{◌∙◌}
use Rattle.turns_back.proofs.Slopes.{first_falls, last_falls, none_falls, middle_falls}
use Rattle.turns_back.proofs.is_never_negative.Goals as goal

pub returns-then-p0-n0 : goal.returns-then-p0-n0
returns-then-p0-n0 c = let a = c.args in first_falls a.p0 a.n0 a.p1 a.n1 a.p2 a.n2 c.if-p0-n0.true

pub returns-then-p2-n2 : goal.returns-then-p2-n2
returns-then-p2-n2 c = let a = c.args in last_falls a.p0 a.n0 a.p1 a.n1 a.p2 a.n2 c.if-p0-n0.false c.if-p2-n2.true

pub returns-then-n1-p1 : goal.returns-then-n1-p1
returns-then-n1-p1 c = let a = c.args in
    none_falls a.p0 a.n0 a.p1 a.n1 a.p2 a.n2 c.if-p0-n0.false c.if-p2-n2.false c.if-n1-p1.true

pub returns : goal.returns
returns c = let a = c.args in
    c.is_square_within.ensures
    ∙ middle_falls a.p0 a.n0 a.p1 a.n1 a.p2 a.n2 c.if-p0-n0.false c.if-p2-n2.false c.if-n1-p1.false
