-- What the curve does by the direction of its ends. Assumes nothing.
use mathlib.Core.Path.{refl, sym, ◌∙◌}
use Rattle.whole.specs.Held.{held_all}
use Rattle.turns_back.specs.Call.{start_of, end_of}
use Rattle.turns_back.proofs.Ends.{by_way_lem}
use Rattle.turns_back.proofs.by_ends.Goals as goal

pub returns-in-Rising : goal.returns-in-Rising
returns-in-Rising c = let a = c.args in let z = held_all a.knots.now in by_way_lem (start_of a.b z) (end_of a.b z) a.b z (sym c.in-Rising.is ∙
    c.way_taken.ensures) c.in_direction.ensures

pub returns-in-Falling : goal.returns-in-Falling
returns-in-Falling c = let a = c.args in let z = held_all a.knots.now in by_way_lem (start_of a.b z) (end_of a.b z) a.b z (sym c.in-Falling.is ∙
    c.way_taken.ensures) c.in_direction-in-Falling.ensures

pub returns-in-Level : goal.returns-in-Level
returns-in-Level c = let a = c.args in
    let z = held_all a.knots.now in
    by_way_lem (start_of a.b z) (end_of a.b z) a.b z (sym c.in-Level.is ∙ c.way_taken.ensures) refl
