-- What the keeper keeps of a further depth, or a fault.
use native.Mathlib.Omega.{arith}
use mathlib.Core.Path.{sym, ◌∙◌}
use Rattle.sheet.proofs.Lines.{depth_small, room, no_room, no_depth}
use Rattle.sheet.proofs.add.Goals as goal

pub returns-in_default : goal.returns-in_default
returns-in_default c = record { sheet = no_depth _ _ c.depth_line.ensures c.in_default.is; count_after = omega arith }

pub depth-requires : goal.depth-requires
depth-requires c = depth_small _ _ _ (sym c.depth_line.ensures ∙ c.in-Some.is)

pub returns-in-Some-keep : goal.returns-in-Some-keep
returns-in-Some-keep c = let a = c.args in
    let r = room a.b a.n a.table.now _ _ c.depth_line.ensures c.in-Some.is c.depth.ensures c.keep.ensures _ c.in-Some-keep.is in
    record { sheet = r.0; count_after = r.1 }

pub returns-in-None : goal.returns-in-None
returns-in-None c = let a = c.args in record {
  sheet = no_room a.b a.n a.table.now _ _ c.depth_line.ensures c.in-Some.is c.depth.ensures c.keep.ensures c.in-None.is;
  count_after = omega arith;
}
