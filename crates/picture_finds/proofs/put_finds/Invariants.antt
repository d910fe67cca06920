-- The invariant: the first i finds are written, at most 288 bytes each, and no place before is empty.
use Rattle.std.proofs.Common.{◌*◌, ◌≤◌, length}
use Rattle.text.specs.Pens.{Writes}
use Rattle.picture_finds.specs.Finds.{finds_text}
use Rattle.picture_finds.specs.Contract.{leading}
use Rattle.picture_finds.proofs.put_finds.Given as goal

abbrev pub invariant-loop-i : goal.invariant-loop-i
invariant-loop-i l = (l.i ≤ length (leading l.fn.f.ys)) × Writes l.initial.pen (finds_text l.span l.m l.b l.knots l.e (leading l.fn.f.ys) l.i) (288 * l.i) l.pen
