-- An inversion that answered by its end rule, as the code asks for it. Definitions only.
use Rattle.inverse_segment.specs.Inversion.{Inversion}
use Rattle.inverse_segment.specs.declared.Miss.TheVariants.{Refused, OffCurve}
use Rattle.std.specs.Prelude.{Bool, true, false, Err, Ok}
use Rattle.inverse_segment.specs.declared.Ground.{Ground}
use Rattle.inverse_segment.specs.declared.Ground.TheVariants.{End, Edge, Value, Width, Spent}

abbrev pub is_end : Ground → Bool
is_end End = true
is_end Edge = false
is_end Value = false
is_end Width = false
is_end Spent = false

abbrev pub by_end : Inversion → Bool
by_end (Err m) = false
by_end (Ok p) = is_end p.ground
