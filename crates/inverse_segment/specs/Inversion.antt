-- What an inversion answers: a place, or why there is none. Definitions only.
use Rattle.std.specs.Prelude.{Result}
use Rattle.inverse_segment.specs.declared.Place.{Place}
use Rattle.inverse_segment.specs.declared.Miss.{Miss}

abbrev pub Inversion : Type 0
Inversion = Result Place Miss
