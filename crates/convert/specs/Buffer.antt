-- A conversion's answer, and the whole buffer when the call returns. Definitions only.
use Rattle.error.specs.declared.Refusal.{Refusal}
use Rattle.std.specs.Prelude.{List, ◌++◌, ℕ, length, drop, Float, Ok, Err, Result}
use Rattle.error.specs.Refusals.{number_of}
use Rattle.convert.specs.Conversion.{Conversion, gives, refuses}

abbrev pub answer_of : Conversion → Result ℕ Refusal
answer_of (gives l) = Ok (length l)
answer_of (refuses r) = Err r

-- the number that an answer tells: the refusal's; 0 where doubles were written
abbrev pub converted_number : Result ℕ Refusal → ℕ
converted_number (Ok n) = 0
converted_number (Err r) = number_of r

-- the doubles given, then what stood there before; on a refusal what stood there before
abbrev pub buffer_of : Conversion → List Float → List Float
buffer_of (gives l) out = l ++ drop (length l) out
buffer_of (refuses r) out = out
