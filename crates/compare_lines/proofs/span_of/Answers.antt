-- Five digits are below 100,000, so the number fits 32 bits; without digits the line says nothing.
use native.Mathlib.Omega.{arith}
use mathlib.Core.Path.{sym, ◌∙◌}
use Prim.Native.Nat.{◌<◌, ◌^◌}
use Rattle.text_decimals.proofs.Digits.{number_small}
use Rattle.compare_lines.proofs.span_of.Goals as goal

pub returns-in_default : goal.returns-in_default
returns-in_default c = simp (sym c.number_in.ensures ∙ c.in_default.is)

pub overflow_cast-result : goal.overflow_cast-result
overflow_cast-result c = let h : c.in-Some.n < 10 ^ 5 = number_small 5 _ _ (sym c.number_in.ensures ∙ c.in-Some.is)
    in omega arith

pub returns : goal.returns
returns c = simp (sym c.number_in.ensures ∙ c.in-Some.is)
