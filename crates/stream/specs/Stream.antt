-- What the answer of a read leads to, how many reads are left after it, and where reads lead. Definitions only.
use Rattle.std.specs.Prelude.{◌≡◌, Bool, cond, List, ℕ, ◌-◌, ltb, ℤ, pos, negsuc, Option, Some, None, Result, Ok, Err}
use Rattle.lines_machine.specs.Program.{Program}
use Rattle.lines_machine.specs.Bytes.{State, ran_of}
use Rattle.stream.specs.declared.Failure.{Failure}
use Rattle.stream.specs.declared.Failure.TheVariants.{Read}

-- n bytes, with more to come where there are some: no byte is the end of the input
abbrev pub brought : ℕ → Result (Option ℕ) Failure
brought n = cond (ltb 0 n) (Ok (Some n)) (Ok None)

abbrev pub failed : Result (Option ℕ) Failure
failed = Err Read

-- a read's answer is how many bytes it brought, or below 0 where it failed
abbrev pub got_of : ℤ → Result (Option ℕ) Failure
got_of (pos n) = brought n
got_of (negsuc k) = failed

-- what std answers to a read, as such a number: −1 where it failed
abbrev pub moved : {E : Type 0} → Result ℕ E → ℤ
moved (Ok n) = pos n
moved (Err e) = negsuc 0

-- one read fewer where there is more, else none
abbrev pub left_of : ℕ → Bool → ℕ
left_of before more = cond more (before - 1) 0

-- some bytes, fed to the program one after another, lead from the one state to the other
pub record Reached {S : Type 0} (P : Program S) (from to : State S) : Type 0 where
  pub bytes : List ℕ
  pub ran : to ≡ ran_of P from bytes
