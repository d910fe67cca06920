-- What a caller from C or Rust sees of the calls in whole numbers: the reply, and what stands behind each pointer when a call returns.
-- Definitions only.
use Rattle.turns_back.specs.declared.Turning.{Turning}
use Rattle.turns_back.specs.declared.Turning.TheVariants.{Flat, Never, At}
use Rattle.error.specs.declared.Refusal.{Refusal}
use Rattle.std.specs.Prelude.{List, [], ◌∷◌, ℕ, Err, Ok, Result}
use Rattle.error.specs.Refusals.{reply_of}

-- ---- where a curve turns back: 0 and the answer, or the refusal's reply and what stood there
abbrev pub turning_reply : Result Turning Refusal → ℕ
turning_reply (Err r) = reply_of r
turning_reply (Ok Never) = 0
turning_reply (Ok (At s)) = 0
turning_reply (Ok Flat) = 0

-- which answer it is, 0 never, 1 at a segment, 2 flat; and the segment, 0 where there is none
abbrev pub turning_left : Result Turning Refusal → List ℕ → List ℕ
turning_left (Err r) old = old
turning_left (Ok Never) old = 0 ∷ 0 ∷ []
turning_left (Ok (At s)) old = 1 ∷ s ∷ []
turning_left (Ok Flat) old = 2 ∷ 0 ∷ []

-- ---- a table: 0 and how many numbers were written, or the refusal's reply and what stood there
abbrev pub made_reply : Result ℕ Refusal → ℕ
made_reply (Err r) = reply_of r
made_reply (Ok n) = 0

abbrev pub written_left : Result ℕ Refusal → ℕ → ℕ
written_left (Err r) old = old
written_left (Ok n) old = n
