-- What a caller from C sees of a claim: the reply, and what stands behind the pointer when the call returns. Definitions only.
use Rattle.error.specs.declared.Refusal.{Refusal}
use Rattle.std.specs.Prelude.{Bool, ℕ, Err, Ok, Result}
use Rattle.error.specs.Refusals.{reply_of}

abbrev pub claimed_reply : Result Bool Refusal → ℕ
claimed_reply (Ok h) = 0
claimed_reply (Err r) = reply_of r

-- whether it holds; a refusal leaves what stood there
abbrev pub holds_left : Result Bool Refusal → Bool → Bool
holds_left (Ok h) old = h
holds_left (Err r) old = old
