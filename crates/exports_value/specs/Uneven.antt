-- What a caller from C sees of the depth at a time: the reply, and what stands behind each pointer when the call returns. Definitions only.
use Rattle.uneven.specs.declared.DepthMiss.{DepthMiss}
use Rattle.uneven.specs.declared.Depth.{Depth}
use Rattle.uneven.specs.declared.DepthMiss.TheVariants.{Refused, OffCurve}
use Rattle.std.specs.Prelude.{List, [], ◌∷◌, ℕ, ◌+◌, set, Float, Err, Ok, Result}
use Rattle.error.specs.declared.Refusal.{Refusal}
use Rattle.error.specs.declared.Refusal.TheVariants.{OffCurve as OffCurveRow}
use Rattle.error.specs.Refusals.{reply_of}
use Rattle.uneven.specs.declared.WhichTable.{WhichTable}
use Rattle.uneven.specs.declared.WhichTable.TheVariants.{Times, Depths}
use Rattle.exports_reply.specs.Replies.{ground_number}

-- the highest of 32 bits is set where the depths are meant
abbrev pub named_reply : WhichTable → Refusal → ℕ
named_reply Times r = reply_of r
named_reply Depths r = 2147483648 + reply_of r

abbrev pub sounded_reply : Result Depth DepthMiss → ℕ
sounded_reply (Ok d) = 0
sounded_reply (Err (OffCurve n)) = reply_of OffCurveRow
sounded_reply (Err (Refused t r)) = named_reply t r

-- a depth leaves all, 11 the count of the inversion, another refusal nothing
abbrev pub depth_left : Result Depth DepthMiss → Float → Float
depth_left (Ok d) old = d.depth
depth_left (Err (OffCurve n)) old = old
depth_left (Err (Refused t r)) old = old

abbrev pub depth_place_left : Result Depth DepthMiss → List Float → List Float
depth_place_left (Ok d) old = d.place.parameter ∷ d.place.local ∷ d.place.lower ∷ d.place.upper ∷ []
depth_place_left (Err (OffCurve n)) old = old
depth_place_left (Err (Refused t r)) old = old

-- ground, segment and count of the inversion, and the count of both tables
abbrev pub depth_whole_left : Result Depth DepthMiss → List ℕ → List ℕ
depth_whole_left (Ok d) old = ground_number d.place.ground ∷ d.place.segment ∷ d.place.count ∷ d.count ∷ []
depth_whole_left (Err (OffCurve n)) old = set old 2 n
depth_whole_left (Err (Refused t r)) old = old
