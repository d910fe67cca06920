-- What a caller from C sees of a stopped job: the reply, and what stands behind each pointer when the call returns. Definitions only.
use Rattle.stopped.specs.declared.Job.{Job}
use Rattle.inverse_segment.specs.declared.Miss.{Miss}
use Rattle.stopped.specs.declared.Job.TheVariants.{Flat, Before, Start, UnderWay, End, Beyond}
use Rattle.inverse_segment.specs.declared.Miss.TheVariants.{OffCurve, Refused}
use Rattle.std.specs.Prelude.{List, ℕ, Float, Ok, Err, Result}
use Rattle.error.specs.declared.Refusal.TheVariants.{OffCurve as OffCurveRow}
use Rattle.error.specs.Refusals.{reply_of}
use Rattle.exports_table.specs.Tables.{timed_place, timed_whole}

abbrev pub said_reply : Result Job Miss → ℕ
said_reply (Err (Refused r)) = reply_of r
said_reply (Err (OffCurve n)) = reply_of OffCurveRow
said_reply (Ok Flat) = 0
said_reply (Ok Before) = 0
said_reply (Ok Start) = 0
said_reply (Ok (UnderWay s p)) = 0
said_reply (Ok End) = 0
said_reply (Ok Beyond) = 0

-- what is said, from 1 to 6; a refusal leaves what stood there
abbrev pub said_job : Result Job Miss → ℕ → ℕ
said_job (Err (Refused r)) old = old
said_job (Err (OffCurve n)) old = old
said_job (Ok Flat) old = 1
said_job (Ok Before) old = 2
said_job (Ok Start) old = 3
said_job (Ok (UnderWay s p)) old = 4
said_job (Ok End) old = 5
said_job (Ok Beyond) old = 6

-- the place of a job that is under way, as an inversion of the table leaves it; else what stood there
abbrev pub said_place : Result Job Miss → List Float → List Float
said_place (Err (Refused r)) old = old
said_place (Err (OffCurve n)) old = old
said_place (Ok Flat) old = old
said_place (Ok Before) old = old
said_place (Ok Start) old = old
said_place (Ok (UnderWay s p)) old = timed_place (Ok (p, s)) old
said_place (Ok End) old = old
said_place (Ok Beyond) old = old

-- its ground, segment, count and second; refusal 11 its count
abbrev pub said_whole : Result Job Miss → List ℕ → List ℕ
said_whole (Err (Refused r)) old = old
said_whole (Err (OffCurve n)) old = timed_whole (Err (OffCurve n)) old
said_whole (Ok Flat) old = old
said_whole (Ok Before) old = old
said_whole (Ok Start) old = old
said_whole (Ok (UnderWay s p)) old = timed_whole (Ok (p, s)) old
said_whole (Ok End) old = old
said_whole (Ok Beyond) old = old
