-- How the program holds a reply. Definitions only.
use Rattle.std.specs.Prelude.{List, ℕ, Float, take}
use Rattle.table_span.specs.Second.{spans_of, seconds_in}
use Rattle.lines_reply.specs.declared.LineReply.{LineReply}
use Rattle.lines_reply.specs.declared.LineReply.TheVariants.{Nothing, Refused, Value, Place, Curve}
use Rattle.lines_reply.specs.Reply.{Reply, silence, refused, value, place, curve}

-- room for the longest reply, a curve of 4,096 knots over CatmullRom with a span
abbrev pub longest : ℕ
longest = 90145

-- how many doubles of the lent slice belong to a reply
abbrev pub lent_of : LineReply → ℕ
lent_of Nothing = 0
lent_of (Refused r) = 0
lent_of (Value x) = 0
lent_of (Place x g n s) = 0
lent_of (Curve t n) = n

-- the reply, with the lent slice beside it
abbrev pub reply_of : LineReply → List Float → Reply
reply_of Nothing lent = silence
reply_of (Refused r) lent = refused r
reply_of (Value x) lent = value x
reply_of (Place x g n s) lent = place x g n (seconds_in s)
reply_of (Curve t n) lent = curve t.basis (spans_of t.span) (take n lent)
