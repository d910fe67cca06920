-- What a conversion leaves in the lent places, and a knot that finds a place or none. Assumes nothing.
use mathlib.Core.Path.{◌≡◌, refl, sym, ap, subst, ◌∙◌}
use mathlib.Core.List.{List}
use Prim.Native.Nat.{ℕ, ◌+◌, ◌≤◌}
use native.Mathlib.Omega.{arith}
use lib.ListN.{length, take, drop, length-append}
use lib.Seq.{take-append_seam}
use lib.Ieee.{Float}
use Rattle.basis.specs.declared.Basis.{Basis}
use Rattle.convert.specs.Conversion.{Conversion, gives, refuses}
use Rattle.convert.specs.Buffer.{answer_of, buffer_of}
use Rattle.error.specs.declared.Refusal.{Refusal}
use Rattle.error.specs.declared.Refusal.TheVariants.{TooMany}
use Rattle.error.proofs.First.{never}
use Rattle.std.specs.Prelude.{Option, Some, None, is_some, Ok, Err}
use Rattle.keeper.specs.Contract.{Keeps, count_after}
use Rattle.lines_record.specs.declared.Record.TheVariants.{Knot}
use Rattle.inverse_order.specs.declared.EndsBy.{EndsBy}
use Rattle.lines_reply.specs.Reply.{silence, refused, curve}
use Rattle.table_span.specs.declared.Table.{Table}
use Rattle.table_span.specs.Second.{spans_of}
use Rattle.lines_answer.specs.Answer.{places, on, curve_reply, reply_to, after_of}

-- ---- a conversion into o, which became o'
-- it wrote n knots
pub turn_written : (s : ℕ) (c : Basis) (t : Conversion) (n : ℕ) (o o' : List Float)
    → Ok n ≡ answer_of t → o' ≡ buffer_of t o → length o' ≡ places
    → (curve c (spans_of s) (take n o') ≡ curve_reply s c t) × (n ≤ places)
turn_written s c (gives l) n o o' e p f =
    let k : n ≡ length l = cc in
    let q : length o' ≡ length l + length (drop (length l) o) = ap length p ∙ length-append l (drop (length l) o) in
    (ap (curve c (spans_of s)) (rw (k, p) (take-append_seam l (drop (length l) o))), omega arith)
turn_written s c (refuses r) n o o' e p f = never (cc)

-- it was refused
pub turn_refused : (s : ℕ) (c : Basis) (t : Conversion) (r : Refusal) → Err r ≡ answer_of t → refused r ≡ curve_reply s c t
turn_refused s c (gives l) r e = never (cc)
turn_refused s c (refuses q) r e = let k : r ≡ q = cc in ap refused k

-- ---- a knot, where n stand in the table
module _ (t : Table) (m : EndsBy) (n : ℕ) (x : Float) (table : List Float) {k : Option ℕ} {table' : List Float} (h : Keeps x n table k table') where
  pub knot_held : (c : ℕ) → count_after n k ≡ c → (on t m (take c table') ≡ after_of (on t m (take n table)) (Knot x)) × (c ≤ places)
  unfolding after_of
  knot_held c e = (ap (λ (j : ℕ). on t m (take j table')) (sym e) ∙ ap (on t m) h.numbers, subst (λ (j : ℕ). j ≤ places) e h.few)

  pub knot_taken : (c : ℕ) → k ≡ Some c → silence ≡ reply_to (on t m (take n table)) (Knot x)
  unfolding reply_to
  knot_taken c e = rw (sym h.taken ∙ ap is_some e) refl

  pub knot_dropped : k ≡ None → refused TooMany ≡ reply_to (on t m (take n table)) (Knot x)
  unfolding reply_to
  knot_dropped e = rw (sym h.taken ∙ ap is_some e) refl
