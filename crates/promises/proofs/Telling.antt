-- What `turn` prints, read again after whatever came before, is the table that its conversion gives, its span included; and the span that is held is in range,
-- or none. Assumes nothing.
use mathlib.Core.Path.{◌≡◌, subst, ap, ◌∙◌}
use mathlib.Core.List.{List, [], ◌∷◌, ◌++◌}
use Prim.Native.Nat.{ℕ, zero, suc, ◌-◌, ◌*◌, ◌≤◌}
use lib.ListN.{length, drop}
use lib.Ieee.{Float, binary64}
use lib.Ieee.Fits.{add-fits}
use Rattle.error.specs.Refusals.{first}
use Rattle.basis.specs.declared.Basis.{Basis}
use Rattle.basis.specs.Basis.{step_of, segments_of}
use Rattle.convert_matrix.specs.Matrix.{Matrix, applied}
use Rattle.convert_matrix.specs.Elimination.{conversion_of}
use Rattle.convert.specs.Output.{windows, window_of, spline_output}
use Rattle.convert.specs.Conversion.{Conversion, gives, convert_uses, converted_of}
use Rattle.convert.proofs.Kept.{given, spline_length}
use Rattle.inverse_order.specs.declared.EndsBy.{EndsBy}
use Rattle.table_span.specs.declared.Table.{Table}
use Rattle.table_span.specs.Second.{day}
use Rattle.lines_answer.specs.Answer.{Curve, none, on, places, curve_reply, reply_to, after_of}
use Rattle.lines_answer.proofs.Records.{ends_before, SpanHeld, held_after}
use Rattle.lines_record.specs.declared.Record.TheVariants.{Turn}
use Rattle.lines_reply.specs.Reply.{text_of}
use Rattle.lines_machine.specs.Program.{lines_of}
use Rattle.lines.proofs.Replies.{says_of, curve_after}
use Rattle.lines.proofs.Again.{Fit, turn_again}

joined : (l r : List Float) → Fit l → Fit r → Fit (l ++ r)
joined [] r p q = q
joined (x ∷ l) r p q = (p.0, joined l r p.1 q)

dropped : (n : ℕ) (l : List Float) → Fit l → Fit (drop n l)
dropped zero l p = p
dropped (suc n) [] p = tt
dropped (suc n) (x ∷ l) p = dropped n l p.1

-- each double of a window is a sum, as rounded
applied_fit : (m : Matrix) (cv : List Float) → Fit (applied m cv)
applied_fit m cv = (add-fits binary64 _ _, (add-fits binary64 _ _, (add-fits binary64 _ _, (add-fits binary64 _ _, tt))))

windows_fit : (m : Matrix) (step stride : ℕ) (ks : List Float) (n : ℕ) → Fit (windows m step stride ks n)
unfolding windows
windows_fit m step stride ks zero = applied_fit m (drop (0 * step) ks)
windows_fit m step stride ks (suc n) =
    joined (windows m step stride ks n) (drop (4 - stride) (window_of m step ks (suc n))) (windows_fit m step stride ks n)
    (dropped (4 - stride) (window_of m step ks (suc n)) (applied_fit m (drop (suc n * step) ks)))

turned_fit : (b c : Basis) (ks : List Float) (room : ℕ) (l : List Float) → converted_of b c ks room ≡ gives l → Fit l
unfolding converted_of spline_output
turned_fit b c ks room l e =
    subst Fit (given (first (convert_uses b c ks room)) e).1 (windows_fit (conversion_of b c) (step_of b) (step_of c) ks (segments_of b (length ks) - 1))

-- the ends are those of before
pub turn_read_again : (d : Curve) (t : Table) (m : EndsBy) (c : Basis) (ks l : List Float) → t.span ≤ day → converted_of t.basis c ks places ≡ gives l
    → curve_after d (lines_of (text_of (reply_to (on t m ks) (Turn c)))) ≡ on (record { basis = c; span = t.span }) (ends_before d) l
unfolding reply_to
turn_read_again d t m c ks l h e =
    ap (λ (z : Conversion). curve_after d (lines_of (text_of (curve_reply t.span c z)))) e
    ∙ turn_again d c t.span l h (turned_fit t.basis c ks places l e) (spline_length t.basis c ks places l e).1

-- whatever lines were read
pub span_in_range : (ls : List (List ℕ)) → SpanHeld (curve_after none ls)
unfolding curve_after
span_in_range ls = go none ls tt
  where
    go : (c : Curve) (ms : List (List ℕ)) → SpanHeld c → SpanHeld (curve_after c ms)
    go c [] h = h
    go c (l ∷ ms) h = go (after_of c (says_of l)) ms (held_after c (says_of l) h)
