-- Each call may be called with anything, refuses exactly where a row of the refusal table applies, by the first that does, and then leaves lent memory as it
-- was. Assumes nothing.
use Rattle.inverse_segment.specs.declared.Miss.TheVariants.{Refused}
use Rattle.std.specs.Prelude.{Ok, Err}
use mathlib.Core.Path.{◌≡◌, refl, sym, ap, ◌∙◌}
use mathlib.Core.Bool.{Bool}
use mathlib.Core.List.{List, []}
use Prim.Native.Nat.{ℕ}
use lib.ListN.{length}
use lib.Ieee.{Float}
use Rattle.error.specs.declared.Refusal.{Refusal}
use Rattle.error.specs.Refusals.{Uses, rows, first, Verdict}
use Rattle.error.proofs.First.{never, First, first_sound, first_complete}
use Rattle.error.proofs.number.Reads as number
use Rattle.error.proofs.where_told.Reads as where-told
use Rattle.error.proofs.place.Reads as place
use Rattle.error.proofs.reply.Reads as reply
use Rattle.basis.specs.declared.Basis.{Basis}
use Rattle.basis.specs.Basis.{matrix_of}
use Rattle.basis.proofs.is_len_ok.Reads as is_len_ok
use Rattle.spline.specs.Segment.{segment_value, segment_of}
use Rattle.spline.specs.Curve.{curve_value}
use Rattle.spline.specs.Evaluation.{evaluated, spline_uses, spline_of, spline_segment_uses, spline_segment_of}
use Rattle.spline.proofs.spline.Reads as spline
use Rattle.spline.proofs.spline_segment.Reads as spline_segment
use Rattle.inverse_segment.specs.declared.Method.TheVariants.{AsCrate}
use Rattle.inverse_segment.specs.Round.{Rule, as_crate}
use Rattle.inverse_segment.specs.Segment.{Outcome, enter, outcome_of}
use Rattle.inverse_order.specs.declared.EndsBy.TheVariants.{Knots}
use Rattle.inverse_segment.specs.Answer.{answered, inverted, alone, inverse_segment_uses, inverse_segment_by, default_limit, default_precision}
use Rattle.inverse_segment.proofs.Verdicts.{answered_past, refused_by}
use Rattle.inverse_segment.proofs.spline_inverse_segment_with.Reads as spline_inverse_segment_with
use Rattle.inverse_segment.proofs.spline_inverse_segment.Reads as spline_inverse_segment
use Rattle.inverse.specs.Inverse.{inverse_uses, inverse_of}
use Rattle.inverse.proofs.Refusing.{inverse_refused_only, inverse_refused_where}
use Rattle.inverse_segment.specs.Method.{rule_of}
use Rattle.inverse_segment.proofs.spline_inverse_segment_by.Reads as spline_inverse_segment_by
use Rattle.inverse.proofs.spline_inverse_by.Reads as spline_inverse_by
use Rattle.inverse.proofs.spline_inverse_with.Reads as spline_inverse_with
use Rattle.inverse.proofs.spline_inverse.Reads as spline_inverse
use Rattle.convert.specs.Output.{segment_output, spline_output}
use Rattle.convert.specs.Conversion.{Conversion, gives, refuses, unless, convert_segment_uses, converted_segment_of, convert_uses, converted_of}
use Rattle.convert.specs.Buffer.{answer_of, buffer_of}
use Rattle.convert.proofs.convert_segment.Reads as convert_segment
use Rattle.convert.proofs.convert_spline.Reads as convert_spline
use Rattle.calls.specs.Calls.{AsksNothing, Keeps, Exactly}

-- ---- no call asks anything of its caller
pub number_asks_nothing : AsksNothing number.Asked
number_asks_nothing κs a = tt

pub where_told_asks_nothing : AsksNothing where-told.Asked
where_told_asks_nothing κs a = tt

pub place_asks_nothing : AsksNothing place.Asked
place_asks_nothing κs a = tt

pub reply_asks_nothing : AsksNothing reply.Asked
reply_asks_nothing κs a = tt

pub is_len_ok_asks_nothing : AsksNothing is_len_ok.Asked
is_len_ok_asks_nothing κs a = tt

pub spline_asks_nothing : AsksNothing spline.Asked
spline_asks_nothing κs a = tt

pub spline_segment_asks_nothing : AsksNothing spline_segment.Asked
spline_segment_asks_nothing κs a = tt

pub spline_inverse_segment_with_asks_nothing : AsksNothing spline_inverse_segment_with.Asked
spline_inverse_segment_with_asks_nothing κs a = tt

pub spline_inverse_segment_asks_nothing : AsksNothing spline_inverse_segment.Asked
spline_inverse_segment_asks_nothing κs a = tt

pub spline_inverse_segment_by_asks_nothing : AsksNothing spline_inverse_segment_by.Asked
spline_inverse_segment_by_asks_nothing κs a = tt

pub spline_inverse_by_asks_nothing : AsksNothing spline_inverse_by.Asked
spline_inverse_by_asks_nothing κs a = tt

pub spline_inverse_with_asks_nothing : AsksNothing spline_inverse_with.Asked
spline_inverse_with_asks_nothing κs a = tt

pub spline_inverse_asks_nothing : AsksNothing spline_inverse.Asked
spline_inverse_asks_nothing κs a = tt

pub convert_segment_asks_nothing : AsksNothing convert_segment.Asked
convert_segment_asks_nothing κs a = tt

pub convert_spline_asks_nothing : AsksNothing convert_spline.Asked
convert_spline_asks_nothing κs a = tt

-- ---- the definitions refuse by the first row that applies, and where none does they answer
two_ways : {P Q R : Type 0} → Exactly P Q → Exactly Q R → Exactly P R
two_ways x y = (λ p. y.0 (x.0 p), λ r. x.1 (y.1 r))

by_first : (us : Uses) (r : Refusal) → Exactly (first us ≡ Err r) (First us rows r)
by_first us r = (first_sound rows us r, first_complete rows us r)

by_evaluated : (v : Verdict) (f : Float) (r : Refusal) → Exactly (evaluated v f ≡ Err r) (v ≡ Err r)
by_evaluated (Ok _) f r = (λ p. never (cc), λ p. never (cc))
by_evaluated (Err q) f r = (λ p. let s : q ≡ r = cc in ap Err s, λ p. let s : q ≡ r = cc in ap Err s)

by_inverted : (v : Verdict) (P : ℕ → Float → Float) (o : Outcome) (r : Refusal) → Exactly (inverted v (answered P o) ≡ Err (Refused r)) (v ≡ Err r)
by_inverted v P o r = (refused_by v (answered P o) r (answered_past P o), λ p. ap (λ (w : Verdict). inverted w (answered P o)) p)

by_answer : (v : Verdict) (l : List Float) (r : Refusal) → Exactly (answer_of (unless v l) ≡ Err r) (v ≡ Err r)
by_answer (Ok _) l r = (λ p. never (cc), λ p. never (cc))
by_answer (Err q) l r = (λ p. let s : q ≡ r = cc in ap Err s, λ p. let s : q ≡ r = cc in ap Err s)

pub value_refused : (b : Basis) (x : Float) (ks : List Float) (r : Refusal) → Exactly (spline_of b x ks ≡ Err r) (First (spline_uses b x ks) rows r)
unfolding spline_of
value_refused b x ks r = two_ways (by_evaluated (first (spline_uses b x ks)) (curve_value b x ks) r) (by_first (spline_uses b x ks) r)

pub segment_value_refused : (b : Basis) (x : Float) (cv : List Float) (r : Refusal)
    → Exactly (spline_segment_of b x cv ≡ Err r) (First (spline_segment_uses x cv) rows r)
unfolding spline_segment_of
segment_value_refused b x cv r =
    two_ways (by_evaluated (first (spline_segment_uses x cv)) (segment_value (matrix_of b) cv x) r) (by_first (spline_segment_uses x cv) r)

pub segment_place_refused : (R : Rule) (b : Basis) (y : Float) (cv : List Float) (limit : ℕ) (ε : Float) (r : Refusal)
    → Exactly (inverse_segment_by R b y cv limit ε ≡ Err (Refused r)) (First (inverse_segment_uses y cv limit ε) rows r)
unfolding inverse_segment_by
segment_place_refused R b y cv limit ε r =
    two_ways (by_inverted (first (inverse_segment_uses y cv limit ε)) alone (outcome_of (enter R (segment_of b cv 0) 0 y ε limit [])) r)
    (by_first (inverse_segment_uses y cv limit ε) r)

pub place_refused : (b : Basis) (y : Float) (ks : List Float) (check : Bool) (limit : ℕ) (ε : Float) (r : Refusal)
    → Exactly (inverse_of b y ks check limit ε ≡ Err (Refused r)) (First (inverse_uses b y ks check limit ε) rows r)
place_refused b y ks check limit ε r = (inverse_refused_only Knots AsCrate b y ks check limit ε r, inverse_refused_where Knots AsCrate b y ks check limit ε r)

pub segment_conversion_refused : (from to : Basis) (cv : List Float) (room : ℕ) (r : Refusal)
    → Exactly (answer_of (converted_segment_of from to cv room) ≡ Err r) (First (convert_segment_uses to cv room) rows r)
unfolding converted_segment_of
segment_conversion_refused from to cv room r =
    two_ways (by_answer (first (convert_segment_uses to cv room)) (segment_output from to cv) r) (by_first (convert_segment_uses to cv room) r)

pub conversion_refused : (from to : Basis) (ks : List Float) (room : ℕ) (r : Refusal)
    → Exactly (answer_of (converted_of from to ks room) ≡ Err r) (First (convert_uses from to ks room) rows r)
unfolding converted_of
conversion_refused from to ks room r =
    two_ways (by_answer (first (convert_uses from to ks room)) (spline_output from to ks) r) (by_first (convert_uses from to ks room) r)

-- ---- and so do the calls
pub carried : {Z : Type 0} {z d t : Z} {Q : Type 0} → z ≡ d → Exactly (d ≡ t) Q → Exactly (z ≡ t) Q
carried e x = (λ p. x.0 (sym e ∙ p), λ q. e ∙ x.1 q)

pub spline_refuses : Keeps spline.Learnt (λ κs a z e. (r : Refusal) → Exactly (z ≡ Err r) (First (spline_uses a.0 a.1.0 a.1.1.0.now) rows r))
spline_refuses κs a z e p r = carried p (value_refused a.0 a.1.0 a.1.1.0.now r)

pub spline_segment_refuses : Keeps spline_segment.Learnt
    (λ κs a z e. (r : Refusal) → Exactly (z ≡ Err r) (First (spline_segment_uses a.1.0 a.1.1.0.now) rows r))
spline_segment_refuses κs a z e p r = carried p (segment_value_refused a.0 a.1.0 a.1.1.0.now r)

pub spline_inverse_segment_with_refuses : Keeps spline_inverse_segment_with.Learnt
    (λ κs a z e. (r : Refusal) → Exactly (z ≡ Err (Refused r)) (First (inverse_segment_uses a.1.0 a.1.1.0.now a.1.1.1.0 a.1.1.1.1.0) rows r))
spline_inverse_segment_with_refuses κs a z e p r =
    carried p (segment_place_refused as_crate a.0 a.1.0 a.1.1.0.now a.1.1.1.0 a.1.1.1.1.0 r)

pub spline_inverse_segment_refuses : Keeps spline_inverse_segment.Learnt
    (λ κs a z e. (r : Refusal) → Exactly (z ≡ Err (Refused r)) (First (inverse_segment_uses a.1.0 a.1.1.0.now default_limit default_precision) rows r))
spline_inverse_segment_refuses κs a z e p r = carried p (segment_place_refused as_crate a.0 a.1.0 a.1.1.0.now default_limit default_precision r)

pub spline_inverse_segment_by_refuses : Keeps spline_inverse_segment_by.Learnt
    (λ κs a z e. (r : Refusal) → Exactly (z ≡ Err (Refused r)) (First (inverse_segment_uses a.1.0 a.1.1.0.now a.1.1.1.0 a.1.1.1.1.0) rows r))
spline_inverse_segment_by_refuses κs a z e p r =
    carried p (segment_place_refused (rule_of a.1.1.1.1.1.0) a.0 a.1.0 a.1.1.0.now a.1.1.1.0 a.1.1.1.1.0 r)

pub spline_inverse_by_refuses : Keeps spline_inverse_by.Learnt
    (λ κs a z e. (r : Refusal)
    → Exactly (z ≡ Err (Refused r)) (First (inverse_uses a.1.0 a.1.1.0 a.1.1.1.0.now a.0.check a.0.limit a.0.precision) rows r))
spline_inverse_by_refuses κs a z e p r =
    carried p (
      inverse_refused_only a.0.ends a.0.method a.1.0 a.1.1.0 a.1.1.1.0.now a.0.check a.0.limit a.0.precision
          r,
      inverse_refused_where a.0.ends a.0.method a.1.0 a.1.1.0 a.1.1.1.0.now a.0.check a.0.limit a.0.precision r,
    )

pub spline_inverse_with_refuses : Keeps spline_inverse_with.Learnt
    (λ κs a z e. (r : Refusal)
    → Exactly (z ≡ Err (Refused r))
    (First (inverse_uses a.0 a.1.0 a.1.1.0.now a.1.1.1.0 a.1.1.1.1.0 a.1.1.1.1.1.0) rows r))
spline_inverse_with_refuses κs a z e p r =
    carried p (place_refused a.0 a.1.0 a.1.1.0.now a.1.1.1.0 a.1.1.1.1.0 a.1.1.1.1.1.0 r)

pub spline_inverse_refuses : Keeps spline_inverse.Learnt
    (λ κs a z e. (r : Refusal)
    → Exactly (z ≡ Err (Refused r)) (First (inverse_uses a.0 a.1.0 a.1.1.0.now a.1.1.1.0 default_limit default_precision) rows r))
spline_inverse_refuses κs a z e p r = carried p (place_refused a.0 a.1.0 a.1.1.0.now a.1.1.1.0 default_limit default_precision r)

pub convert_segment_refuses : Keeps convert_segment.Learnt
    (λ κs a z e. (r : Refusal) → Exactly (z ≡ Err r) (First (convert_segment_uses a.1.0 a.1.1.0.now (length a.1.1.1.0.now)) rows r))
convert_segment_refuses κs a z e p r = carried p.0 (segment_conversion_refused a.0 a.1.0 a.1.1.0.now (length a.1.1.1.0.now) r)

pub convert_spline_refuses : Keeps convert_spline.Learnt
    (λ κs a z e. (r : Refusal) → Exactly (z ≡ Err r) (First (convert_uses a.0 a.1.0 a.1.1.0.now (length a.1.1.1.0.now)) rows r))
convert_spline_refuses κs a z e p r = carried p.0 (conversion_refused a.0 a.1.0 a.1.1.0.now (length a.1.1.1.0.now) r)

-- ---- a refusal writes nothing
kept : (c : Conversion) (out : List Float) (r : Refusal) → answer_of c ≡ Err r → buffer_of c out ≡ out
kept (gives l) out r p = never (cc)
kept (refuses q) out r p = refl

pub convert_segment_writes_nothing : Keeps convert_segment.Learnt (λ κs a z e. (r : Refusal) → z ≡ Err r → e.1.1.1.0.now ≡ a.1.1.1.0.now)
convert_segment_writes_nothing κs a z e p r h =
    p.1 ∙ kept (converted_segment_of a.0 a.1.0 a.1.1.0.now (length a.1.1.1.0.now)) a.1.1.1.0.now r (sym p.0 ∙ h)

pub convert_spline_writes_nothing : Keeps convert_spline.Learnt (λ κs a z e. (r : Refusal) → z ≡ Err r → e.1.1.1.0.now ≡ a.1.1.1.0.now)
convert_spline_writes_nothing κs a z e p r h =
    p.1 ∙ kept (converted_of a.0 a.1.0 a.1.1.0.now (length a.1.1.1.0.now)) a.1.1.1.0.now r (sym p.0 ∙ h)
