-- What the strict conversion of a table with a span promises, of its call: it refuses by the first row that applies, 14 among them; 15 exactly where the
-- span is good and a seam is lost, with the lowest segment; otherwise reply and whole buffer are the table's plain conversion's. Assumes nothing.
use Rattle.std.specs.Prelude.{Err, Result, ℕ}
use mathlib.Core.Path.{◌≡◌, refl, sym, ap, ◌∙◌}
use mathlib.Core.Bool.{Bool, true, false}
use mathlib.Core.List.{List, [], ◌∷◌}
use Prim.Native.Nat.{ℕ}
use lib.Dec.{ltb}
use lib.ListN.{length}
use lib.Ieee.{Float}
use Rattle.error.specs.declared.Refusal.{Refusal}
use Rattle.error.specs.declared.Refusal.TheVariants.{TooFew, BadPattern, TooMany, BadSpan, BadAllowance, LostSeam}
use Rattle.error.specs.Refusals.{rows, first}
use Rattle.error.proofs.First.{never, First}
use Rattle.basis.specs.declared.Basis.{Basis}
use Rattle.basis.specs.Basis.{regular}
use Rattle.checks.specs.Checks.{curve_length}
use Rattle.convert.specs.Conversion.{Conversion, gives, refuses}
use Rattle.convert.specs.Buffer.{answer_of, buffer_of}
use Rattle.convert_strict.specs.Strict.{strict_uses, strict_of}
use Rattle.convert_strict.proofs.Call.{SeamLost, strict_is_plain, lost_only, lost_where}
use Rattle.table_span.specs.declared.Table.{Table}
use Rattle.table_span.specs.Second.{good_span, bad_span}
use Rattle.table.specs.Calls.{table_converted_of, table_strict_of, handed_of}
use Rattle.table.proofs.Spans.{converted_base, converted_spanless, strict_base, strict_spanless}
use Rattle.table.proofs.table_convert_spline_strict.Reads as table_convert_spline_strict
use Rattle.calls.specs.Calls.{AsksNothing, Keeps, OneReply, Exactly}
use Rattle.promises.proofs.Orders.{Ordered}
use Rattle.promises.proofs.Seconds.{table_strict_refused, carried, kept}

pub table_strict_asks_nothing : AsksNothing table_convert_spline_strict.Asked
table_strict_asks_nothing κs a = tt

pub table_strict_one_reply : OneReply table_convert_spline_strict.Learnt (λ κs z e z' e'. (z ≡ z') × (e.1.1.1.1.0.now ≡ e'.1.1.1.1.0.now))
table_strict_one_reply κs a z z' e e' p q = (p.0 ∙ sym q.0, p.1 ∙ sym q.1)

-- ---- with a good span: the strict conversion of its knots; the new table has the old one's span
pub table_strict_base : Keeps table_convert_spline_strict.Learnt
    (λ κs a z e. good_span a.0.span ≡ true
    → (z ≡ handed_of a.0.span a.1.0 (answer_of (strict_of a.0.basis a.1.0 a.1.1.0.now a.1.1.1.0 (length a.1.1.1.1.0.now))))
    × (e.1.1.1.1.0.now ≡ buffer_of (strict_of a.0.basis a.1.0 a.1.1.0.now a.1.1.1.0 (length a.1.1.1.1.0.now))
    a.1.1.1.1.0.now))
table_strict_base κs a z e p g =
    let same = strict_base a.0 a.1.0 a.1.1.0.now a.1.1.1.0 (length a.1.1.1.1.0.now) g in (
      p.0 ∙ ap (λ (c : Conversion). handed_of a.0.span a.1.0 (answer_of c)) same,
      p.1
          ∙ ap (λ (c : Conversion). buffer_of c a.1.1.1.1.0.now) same,
    )

-- ---- refused exactly by the first row that applies, and then nothing is written
pub table_strict_refuses : Keeps table_convert_spline_strict.Learnt
    (λ κs a z e. (r : Refusal)
    → Exactly (z ≡ Err r)
    (First (bad_span a.0.span ∷ strict_uses a.0.basis a.1.0 a.1.1.0.now a.1.1.1.0 (length a.1.1.1.1.0.now)) rows r))
table_strict_refuses κs a z e p r =
    carried p.0 (table_strict_refused a.0 r a.1.0 a.1.1.0.now a.1.1.1.0 (length a.1.1.1.1.0.now))

pub table_strict_ordered : (t : Table) (to : Basis) (ks : List Float) (allowance : Float) (room : ℕ)
    → Ordered (bad_span t.span ∷ strict_uses t.basis to ks allowance room) (1 ∷ 2 ∷ 3 ∷ 14 ∷ 8 ∷ 17 ∷ 9 ∷ 4 ∷ 15 ∷ [])
table_strict_ordered t to ks allowance room = (refl, refl)

pub table_strict_writes_nothing : Keeps table_convert_spline_strict.Learnt
    (λ κs a z e. (r : Refusal) → z ≡ Err r → e.1.1.1.1.0.now ≡ a.1.1.1.1.0.now)
table_strict_writes_nothing κs a z e p r h =
    let out = a.1.1.1.1.0.now in
    p.1 ∙ kept a.0.span a.1.0 (table_strict_of a.0 a.1.0 a.1.1.0.now a.1.1.1.0 (length out)) out r (sym p.0 ∙ h)

-- ---- an answer refuses exactly where the conversion does
by_handing : (s : ℕ) (to : Basis) (x : Conversion) (z : Result (Table × ℕ) Refusal) (r : Refusal) → z ≡ handed_of s to (answer_of x)
    → Exactly (z ≡ Err r) (x ≡ refuses r)
by_handing s to (gives l) z r p = (λ h. never (cc), λ h. never (cc))
by_handing s to (refuses q) z r p = (λ h. let e : q ≡ r = cc in ap refuses e, λ h. let e : q ≡ r = cc in p ∙ ap Err e)

-- without a span: a row of the length, or 14; never 15
record Spanless (b : Basis) (n : ℕ) : Type 0 where
  row : Refusal
  told : Err row ≡ first ((BadSpan, true) ∷ curve_length b n)
  no_seam : (s : ℕ) → row ≡ LostSeam s → ⊥

spanless : (b : Basis) (n : ℕ) → Spanless b n
spanless b n = go (ltb n 4) (regular b n) (ltb 4096 n) refl refl refl
  where
    go : (few whole many : Bool) → ltb n 4 ≡ few → regular b n ≡ whole → ltb 4096 n ≡ many → Spanless b n
    go true whole many p q m = record { row = TooFew; told = rw p refl; no_seam = λ s e. never (cc) }
    go false false many p q m = record { row = BadPattern; told = rw (p, q) refl; no_seam = λ s e. never (cc) }
    go false true true p q m = record { row = TooMany; told = rw (p, q, m) refl; no_seam = λ s e. never (cc) }
    go false true false p q m = record { row = BadSpan; told = rw (p, q, m) refl; no_seam = λ s e. never (cc) }

-- ---- beside the strict and the plain conversion, with a span and without
module _ (t : Table) (to : Basis) (ks : List Float) (allowance : Float) (room : ℕ) where
  pub seam_lost : (s : ℕ)
      → Exactly (table_strict_of t to ks allowance room ≡ refuses (LostSeam s)) ((good_span t.span ≡ true) × SeamLost t.basis to ks allowance room s)
  seam_lost s = go (good_span t.span) refl
    where
      go : (g : Bool) → good_span t.span ≡ g
          → Exactly (table_strict_of t to ks allowance room ≡ refuses (LostSeam s)) ((good_span t.span ≡ true) × SeamLost t.basis to ks allowance room s)
      go true g =
          let same = strict_base t to ks allowance room g in
          (λ h. (g, lost_only t.basis to ks allowance room s (sym same ∙ h)), λ x. same ∙ lost_where t.basis to ks allowance room s x.1)
      go false g =
          let w = spanless t.basis (length ks) in
          let e = strict_spanless t to ks allowance room w.row g w.told in
          (λ h. absurd (w.no_seam s (let q : refuses w.row ≡ refuses (LostSeam s) = sym e ∙ h in cc)), λ x. never (let q = x.0 in cc))

  pub same_as_plain : (table_strict_of t to ks allowance room ≡ refuses BadAllowance → ⊥)
      → ((s : ℕ) → table_strict_of t to ks allowance room ≡ refuses (LostSeam s) → ⊥)
      → table_strict_of t to ks allowance room ≡ table_converted_of t to ks room
  same_as_plain u v = go (good_span t.span) refl
    where
      go : (g : Bool) → good_span t.span ≡ g → table_strict_of t to ks allowance room ≡ table_converted_of t to ks room
      go true g =
          let same = strict_base t to ks allowance room g in
          same ∙ strict_is_plain t.basis to ks allowance room (λ h. u (same ∙ h)) (λ s h. v s (same ∙ h)) ∙ sym (converted_base t to ks room g)
      go false g =
          let w = spanless t.basis (length ks) in
          strict_spanless t to ks allowance room w.row g w.told ∙ sym (converted_spanless t to ks room w.row g w.told)

-- 15 with segment s: the span is good, the plain conversion would answer, the allowance is good, and s is the lowest segment that loses a double
pub table_strict_lost : Keeps table_convert_spline_strict.Learnt
    (λ κs a z e. (s : ℕ)
    → Exactly (z ≡ Err (LostSeam s))
    ((good_span a.0.span ≡ true) × SeamLost a.0.basis a.1.0 a.1.1.0.now a.1.1.1.0 (length a.1.1.1.1.0.now) s))
table_strict_lost κs a z e p s =
    let room = length a.1.1.1.1.0.now in
    let x = by_handing a.0.span a.1.0 (table_strict_of a.0 a.1.0 a.1.1.0.now a.1.1.1.0 room) z (LostSeam s) p.0 in
    let y = seam_lost a.0 a.1.0 a.1.1.0.now a.1.1.1.0 room s in
    (λ h. y.0 (x.0 h), λ f. x.1 (y.1 f))

-- where neither 17 nor 15 is given, the reply and the whole buffer are those of the table's plain conversion
pub table_strict_is_the_plain : Keeps table_convert_spline_strict.Learnt
    (λ κs a z e.
    (z ≡ Err BadAllowance → ⊥)
    → ((s : ℕ) → z ≡ Err (LostSeam s) → ⊥)
    → (z ≡ handed_of a.0.span a.1.0 (answer_of (table_converted_of a.0 a.1.0 a.1.1.0.now (length a.1.1.1.1.0.now))))
    × (e.1.1.1.1.0.now ≡ buffer_of (table_converted_of a.0 a.1.0 a.1.1.0.now (length a.1.1.1.1.0.now)) a.1.1.1.1.0.now))
table_strict_is_the_plain κs a z e p u v =
    let out = a.1.1.1.1.0.now in
    let x = table_strict_of a.0 a.1.0 a.1.1.0.now a.1.1.1.0 (length out) in
    let q =
    same_as_plain a.0 a.1.0 a.1.1.0.now a.1.1.1.0 (length out)
    (λ h. u ((by_handing a.0.span a.1.0 x z BadAllowance p.0).1 h))
    (λ s h. v s ((by_handing a.0.span a.1.0 x z (LostSeam s) p.0).1 h)) in
    (p.0 ∙ ap (λ (c : Conversion). handed_of a.0.span a.1.0 (answer_of c)) q, p.1 ∙ ap (λ (c : Conversion). buffer_of c out) q)
