-- When a claim is accepted; and each answer of an inversion with ground `value` or `edge`, of a curve by either rule of the ends and of one segment, by any
-- method, is accepted for its own segment, local place and precision: the edge's test is the claim's, and a value within the precision is within twice
-- it. Assumes nothing.
use Rattle.inverse_segment.specs.Inversion.{Inversion}
use Rattle.std.specs.Prelude.{Ok, Err, true, false}
use mathlib.Core.Path.{◌≡◌, refl, sym, subst, ◌∙◌}
use mathlib.Core.Logic.{◌⊎◌, inl, inr}
use mathlib.Core.Bool.{Bool, true, false, not, ◌&&◌}
use mathlib.Core.List.{List}
use Prim.Native.Nat.{ℕ, ◌<◌}
use native.Mathlib.Omega.{arith}
use borrow.Author.Tests.{lt-ltb, not-false}
use lib.Dec.{T, ltb}
use lib.ListN.{length}
use lib.Ieee.{Float, binary64, sub, mul, lt, le, eq, is_nan, fits, nan, inf, fin}
use lib.Ieee.Fits.{and_l, and_r, and_i}
use Rattle.error.specs.Refusals.{first, Verdict}
use Rattle.error.proofs.First.{clear, never}
use Rattle.basis.specs.declared.Basis.{Basis}
use Rattle.basis.specs.declared.Basis.TheVariants.{Bspline, Bezier, CatmullRom, Hermite, Linear, Power}
use Rattle.basis.specs.Basis.{segments_of, regular}
use Rattle.doubles.specs.Numbers.{nought, one, two, magnitude_of}
use Rattle.doubles.proofs.Bounds.{InOne}
use Rattle.doubles.proofs.Tests.{holds}
use Rattle.doubles.proofs.Units.{nought_le}
use Rattle.doubles.proofs.Order.{le_trans_float}
use Rattle.spline.specs.Segment.{segment_of}
use Rattle.checks.specs.Checks.{all_in_range, precise}
use Rattle.inverse_segment.specs.declared.Ground.{Ground}
use Rattle.inverse_segment.specs.declared.Ground.TheVariants.{End, Edge, Value, Width, Spent}
use Rattle.inverse_segment.specs.declared.Place.{Place}
use Rattle.inverse_segment.specs.Segment.{near}
use Rattle.inverse_segment.specs.Answer.{inverted, inverse_segment_uses, inverse_segment_by}
use Rattle.inverse_segment.proofs.Enclosing.{Says}
use Rattle.inverse_segment.proofs.Verdicts.{passes}
use Rattle.inverse_segment.proofs.Call.{Owed, inverse_segment_owed}
use Rattle.inverse_segment.specs.declared.Method.{Method}
use Rattle.inverse_segment.specs.Method.{rule_of}
use Rattle.inverse_segment.proofs.Lawful.{lawful_of}
use Rattle.inverse_order.specs.declared.EndsBy.{EndsBy}
use Rattle.inverse.specs.Inverse.{inverse_uses, inverse_by}
use Rattle.inverse.proofs.Facts.{AtPlace, Proper, Enclosed, GroundSays}
use Rattle.inverse.proofs.Promises.{inverse_proper, inverse_enclosed, inverse_ground, here, rule, k}
use Rattle.claim.specs.Claim.{claim_uses, accepts, claimed, claim_of}
use Rattle.claim.proofs.Swap.{difference_swapped}
use Rattle.claim.proofs.Twice.{twice_le, lt_le_trans}

-- ---- when a claim is accepted
-- no row applies, the local place lies in 0 to 1, and the segment's value there differs from the target, as computed, by less than twice the precision
pub record Accepted (b : Basis) (y : Float) (s : ℕ) (x ε : Float) (ks : List Float) : Type 0 where
  pub passed : first (claim_uses b y s x ε ks) ≡ Ok tt
  pub place : InOne x
  pub close : T (lt (magnitude_of (sub binary64 (segment_of b ks s x) y)) (mul binary64 two ε))

true_of : (t : Bool) → T t → t ≡ true
true_of true h = refl
true_of false h = absurd h

module _ (b : Basis) (y : Float) (s : ℕ) (x ε : Float) (ks : List Float) where
  abbrev v : Float
  v = segment_of b ks s x

  abbrev verdict : Verdict
  verdict = first (claim_uses b y s x ε ks)

  -- only there ..
  pub holds_only : claim_of b y s x ε ks ≡ Ok true → Accepted b y s x ε ks
  unfolding claim_of
  holds_only = go verdict refl (accepts y x v ε) refl
    where
      go : (w : Verdict) → verdict ≡ w → (t : Bool) → accepts y x v ε ≡ t → claimed w t ≡ Ok true → Accepted b y s x ε ks
      go (Ok _) e true f h =
          let a : T (accepts y x v ε) = holds f in
          let i : T (le nought x && le x one) = and_l (le nought x && le x one) (near y v ε) a in
          record {
            passed = e;
            place = record { low = and_l (le nought x) (le x one) i; high = and_r (le nought x) (le x one) i };
            close = subst T (difference_swapped y v (mul binary64 two ε)) (and_r (le nought x && le x one) (near y v ε) a);
          }
      go (Ok _) e false f h = never (cc)
      go (Err r) e t f h = never (cc)

  -- .. and everywhere there
  pub holds_where : Accepted b y s x ε ks → claim_of b y s x ε ks ≡ Ok true
  unfolding claim_of
  holds_where a =
      let c : T (near y v ε) = subst T (difference_swapped v y (mul binary64 two ε)) a.close in
      let t : accepts y x v ε ≡ true =
      true_of (accepts y x v ε) (and_i (le nought x && le x one) (near y v ε) (and_i (le nought x) (le x one) a.place.low a.place.high) c) in
      rw (a.passed, t)

  -- where no row applies it differs, or else it holds
  pub differs_where : verdict ≡ Ok tt → (Accepted b y s x ε ks → ⊥) → claim_of b y s x ε ks ≡ Ok false
  unfolding claim_of
  differs_where e n = go (accepts y x v ε) refl
    where
      go : (t : Bool) → accepts y x v ε ≡ t → claimed verdict (accepts y x v ε) ≡ Ok false
      go true f = absurd (n (holds_only (unfold claim_of in rw (e, f))))
      go false f = rw (e, f)

  pub differs_only : claim_of b y s x ε ks ≡ Ok false → (verdict ≡ Ok tt) × (Accepted b y s x ε ks → ⊥)
  unfolding claim_of
  differs_only h = (go verdict refl h, λ a. let q : Ok true ≡ Ok false = sym (holds_where a) ∙ h in never (cc))
    where
      go : (w : Verdict) → verdict ≡ w → claimed w (accepts y x v ε) ≡ Ok false → verdict ≡ Ok tt
      go (Ok _) e k = e
      go (Err r) e k = never (cc)

-- ---- the two grounds by which a place comes near the target
abbrev pub Settled : Ground → Type 0
Settled End = ⊥
Settled Edge = Unit
Settled Value = Unit
Settled Width = ⊥
Settled Spent = ⊥

module _ (f : Float → Float) (y ε x : Float) where
  abbrev Close : Type 0
  Close = T (lt (magnitude_of (sub binary64 (f x) y)) (mul binary64 two ε))

  close_of : T (near y (f x) ε) → Close
  close_of h = subst T (difference_swapped y (f x) (mul binary64 two ε)) h

  edge_close : ((x ≡ nought) × T (near y (f nought) ε)) ⊎ ((x ≡ one) × T (not (near y (f nought) ε)) × T (near y (f one) ε)) → Close
  edge_close h =
      close_of
      (elim h [
        | inl l ↦ subst (λ (z : Float). T (near y (f z) ε)) (sym l.0) l.1
        | inr r ↦ subst (λ (z : Float). T (near y (f z) ε)) (sym r.0) r.2
      ])

  value_close : T (fits binary64 ε) → T (precise ε) → T (lt (magnitude_of (sub binary64 (f x) y)) ε) → Close
  value_close d p h = lt_le_trans (magnitude_of (sub binary64 (f x) y)) ε (mul binary64 two ε) h (twice_le ε d p)

le_number : (x : Float) → T (le nought x) → is_nan x ≡ false
unfolding le lt eq is_nan
le_number nan h = absurd h
le_number (inf s) h = refl
le_number (fin s m e) h = refl

-- ---- a claim that no row refuses and that comes near
module _ (b : Basis) (y : Float) (s : ℕ) (x ε : Float) (ks : List Float) where
  none_refuses : ltb (length ks) 4 ≡ false → regular b (length ks) ≡ true → ltb 4096 (length ks) ≡ false → is_nan y ≡ false → InOne x → precise ε ≡ true
      → s < segments_of b (length ks) → all_in_range ks ≡ true → first (claim_uses b y s x ε ks) ≡ Ok tt
  none_refuses few pattern many number place sure below tame =
      let local : is_nan x ≡ false = le_number x place.low in
      let segment : ltb s (segments_of b (length ks)) ≡ true = lt-ltb s (segments_of b (length ks)) below in
      simp (few, pattern, many, number, local, sure, segment, tame)

-- where a place is told, no row applied
place_passes : (v : Verdict) (a : Inversion) (p : Place) → inverted v a ≡ Ok p → v ≡ Ok tt
place_passes (Ok _) a p h = refl
place_passes (Err r) a p h = never (cc)

-- ---- a curve's own answers
-- ε is one of the format's doubles, as every caller's precision is
module _ (m : EndsBy) (how : Method) (b : Basis) (y : Float) (ks : List Float) (check : Bool) (limit : ℕ) (ε : Float) (held : T (fits binary64 ε)) where
  pass : (p : Place) → inverse_by m how b y ks check limit ε ≡ Ok p → first (inverse_uses b y ks check limit ε) ≡ Ok tt
  unfolding inverse_by
  pass p e = place_passes (first (inverse_uses b y ks check limit ε)) (here m how b y ks check limit ε) p e

  abbrev Says-here : Ground → Place → Type 0
  Says-here = GroundSays (rule m how b y ks check limit ε).ends (rule m how b y ks check limit ε).made (segment_of b ks) (segments_of b (length ks)) y ε limit

  abbrev Enclosed-here : Ground → Place → Type 0
  Enclosed-here = Enclosed (rule m how b y ks check limit ε).ends (rule m how b y ks check limit ε).made (segment_of b ks) (segments_of b (length ks)) y ε limit

  close_by : T (precise ε) → (g : Ground) (p : Place) → Settled g → Says-here g p
      → T (lt (magnitude_of (sub binary64 (segment_of b ks p.segment p.local) y)) (mul binary64 two ε))
  close_by q End p t h = absurd t
  close_by q Edge p t h = edge_close (segment_of b ks p.segment) y ε p.local h
  close_by q Value p t h = value_close (segment_of b ks p.segment) y ε p.local held q h
  close_by q Width p t h = absurd t
  close_by q Spent p t h = absurd t

  below_by : (g : Ground) (p : Place) → Settled g → Enclosed-here g p → p.segment < segments_of b (length ks)
  below_by End p t h = absurd t
  below_by Edge p t h = h.below
  below_by Value p t h = h.below
  below_by Width p t h = absurd t
  below_by Spent p t h = absurd t

  -- its own segment, local place and precision
  pub own_accepted : (p : Place) → inverse_by m how b y ks check limit ε ≡ Ok p → Settled p.ground → claim_of b y p.segment p.local ε ks ≡ Ok true
  own_accepted p e t =
      let c = clear (inverse_uses b y ks check limit ε) (pass p e) in
      let proper : Proper p = subst (AtPlace Proper) e (inverse_proper m how b y ks check limit ε) in
      let inside : Enclosed-here p.ground p = subst (AtPlace (λ (q : Place). Enclosed-here q.ground q)) e (inverse_enclosed m how b y ks check limit ε) in
      let says : Says-here p.ground p = subst (AtPlace (λ (q : Place). Says-here q.ground q)) e (inverse_ground m how b y ks check limit ε) in
      let sure : precise ε ≡ true = not-false (precise ε) (c 6) in
      holds_where b y p.segment p.local ε ks
      (record {
        passed =
            none_refuses b y p.segment p.local ε ks (c 1) (not-false (regular b (length ks)) (c 2)) (c 3) (c 5) proper.local sure
            (below_by p.ground p t inside) (not-false (all_in_range ks) (c 4));
        place = proper.local;
        close = close_by (holds sure) p.ground p t says;
      })

-- ---- one segment's own answers: its four knots are a curve of one segment
one_segment : (b : Basis) (n : ℕ) → n ≡ 4 → (regular b n ≡ true) × (segments_of b n ≡ 1)
one_segment b n e = rw e (four b)
  where
    four : (b : Basis) → (regular b 4 ≡ true) × (segments_of b 4 ≡ 1)
    four Bspline = (refl, refl)
    four Bezier = (refl, refl)
    four CatmullRom = (refl, refl)
    four Hermite = (refl, refl)
    four Linear = (refl, refl)
    four Power = (refl, refl)

module _ (how : Method) (b : Basis) (y : Float) (cv : List Float) (limit : ℕ) (ε : Float) (held : T (fits binary64 ε)) where
  segment_pass : (p : Place) → inverse_segment_by (rule_of how) b y cv limit ε ≡ Ok p → first (inverse_segment_uses y cv limit ε) ≡ Ok tt
  unfolding inverse_segment_by
  segment_pass p e = place_passes (first (inverse_segment_uses y cv limit ε)) _ p e

  segment_close : T (precise ε) → (g : Ground) (x lower upper : Float) (rising : Bool) (n : ℕ) → Settled g
      → Says (segment_of b cv 0) y ε rising limit 2 g x lower upper n
      → T (lt (magnitude_of (sub binary64 (segment_of b cv 0 x) y)) (mul binary64 two ε))
  segment_close q End x lower upper rising n t h = absurd t
  segment_close q Edge x lower upper rising n t h = edge_close (segment_of b cv 0) y ε x h
  segment_close q Value x lower upper rising n t h = value_close (segment_of b cv 0) y ε x held q h
  segment_close q Width x lower upper rising n t h = absurd t
  segment_close q Spent x lower upper rising n t h = absurd t

  pub own_segment_accepted : (p : Place) → inverse_segment_by (rule_of how) b y cv limit ε ≡ Ok p → Settled p.ground
      → claim_of b y p.segment p.local ε cv ≡ Ok true
  own_segment_accepted p e t =
      let d = segment_pass p e in
      let c = clear (inverse_segment_uses y cv limit ε) d in
      let q = passes y cv limit ε d in
      let o : Owed (segment_of b cv 0) y ε limit (Ok p) =
      subst (Owed (segment_of b cv 0) y ε limit) e (inverse_segment_owed (rule_of how) (lawful_of how) b y cv limit ε d) in
      let w = o.1 in
      let one_of_lem = one_segment b (length cv) q.four in
      let place : InOne p.local =
      record {
        low = nought_le p.local w.inside.sign;
        high = le_trans_float p.local p.upper one w.inside.below w.bracketed.upper_in.top;
      } in
      let many : ltb 4096 (length cv) ≡ false = rw q.four refl in
      let below : p.segment < segments_of b (length cv) = rw (one_of_lem.1, o.2) (omega arith) in
      let close : T (lt (magnitude_of (sub binary64 (segment_of b cv 0 p.local) y)) (mul binary64 two ε)) =
      segment_close (holds q.precise_is) p.ground p.local p.lower p.upper (lt (segment_of b cv 0 nought) (segment_of b cv 0 one))
      p.count t w.says in
      holds_where b y p.segment p.local ε cv
      (record {
        passed = none_refuses b y p.segment p.local ε cv (c 1) one_of_lem.0 many q.number place q.precise_is below q.in_range_lem;
        place = place;
        close = subst (λ (i : ℕ). T (lt (magnitude_of (sub binary64 (segment_of b cv i p.local) y)) (mul binary64 two ε))) (sym o.2) close;
      })
