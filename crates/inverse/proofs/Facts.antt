-- Demand by demand, what an inversion past the refusals promises, for any curve g of k segments and any end rule e. Assumes nothing.
use Rattle.inverse_segment.specs.Inversion.{Inversion}
use Rattle.inverse_segment.specs.declared.Miss.TheVariants.{Refused, OffCurve}
use Rattle.std.specs.Prelude.{Err, Ok}
use mathlib.Core.Path.{◌≡◌, refl, ap}
use mathlib.Core.Logic.{◌⊎◌, inl, inr}
use mathlib.Core.Bool.{Bool, true, false, not, cond}
use Prim.Native.Nat.{ℕ, ◌+◌, ◌-◌, ◌≤◌, ◌<◌}
use native.Mathlib.Nat.{le_trans}
use native.Mathlib.Omega.{arith}
use lib.Dec.{T, T_not}
use lib.ListN.{length}
use lib.Ieee.{Float, binary64, sub, lt, le}
use Rattle.doubles.specs.Numbers.{nought, one, magnitude_of}
use Rattle.doubles.proofs.Tests.{branch}
use Rattle.doubles.proofs.Order.{le_trans_float}
use Rattle.doubles.proofs.Bounds.{InOne}
use Rattle.doubles.proofs.Units.{InUnit, nought_in, one_in, nought_le}
use Rattle.doubles.proofs.Share.{share_in}
use Rattle.inverse_segment.specs.declared.Ground.{Ground}
use Rattle.inverse_segment.specs.declared.Ground.TheVariants.{End, Edge, Value, Width, Spent}
use Rattle.inverse_segment.specs.declared.Place.{Place}
use Rattle.inverse_segment.specs.Agreed.{Agreed}
use Rattle.inverse_segment.specs.Evaluations.{Evaluations}
use Rattle.inverse_segment.specs.Segment.{Outcome, off, placed, encloses, near, evaluations_of}
use Rattle.inverse_segment.specs.Answer.{answered, count_told}
use Rattle.inverse_segment.proofs.Enclosing.{Numbers, Says}
use Rattle.inverse_segment.proofs.Places.{bracket_encloses}
use Rattle.inverse_segment.specs.Round.{Rule}
use Rattle.inverse_search.specs.Trial.{trial}
use Rattle.inverse_segment.proofs.Rules.{Lawful}
use Rattle.inverse_search.specs.Search.{find}
use Rattle.inverse_search.proofs.Found.{Holds}
use Rattle.inverse_search.proofs.Listed.{find_grows, find_same}
use Rattle.inverse.specs.declared.Ends.{Ends}
use Rattle.inverse.specs.EndRule.{at_low, at_high}
use Rattle.inverse.specs.Curve.{parameter_of, ended, located, evaluations}
use Rattle.inverse.proofs.Cases.{Silent, NoneHolds, Supposed, most, In, AnswerCase, at_low_lem, at_high_lem, entered, nowhere, located_told}

-- where the answer is a place, it is one of which P holds
abbrev pub AtPlace : (Place → Type 0) → Inversion → Type 0
AtPlace P (Ok p) = P p
AtPlace P (Err (OffCurve n)) = Unit
AtPlace P (Err (Refused r)) = Unit

-- where the answer is refusal 11, P holds
abbrev pub IfOff : Type 0 → Inversion → Type 0
IfOff P (Ok p) = Unit
IfOff P (Err (OffCurve n)) = P
IfOff P (Err (Refused r)) = Unit

-- parameter, local place and both bracket ends lie in 0 to 1, the lower end not above the upper
pub record Proper (p : Place) : Type 0 where
  pub parameter : InOne p.parameter
  pub local : InOne p.local
  pub lower : InOne p.lower
  pub upper : InOne p.upper
  pub order : T (le p.lower p.upper)

module _ (e : Ends) (ev : Evaluations) (g : ℕ → Float → Float) (k : ℕ) (y ε : Float) (limit : ℕ) where
  -- the segment's values at the two bracket ends enclose the target, as do those at its own ends; the local place lies between the bracket's ends, and the
  -- parameter is that of segment and local place
  pub record Enclosing (p : Place) : Type 0 where
    pub below : p.segment < k
    pub ends : T (Holds g y k p.segment)
    pub bracket : T (encloses (g p.segment p.lower) (g p.segment p.upper) y)
    pub from_lower : T (le p.lower p.local)
    pub to_upper : T (le p.local p.upper)
    pub parameter : p.parameter ≡ parameter_of k p.segment p.local

  -- so where a segment was entered: by every ground but `end`
  abbrev pub Enclosed : Ground → Place → Type 0
  Enclosed End p = Unit
  Enclosed Edge p = Enclosing p
  Enclosed Value p = Enclosing p
  Enclosed Width p = Enclosing p
  Enclosed Spent p = Enclosing p

  -- the end rule's place: local 0 of segment 0, or local 1 of the last; both bracket ends are there, and so is the parameter
  pub record EndAt (s : ℕ) (x : Float) (p : Place) : Type 0 where
    pub segment : p.segment ≡ s
    pub local : p.local ≡ x
    pub lower : p.lower ≡ x
    pub upper : p.upper ≡ x
    pub parameter : p.parameter ≡ x
    pub count : p.count ≡ length ev

  -- what each ground says
  abbrev pub GroundSays : Ground → Place → Type 0
  GroundSays End p = (T (at_low e y) × EndAt 0 nought p) ⊎ (T (not (at_low e y)) × T (at_high e y) × EndAt (k - 1) one p)
  GroundSays Edge p = let f = g p.segment
      in ((p.local ≡ nought) × T (near y (f nought) ε)) ⊎ ((p.local ≡ one) × T (not (near y (f nought) ε)) × T (near y (f one) ε))
  GroundSays Value p = T (lt (magnitude_of (sub binary64 (g p.segment p.local) y)) ε)
  GroundSays Width p = T (lt (sub binary64 p.upper p.lower) ε)
  GroundSays Spent p = (base : ℕ) × (base + limit ≤ most e ev g k y ε limit) × (p.count ≡ base + limit)

-- ---- the count
module _ (R : Rule) (e : Ends) (ev : Evaluations) (g : ℕ → Float → Float) (k : ℕ) (y ε : Float) (limit : ℕ) where
  answered_count : (P : ℕ → Float → Float) (o : Outcome) → count_told (answered P o) ≡ length (evaluations_of o)
  answered_count P (off t) = refl
  answered_count P (placed p) = refl

  -- the count is the length of the list of evaluations
  pub count_is_length : count_told (located R e ev g k y ε limit) ≡ length (evaluations R e ev g k y ε limit)
  unfolding located evaluations
  count_is_length = go (at_low e y) (at_high e y)
    where
      go : (a b : Bool)
          → count_told
          (cond a (ended ev 0 nought) (cond b (ended ev (k - 1) one) (answered (parameter_of k) (find (trial R g y ε limit) y e.rising k ev))))
          ≡ length (cond a ev (cond b ev (evaluations_of (find (trial R g y ε limit) y e.rising k ev))))
      go true b = refl
      go false true = refl
      go false false = answered_count (parameter_of k) (find (trial R g y ε limit) y e.rising k ev)

  -- those made for the end rule are listed
  pub rule_listed : (h : ℕ → Float → Float) → Agreed g h (evaluations R e ev g k y ε limit) → Agreed g h ev
  unfolding evaluations
  rule_listed h =
      let P : Evaluations → Type 0 = λ l. Agreed g h l → Agreed g h ev in
      branch P (at_low e y) (λ _ a. a) (λ _. branch P (at_high e y) (λ _ a. a) (λ _ a. find_grows g h R y ε limit e.rising k ev a))

  -- the list misses none: a curve that agrees at every listed place gets the same answer
  pub none_unlisted : (h : ℕ → Float → Float) → Agreed g h (evaluations R e ev g k y ε limit) → located R e ev g k y ε limit ≡ located R e ev h k y ε limit
  unfolding located evaluations
  none_unlisted h = go (at_low e y) (at_high e y)
    where
      go : (a b : Bool) → Agreed g h (cond a ev (cond b ev (evaluations_of (find (trial R g y ε limit) y e.rising k ev))))
          → cond a (ended ev 0 nought) (cond b (ended ev (k - 1) one) (answered (parameter_of k) (find (trial R g y ε limit) y e.rising k ev)))
          ≡ cond a (ended ev 0 nought) (cond b (ended ev (k - 1) one) (answered (parameter_of k) (find (trial R h y ε limit) y e.rising k ev)))
      go true b a = refl
      go false true a = refl
      go false false a = ap (answered (parameter_of k)) (find_same g h R y ε limit e.rising k ev a)

module _ (R : Rule) (lawful : Lawful R) (e : Ends) (ev : Evaluations) (g : ℕ → Float → Float) (k : ℕ) (y ε : Float) (limit : ℕ) (some : 0 < k)
    (fits : k ≤ 4093) (numbers : (s : ℕ) → s < k → Numbers (g s) y) where
  from_unit : (x : Float) → InUnit x → InOne x
  from_unit x u = record { low = nought_le x u.sign; high = u.top }

  nought_from : InOne nought
  nought_from = from_unit nought nought_in

  one_from : InOne one
  one_from = from_unit one one_in

  in_bounded : (p : Place) → In e ev g k y ε limit p → p.count ≤ most e ev g k y ε limit
  in_bounded p r = le_trans r.sound.count r.few

  told_bounded : (r : Inversion) → AnswerCase e ev g k y ε limit r → count_told r ≤ most e ev g k y ε limit
  told_bounded _ (at_low_lem h) = omega arith
  told_bounded _ (at_high_lem p h) = omega arith
  told_bounded _ (entered {p} q r) = in_bounded p r
  told_bounded _ (nowhere q n S) = n

  -- a place, or refusal 11: at most limit + 24 evaluations up to 12 segments, limit + 2b + 4 above
  pub count_bounded : count_told (located R e ev g k y ε limit) ≤ most e ev g k y ε limit
  count_bounded = told_bounded (located R e ev g k y ε limit) (located_told R lawful e ev g k y ε limit some fits numbers)

  in_proper : (p : Place) → In e ev g k y ε limit p → Proper p
  unfolding parameter_of
  in_proper p r =
      let b = r.sound.bracketed in
      let i = r.sound.inside in
      let u : InUnit p.local = record { sign = i.sign; held = i.held; top = le_trans_float p.local p.upper one i.below b.upper_in.top } in
      record {
        parameter = rw r.scaled (share_in k p.segment p.local r.below fits u);
        local = from_unit p.local u;
        lower = from_unit p.lower b.lower_in;
        upper = from_unit p.upper b.upper_in;
        order = b.order;
      }

  told_proper : (r : Inversion) → AnswerCase e ev g k y ε limit r → AtPlace Proper r
  unfolding le lt
  told_proper _ (at_low_lem h) = record { parameter = nought_from; local = nought_from; lower = nought_from; upper = nought_from; order = tt }
  told_proper _ (at_high_lem p h) = record { parameter = one_from; local = one_from; lower = one_from; upper = one_from; order = tt }
  told_proper _ (entered {p} q r) = in_proper p r
  told_proper _ (nowhere q n S) = tt

  -- parameter, local place and both bracket ends lie in 0 to 1, lower not above upper
  pub place_proper : AtPlace Proper (located R e ev g k y ε limit)
  place_proper = told_proper (located R e ev g k y ε limit) (located_told R lawful e ev g k y ε limit some fits numbers)

  in_enclosing : (p : Place) → In e ev g k y ε limit p → Enclosing e ev g k y ε limit p
  in_enclosing p r =
      record {
        below = r.below;
        ends = r.holds;
        bracket = bracket_encloses (g p.segment) y (lt (g p.segment nought) (g p.segment one)) (numbers p.segment r.below) r.sound.bracketed;
        from_lower = r.sound.inside.above;
        to_upper = r.sound.inside.below;
        parameter = r.scaled;
      }

  by_ground : (p : Place) (i : Ground) → Enclosing e ev g k y ε limit p → Enclosed e ev g k y ε limit i p
  by_ground p End h = tt
  by_ground p Edge h = h
  by_ground p Value h = h
  by_ground p Width h = h
  by_ground p Spent h = h

  told_enclosed : (r : Inversion) → AnswerCase e ev g k y ε limit r → AtPlace (λ p. Enclosed e ev g k y ε limit p.ground p) r
  told_enclosed _ (at_low_lem h) = tt
  told_enclosed _ (at_high_lem p h) = tt
  told_enclosed _ (entered {p} q r) = by_ground p p.ground (in_enclosing p r)
  told_enclosed _ (nowhere q n S) = tt

  -- where a segment was entered, its values at the two bracket ends enclose the target
  pub place_enclosed : AtPlace (λ p. Enclosed e ev g k y ε limit p.ground p) (located R e ev g k y ε limit)
  place_enclosed = told_enclosed (located R e ev g k y ε limit) (located_told R lawful e ev g k y ε limit some fits numbers)

  says_so : (p : Place) (base : ℕ) (i : Ground) → base + limit ≤ most e ev g k y ε limit
      → Says (g p.segment) y ε (lt (g p.segment nought) (g p.segment one)) limit base i p.local p.lower p.upper p.count
      → GroundSays e ev g k y ε limit i p
  says_so p base End few h = absurd h
  says_so p base Edge few h = h
  says_so p base Value few h = h
  says_so p base Width few h = h
  says_so p base Spent few h = (base, few, h)

  told_says : (r : Inversion) → AnswerCase e ev g k y ε limit r → AtPlace (λ p. GroundSays e ev g k y ε limit p.ground p) r
  told_says _ (at_low_lem h) = inl (h, record { segment = refl; local = refl; lower = refl; upper = refl; parameter = refl; count = refl })
  told_says _ (at_high_lem p h) = inr (p, h, record { segment = refl; local = refl; lower = refl; upper = refl; parameter = refl; count = refl })
  told_says _ (entered {p} q r) = says_so p r.base p.ground r.few r.sound.says
  told_says _ (nowhere q n S) = tt

  -- what the place's ground says of it
  pub ground_says : AtPlace (λ p. GroundSays e ev g k y ε limit p.ground p) (located R e ev g k y ε limit)
  ground_says = told_says (located R e ev g k y ε limit) (located_told R lawful e ev g k y ε limit some fits numbers)

  told_off : (r : Inversion) → AnswerCase e ev g k y ε limit r
      → IfOff (Silent e ev g k y ε limit × (Supposed e ev g k y ε limit → NoneHolds e ev g k y ε limit)) r
  told_off _ (at_low_lem h) = tt
  told_off _ (at_high_lem p h) = tt
  told_off _ (entered q r) = tt
  told_off _ (nowhere q n S) = (q, S)

  -- refusal 11 only where the end rule is silent and no segment's ends enclose the target
  pub off_only : IfOff (Silent e ev g k y ε limit × (Supposed e ev g k y ε limit → NoneHolds e ev g k y ε limit)) (located R e ev g k y ε limit)
  off_only = told_off (located R e ev g k y ε limit) (located_told R lawful e ev g k y ε limit some fits numbers)

  told_nowhere : (r : Inversion) → AnswerCase e ev g k y ε limit r → Silent e ev g k y ε limit → NoneHolds e ev g k y ε limit → (n : ℕ) × (r ≡ Err (OffCurve n))
  told_nowhere _ (at_low_lem h) q N = absurd (T_not (at_low e y) q.0 h)
  told_nowhere _ (at_high_lem p h) q N = absurd (T_not (at_high e y) q.1 h)
  told_nowhere _ (entered {p} _ r) q N = absurd (T_not (Holds g y k p.segment) (N p.segment r.below) r.holds)
  told_nowhere _ (nowhere {n} _ _ _) q N = (n, refl)

  -- and everywhere there: so a segment that is entered is never refused
  pub off_where : Silent e ev g k y ε limit → NoneHolds e ev g k y ε limit → (n : ℕ) × (located R e ev g k y ε limit ≡ Err (OffCurve n))
  off_where = told_nowhere (located R e ev g k y ε limit) (located_told R lawful e ev g k y ε limit some fits numbers)

  told_place : (r : Inversion) → AnswerCase e ev g k y ε limit r → Silent e ev g k y ε limit → Supposed e ev g k y ε limit → (s : ℕ) → s < k → T (Holds g y k s)
      → (p : Place) × (r ≡ Ok p)
  told_place _ (at_low_lem h) q S s l H = absurd (T_not (at_low e y) q.0 h)
  told_place _ (at_high_lem p h) q S s l H = absurd (T_not (at_high e y) q.1 h)
  told_place _ (entered {p} _ r) q S s l H = (p, refl)
  told_place _ (nowhere _ _ N) q S s l H = absurd (T_not (Holds g y k s) (N S s l) H)

  -- where some segment's ends enclose the target, the answer is a place
  pub place_where : Silent e ev g k y ε limit → Supposed e ev g k y ε limit → (s : ℕ) → s < k → T (Holds g y k s)
      → (p : Place) × (located R e ev g k y ε limit ≡ Ok p)
  place_where = told_place (located R e ev g k y ε limit) (located_told R lawful e ev g k y ε limit some fits numbers)
