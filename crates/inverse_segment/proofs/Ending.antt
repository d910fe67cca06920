-- A lawful rule kept to the pace ends in time. Before round i the bracket spans at most 2^(5 - i) + 6·2^-53; so, with a precision above 2^(5 - N) + 7·2^-53,
-- the width test stops round N at the latest, after at most N evaluations in the rounds, and the limit is never told as spent if it is above N. For any
-- function
-- of the local place. Assumes nothing.
use mathlib.Core.Path.{◌≡◌, refl, sym, ap, ◌∙◌, subst, subst₂}
use mathlib.Core.Logic.{inl, inr}
use mathlib.Core.Bool.{Bool, true, false, not, beq}
use Prim.Native.Nat.{ℕ, zero, suc, ◌+◌, ◌-◌, ◌*◌, ◌^◌, ◌≤◌, ◌<◌}
use native.Mathlib.Nat.{le_trans, le_of_eq, lt_of_le_of_lt, le_antisymm, mul-one, one-mul, mul_comm, mul_assoc, mul-pos, two-pow-succ}
use native.Mathlib.Omega.{arith}
use lib.IntN.{negsuc}
use lib.Dec.{T, T_not, lit<, lit≤}
use lib.Pow.{pow_pos, pow-lt}
use lib.ListN.{length}
use lib.Ieee.{Float, nan, inf, fin, binary64, emax, low, sub, mul, lt, le, eq, is_nan}
use lib.Ieee.Fits.{sub-fits}
use lib.Ieee.Exact.{HasValue}
use lib.Ieee.Scale.{grid, overflow, round_val}
use Rattle.doubles.specs.Numbers.{one, half, trillionth, magnitude_of}
use Rattle.doubles.proofs.Tests.{branch}
use Rattle.doubles.proofs.Order.{not-lt→le, le_trans_float, lt_le_absurd}
use Rattle.doubles.proofs.Rounding.{le_or_lt, Short, grid_le, grid_short_ge}
use Rattle.doubles.proofs.Units.{clear, units_of, mul_at, in_order, InUnit, nought_in, one_in, magnitude_clear, sub_clear, trillionth_le}
use Rattle.doubles.proofs.Interpolation.{Inside}
use Rattle.inverse_segment.specs.declared.Ground.{Ground}
use Rattle.inverse_segment.specs.declared.Ground.TheVariants.{End, Edge, Value, Width, Spent}
use Rattle.inverse_segment.specs.declared.Bracket.{Bracket}
use Rattle.inverse_segment.specs.declared.State.{State}
use Rattle.inverse_segment.specs.Evaluations.{Evaluations}
use Rattle.inverse_segment.specs.Round.{narrow, midpoint, Choice, Rule, moved, Round, found, on, settled, probed, round_of}
use Rattle.inverse_segment.specs.Rounds.{Arrival, rounds}
use Rattle.inverse_segment.specs.Segment.{opening, start}
use Rattle.inverse_segment.proofs.Rules.{Placing, Lawful}
use Rattle.inverse_segment.specs.Steady.{allowed, paced}
use Rattle.inverse_segment.proofs.Halving.{apart, middle}
use Rattle.inverse_segment.proofs.Lawful.{paced_lawful}

-- ---- units: 2 ^ C of them are one, and 2 ^ J are 2^-53
abbrev C : ℕ
C = low binary64

abbrev J : ℕ
J = 1021

one_at : HasValue one false (2 ^ C) (2 ^ C)
one_at = (refl, one-mul (2 ^ C) ∙ sym (mul-one (2 ^ C)))

-- ---- the width allowed in round i is 2 ^ (C + 4 - i) units
halved_power : (x : Float) (k : ℕ) → 2 ^ k < overflow binary64 → HasValue x false (2 ^ suc k) (2 ^ C) → HasValue (mul binary64 x half) false (2 ^ k) (2 ^ C)
halved_power x k small v =
    let f = binary64 in
    let a = 2 ^ suc k * (1 * 1) in
    let d = 2 ^ C * 2 ^ 1 in
    let D : 0 < d = mul-pos (pow_pos C) (pow_pos 1) in
    let e : a * 2 ^ C ≡ 1 * 2 ^ k * d = same (2 ^ k) (2 ^ C) (2 ^ suc k) (two-pow-succ k) in
    let s : Short f (1 * 2 ^ k) = record { q = 1; j = k; short = lit< tt; whole = refl } in
    let g : grid f a d ≡ 2 ^ k =
    le_antisymm (grid_le f a d 1 k D (lit< tt) (le_of_eq e)) (grid_short_ge f a d (1 * 2 ^ k) D s (le_of_eq (sym e))) ∙ one-mul (2 ^ k) in
    subst (λ (z : ℕ). HasValue (mul f x half) false z (2 ^ C)) g
    (rw (mul_at f x 1 (negsuc 0) (2 ^ suc k) v) (round_val f a d (subst (λ (z : ℕ). z < overflow f) (sym g) small)))
  where
    same : (p c q : ℕ) → q ≡ p + p → q * (1 * 1) * c ≡ 1 * p * (c * 2 ^ 1)
    same p c q e = rw e (go p c)
      where
        go : (p c : ℕ) → (p + p) * (1 * 1) * c ≡ 1 * p * (c * 2 ^ 1)
        go p c =
            ap (λ (z : ℕ). z * c) (mul-one (p + p)) ∙ ap (λ (z : ℕ). z * c) (let h : p + p ≡ p * 2 = omega arith in h) ∙ mul_assoc p 2 c
            ∙ ap (λ (z : ℕ). p * z) (mul_comm 2 c) ∙ ap (λ (z : ℕ). z * (c * 2)) (sym (one-mul p))

pub allowed_at : (i k : ℕ) → i + k ≡ C + 4 → HasValue (allowed i) false (2 ^ k) (2 ^ C)
unfolding allowed
allowed_at zero k e = let q : C + 4 ≡ k = omega (arith, e) in subst (λ (z : ℕ). HasValue (allowed 0) false (2 ^ z) (2 ^ C)) q (refl, refl)
allowed_at (suc i) k e =
    halved_power (allowed i) k
    (pow-lt {j = low binary64 + suc (emax binary64)} (lt_of_le_of_lt (le_of k e) (lit< {n = low binary64 + suc (emax binary64)} tt)))
    (allowed_at i (suc k) (omega (arith, e)))
  where
    le_of : (k : ℕ) → suc i + k ≡ C + 4 → k ≤ 1078
    le_of k e = omega (arith, e)

-- ---- how far apart the two places are
-- at most n units
pub record Spans (b : Bracket) (n : ℕ) : Type 0 where
  pub L : ℕ
  pub H : ℕ
  pub lower_is : HasValue b.lower false L (2 ^ C)
  pub upper_is : HasValue b.upper false H (2 ^ C)
  pub order : L ≤ H
  pub top : H ≤ 2 ^ C
  pub most : H ≤ L + n

-- a place that splits the bracket, so that each part spans at most n units
record Splits (b : Bracket) (n : ℕ) (x : Float) : Type 0 where
  at : ℕ
  x_is : HasValue x false at (2 ^ C)
  L : ℕ
  H : ℕ
  lower_is : HasValue b.lower false L (2 ^ C)
  upper_is : HasValue b.upper false H (2 ^ C)
  above : L ≤ at
  below : at ≤ H
  top : H ≤ 2 ^ C
  left : at ≤ L + n
  right : H ≤ at + n

-- any place inside does, with the span of the whole
inside_splits : (b : Bracket) (n m : ℕ) (x : Float) (S : Spans b n) → Inside b.lower b.upper x → S.H ≤ S.L + m → Splits b m x
inside_splits b n m x S i h =
    let U = units_of binary64 x i.held i.sign in
    let a : S.L ≤ U.h = in_order binary64 b.lower x S.L U.h S.lower_is U.is i.above in
    let z : U.h ≤ S.H = in_order binary64 x b.upper U.h S.H U.is S.upper_is i.below in
    record {
      at = U.h;
      x_is = U.is;
      L = S.L;
      H = S.H;
      lower_is = S.lower_is;
      upper_is = S.upper_is;
      above = a;
      below = z;
      top = S.top;
      left = le_trans z h;
      right = le_trans h (more S.L U.h m a);
    }
  where
    more : (a b m : ℕ) → a ≤ b → a + m ≤ b + m
    more a b m h = omega arith

-- the midpoint, with half the span and 6·2^-53 / 2 more
half_left : (L H R n m g : ℕ) → H ≤ L + n → n + 6 * g ≤ 2 * m → 2 * R ≤ L + H + 6 * g → R ≤ L + m
half_left L H R n m g a b c = omega arith

half_right : (L H R n m g : ℕ) → H ≤ L + n → n + 6 * g ≤ 2 * m → L + H ≤ 2 * R + 6 * g → H ≤ R + m
half_right L H R n m g a b c = omega arith

midpoint_splits : (b : Bracket) (n m : ℕ) → Spans b n → Inside b.lower b.upper (midpoint b) → n + 6 * 2 ^ J ≤ 2 * m → Splits b m (midpoint b)
midpoint_splits b n m S i h =
    let r = middle b.lower b.upper S.L S.H S.order S.top S.lower_is S.upper_is in
    let R = r.0 in
    record {
      at = R;
      x_is = r.1;
      L = S.L;
      H = S.H;
      lower_is = S.lower_is;
      upper_is = S.upper_is;
      above = in_order binary64 b.lower (midpoint b) S.L R S.lower_is r.1 i.above;
      below = in_order binary64 (midpoint b) b.upper R S.H r.1 S.upper_is i.below;
      top = S.top;
      left = half_left S.L S.H R n m (2 ^ J) S.most h r.2;
      right = half_right S.L S.H R n m (2 ^ J) S.most h r.3;
    }

-- ---- the bound before round i
abbrev pub most_units : ℕ → ℕ
most_units i = 2 ^ (C + 5 - i) + 6 * 2 ^ J

number_of : (x : Float) (a c : ℕ) → HasValue x false a c → T (not (is_nan x))
unfolding is_nan
number_of nan a c v = v
number_of (inf s) a c v = tt
number_of (fin s m e) a c v = tt

-- where the computed width is not above the allowed, so is the span, but for a rounding
within_allowed : (b : Bracket) (i k n : ℕ) → i + k ≡ C + 4 → (S : Spans b n) → T (not (lt (allowed i) (sub binary64 b.upper b.lower)))
    → S.H ≤ S.L + (2 ^ k + 6 * 2 ^ J)
within_allowed b i k n e S h =
    let w = apart b.lower b.upper S.L S.H S.order S.top S.lower_is S.upper_is in
    let A = allowed_at i k e in
    let d = sub binary64 b.upper b.lower in
    let o : T (le d (allowed i)) = not-lt→le (allowed i) d (number_of (allowed i) (2 ^ k) (2 ^ C) A) (number_of d w.0 (2 ^ C) w.1) h in
    close S.L S.H w.0 (2 ^ k) (2 ^ J) S.order (in_order binary64 d (allowed i) w.0 (2 ^ k) w.1 A o) w.3
  where
    close : (L H D a g : ℕ) → L ≤ H → D ≤ a → H - L ≤ D + g → H ≤ L + (a + 6 * g)
    close L H D a g o p q = omega arith

-- so the place splits the bracket to the next round's bound
paced_splits : (R : Rule) → Lawful R → (limit i k : ℕ) (y : Float) (st : State) → i + k ≡ C + 4 → Placing st.bracket
    → Spans st.bracket (2 ^ suc k + 6 * 2 ^ J) → Splits st.bracket (2 ^ k + 6 * 2 ^ J) (paced R limit i y st).place
unfolding paced
paced_splits R lawful limit i k y st e p S =
    let b = st.bracket in
    branch (λ (c : Choice). Inside b.lower b.upper c.place → Splits b (2 ^ k + 6 * 2 ^ J) c.place)
    (lt (allowed i) (sub binary64 b.upper b.lower))
    (λ h j. midpoint_splits b (2 ^ suc k + 6 * 2 ^ J) (2 ^ k + 6 * 2 ^ J) S j (twice (2 ^ k) (2 ^ suc k) (2 ^ J) (two-pow-succ k)))
    (λ h j. inside_splits b (2 ^ suc k + 6 * 2 ^ J) (2 ^ k + 6 * 2 ^ J) _ S j (within_allowed b i k (2 ^ suc k + 6 * 2 ^ J) e S h))
    ((paced_lawful R lawful).between limit i y st p)
  where
    twice : (a b g : ℕ) → b ≡ a + a → b + 6 * g + 6 * g ≤ 2 * (a + 6 * g)
    twice a b g e = omega arith

-- ---- a narrow bracket stops the round
number_below : (x y : Float) → T (lt x y) → T (not (is_nan y))
unfolding lt is_nan
number_below nan nan h = h
number_below (inf true) nan h = h
number_below (inf false) nan h = h
number_below (fin s m e) nan h = h
number_below x (inf s) h = tt
number_below x (fin s m e) h = tt

number_at_most : (x y : Float) → T (le x y) → T (not (is_nan x))
unfolding le lt eq is_nan
number_at_most nan y h = h
number_at_most (inf s) y h = tt
number_at_most (fin s m e) y h = tt

by_contradiction : (b : Bool) → (T (not b) → ⊥) → T b
by_contradiction true h = tt
by_contradiction false h = h tt

narrow_of : (ε : Float) (b : Bracket) → Placing b → T (lt (sub binary64 b.upper b.lower) ε) → T (narrow ε b)
unfolding narrow
narrow_of ε b p h =
    let l = p.lower_in in
    let u = p.upper_in in
    let w = sub binary64 b.upper b.lower in
    let c : T (clear w) = sub_clear b.lower b.upper l.held u.held l.sign u.sign p.order in
    let t = mul binary64 w trillionth in
    let t_le : T (le t w) = trillionth_le w (sub-fits binary64 b.upper b.lower) c in
    rw (magnitude_clear w c)
    (branch (λ (z : Float). T (lt w z)) (lt t ε) (λ _. h)
    (λ k. absurd (lt_le_absurd w ε h (le_trans_float ε t w (not-lt→le t ε (number_at_most t w t_le) (number_below w ε h) k) t_le))))

-- a precision that stops the rounds in round N: it is at least some double of h units, which is above 2^(5 - N) + 7·2^-53
pub record Enough (ε : Float) (N : ℕ) : Type 0 where
  pub K : ℕ
  pub h : ℕ
  pub least : Float
  pub last : N + K ≡ C + 5
  pub least_is : HasValue least false h (2 ^ C)
  pub above : 2 ^ K + 7 * 2 ^ J < h
  pub at_least : T (le least ε)

number_above : (x y : Float) → T (le x y) → T (not (is_nan y))
unfolding le lt eq is_nan
number_above nan nan h = h
number_above (inf true) nan h = h
number_above (inf false) nan h = h
number_above (fin s m e) nan h = h
number_above x (inf s) h = tt
number_above x (fin s m e) h = tt

spans_narrow : (ε : Float) (N : ℕ) (b : Bracket) (E : Enough ε N) → Placing b → Spans b (2 ^ E.K + 6 * 2 ^ J) → T (narrow ε b)
spans_narrow ε N b E p S =
    let w = apart b.lower b.upper S.L S.H S.order S.top S.lower_is S.upper_is in
    let d = sub binary64 b.upper b.lower in
    narrow_of ε b p (by_contradiction (lt d ε) (λ k.
    let o : T (le ε d) = not-lt→le d ε (number_of d w.0 (2 ^ C) w.1) (number_above E.least ε E.at_least) k in
    let i : T (le E.least d) = le_trans_float E.least ε d E.at_least o in
    clash S.L S.H w.0 (2 ^ E.K) (2 ^ J) E.h S.most w.2 E.above (in_order binary64 E.least d E.h w.0 E.least_is w.1 i)))
  where
    clash : (L H D a g h : ℕ) → H ≤ L + (a + 6 * g) → D ≤ H - L + g → a + 7 * g < h → h ≤ D → ⊥
    clash L H D a g h p q r s = omega arith

-- ---- the move
splits_as : (a b : Bracket) (m : ℕ) (x : Float) → a.lower ≡ b.lower → a.upper ≡ b.upper → Splits b m x → Splits a m x
splits_as a b m x e d S = record {
  at = S.at;
  x_is = S.x_is;
  L = S.L;
  H = S.H;
  lower_is = subst (λ (z : Float). HasValue z false S.L (2 ^ C)) (sym e) S.lower_is;
  upper_is = subst (λ (z : Float). HasValue z false S.H (2 ^ C)) (sym d) S.upper_is;
  above = S.above;
  below = S.below;
  top = S.top;
  left = S.left;
  right = S.right;
}

inside_in : (lower upper x : Float) → Inside lower upper x → InUnit upper → InUnit x
inside_in lower upper x i u = record { sign = i.sign; held = i.held; top = le_trans_float x upper one i.below u.top }

moved_tight : (p : Bool) (b : Bracket) (st : State) (x v : Float) (m : ℕ) → InUnit b.lower → InUnit b.upper → Inside b.lower b.upper x
    → Splits b m x
    → Placing (moved p b st x v).bracket × Spans (moved p b st x v).bracket m
unfolding moved
moved_tight true b st x v m l u i S = (
  record { lower_in = inside_in b.lower b.upper x i u; upper_in = u; order = i.below },
  record { L = S.at; H = S.H; lower_is = S.x_is; upper_is = S.upper_is; order = S.below; top = S.top; most = S.right },
)
moved_tight false b st x v m l u i S = (
  record { lower_in = l; upper_in = inside_in b.lower b.upper x i u; order = i.above },
  record { L = S.L; H = S.at; lower_is = S.lower_is; upper_is = S.x_is; order = S.above; top = le_trans S.below S.top; most = S.left },
)

-- ---- the rounds
abbrev pub is_spent : Ground → Bool
is_spent End = false
is_spent Edge = false
is_spent Value = false
is_spent Width = false
is_spent Spent = true

module _ (R : Rule) (lawful : Lawful R) (f : Float → Float) (s : ℕ) (y ε : Float) (rising : Bool) (limit base N : ℕ) where
  -- after i rounds: an answer that is not for want of rounds, with at most N evaluations in them; or a bracket within the bound 2 ^ k and 6·2^-53
  abbrev Tight : ℕ → ℕ → Round → Type 0
  Tight k i (found g x b ev) = T (not (is_spent g)) × (length ev ≤ base + N)
  Tight k i (on st ev) = Placing st.bracket × Spans st.bracket (2 ^ k + 6 * 2 ^ J) × (length ev ≡ base + i)

  settled_tight : (k i : ℕ) (b : Bracket) (st : State) (x v : Float) (ev : Evaluations) → i < N → InUnit b.lower → InUnit b.upper
      → Inside b.lower b.upper x → Splits b (2 ^ k + 6 * 2 ^ J) x
      → length ev ≡ base + suc i → Tight k (suc i) (settled y ε rising b st x v ev)
  unfolding settled
  settled_tight k i b st x v ev l p q j S c =
      let m = moved_tight (beq (lt v y) rising) b st x v (2 ^ k + 6 * 2 ^ J) p q j S in
      branch (Tight k (suc i)) (lt (magnitude_of (sub binary64 v y)) ε) (λ _. (tt, omega (arith, l, c))) (λ _. (m.0, m.1, c))

  round_tight : (k i : ℕ) (st : State) (ev : Evaluations) → i + k ≡ C + 4 → i < N → Placing st.bracket → Spans st.bracket (2 ^ suc k + 6 * 2 ^ J)
      → length ev ≡ base + i
      → Tight k (suc i) (round_of (paced R) f s y ε rising limit i st ev)
  unfolding round_of probed
  round_tight k i st ev e l p S c =
      branch (Tight k (suc i)) (narrow ε st.bracket) (λ _. (tt, omega (arith, l, c)))
      (λ _.
      let r = paced R limit i y st in
      let e_l = (paced_lawful R lawful).same_lower limit i y st in
      let e_u = (paced_lawful R lawful).same_upper limit i y st in
      let j : Inside r.bracket.lower r.bracket.upper r.place =
      subst₂ (λ (a b : Float). Inside a b r.place) (sym e_l) (sym e_u) ((paced_lawful R lawful).between limit i y st p) in
      settled_tight k i r.bracket st r.place (f r.place) _ l (subst InUnit (sym e_l) p.lower_in) (subst InUnit (sym e_u) p.upper_in) j
      (splits_as r.bracket st.bracket (2 ^ k + 6 * 2 ^ J) r.place e_l e_u (paced_splits R lawful limit i k y st e p S)) (omega (arith, c)))

  -- the rounds end: before the limit if it is above N, and after at most N evaluations
  pub record Ended (n i : ℕ) (p : Arrival) : Type 0 where
    pub in_time : N < i + n → T (not (is_spent p.ground))
    pub few : length p.made ≤ base + N

  abbrev Done : Round → Type 0
  Done (found g x b ev) = T (not (is_spent g)) × (length ev ≤ base + N)
  Done (on st ev) = ⊥

  done_ends : (n i a j : ℕ) (t : Round) → Done t → Ended a j (rounds (paced R) f s y ε rising limit n i t)
  unfolding rounds
  done_ends zero i a j (found g x b ev) h = record { in_time = λ _. h.0; few = h.1 }
  done_ends (suc n) i a j (found g x b ev) h = record { in_time = λ _. h.0; few = h.1 }
  done_ends n i a j (on st ev) h = absurd h

  module _ (E : Enough ε N) where
    -- round N is the last
    round_last : (st : State) (ev : Evaluations) → Placing st.bracket → Spans st.bracket (2 ^ E.K + 6 * 2 ^ J) → length ev ≡ base + N
        → Done (round_of (paced R) f s y ε rising limit N st ev)
    unfolding round_of
    round_last st ev p S c =
        branch Done (narrow ε st.bracket) (λ _. (tt, le_of_eq c)) (λ k. absurd (T_not (narrow ε st.bracket) k (spans_narrow ε N st.bracket E p S)))

    rounds_end : (n i k : ℕ) (t : Round) → i + k ≡ C + 5 → i ≤ N → Tight k i t → Ended n i (rounds (paced R) f s y ε rising limit n i t)
    unfolding rounds
    rounds_end zero i k (found g x b ev) e l h = record { in_time = λ _. h.0; few = h.1 }
    rounds_end (suc n) i k (found g x b ev) e l h = record { in_time = λ _. h.0; few = h.1 }
    rounds_end zero i k (on st ev) e l h = record { in_time = λ g. absurd (omega (arith, l, g)); few = omega (arith, l, h.2) }
    rounds_end (suc n) i k (on st ev) e l h = elim (le_or_lt N i) [
      | inl g ↦
          let q : N ≡ i = omega (arith, l, g) in
          let r : k ≡ E.K = omega (arith, q, e, E.last) in
          done_ends n (suc i) (suc n) i (round_of (paced R) f s y ε rising limit i st ev)
          (subst (λ (z : ℕ). Done (round_of (paced R) f s y ε rising limit z st ev)) q
          (round_last st ev h.0 (subst (λ (z : ℕ). Spans st.bracket (2 ^ z + 6 * 2 ^ J)) r h.1) (h.2 ∙ ap (λ (z : ℕ). base + z) (sym q))))
      | inr g ↦
          let q : suc (k - 1) ≡ k = omega (arith, g, e, E.last) in
          let u =
          round_tight (k - 1) i st ev (omega (arith, q, e)) g h.0 (subst (λ (z : ℕ). Spans st.bracket (2 ^ z + 6 * 2 ^ J)) (sym q) h.1) h.2
          in
          let r = rounds_end n (suc i) (k - 1) (round_of (paced R) f s y ε rising limit i st ev) (omega (arith, q, e)) g u in
          record { in_time = λ z. r.in_time (omega (arith, z)); few = r.few }
    ]

-- ---- the theorem
-- the bracket at first spans 1, of the 32 that are allowed
opening_placing : (v0 v1 : Float) → Placing (opening v0 v1)
unfolding le lt
opening_placing v0 v1 = record { lower_in = nought_in; upper_in = one_in; order = tt }

opening_spans : (v0 v1 : Float) → Spans (opening v0 v1) (2 ^ (C + 5) + 6 * 2 ^ J)
opening_spans v0 v1 = record { L = 0; H = 2 ^ C; lower_is = (refl, refl); upper_is = one_at; order = lit≤ tt; top = le_of_eq refl; most = lit≤ tt }

module _ (R : Rule) (lawful : Lawful R) (f : Float → Float) (s : ℕ) (y ε : Float) (rising : Bool) (limit : ℕ) (v0 v1 : Float) (ev : Evaluations) where
  -- the rounds at the pace, from a segment's ends
  abbrev pub steadily : Arrival
  steadily = rounds (paced R) f s y ε rising limit limit 0 (on (start (opening v0 v1)) ev)

  -- at most n evaluations in the rounds; and the limit is not told as spent where it is above n
  abbrev pub EndsWithin : ℕ → Type 0
  EndsWithin n = (length steadily.made ≤ length ev + n) × (n < limit → T (not (is_spent steadily.ground)))

  pub paced_ends : (N : ℕ) → Enough ε N → EndsWithin N
  paced_ends N E =
      let r =
      rounds_end R lawful f s y ε rising limit (length ev) N E limit 0 (C + 5) (on (start (opening v0 v1)) ev) (omega arith) (omega arith)
      (opening_placing v0 v1, opening_spans v0 v1, omega arith) in
      (r.few, λ l. r.in_time (omega (arith, l)))
