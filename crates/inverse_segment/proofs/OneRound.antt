-- A round, the rounds and the segment, by what the code's calls give. Assumes nothing.
use mathlib.Core.Path.{◌≡◌, refl, sym, ap, ◌∙◌}
use mathlib.Core.List.{◌∷◌}
use mathlib.Core.Bool.{Bool, true, false, ◌&&◌, beq}
use Prim.Native.Nat.{ℕ, zero, suc, ◌+◌, ◌-◌, ◌*◌, ◌/◌, ◌<◌, ◌≤◌}
use native.Mathlib.Numerals.{add-one}
use native.Mathlib.Omega.{arith}
use lib.Dec.{ltb}
use lib.ListN.{length}
use lib.Ieee.{Float, binary64, sub, lt}
use Rattle.error.proofs.First.{never}
use Rattle.doubles.specs.Numbers.{nought, one, magnitude_of}
use Rattle.inverse_segment.specs.declared.Ground.{Ground}
use Rattle.inverse_segment.specs.declared.Ground.TheVariants.{Edge, Value, Width, Spent}
use Rattle.inverse_segment.specs.declared.Bracket.{Bracket}
use Rattle.inverse_segment.specs.declared.State.{State}
use Rattle.inverse_segment.specs.declared.RoundResult.{RoundResult}
use Rattle.inverse_segment.specs.declared.RoundResult.TheVariants.{Done, Next}
use Rattle.inverse_segment.specs.declared.Stop.{Stop}
use Rattle.inverse_segment.specs.Evaluations.{Evaluations}
use Rattle.inverse_segment.specs.Round.{
  Rule,
  midpoint,
  narrow,
  uses_regula_falsi,
  moved,
  Round,
  found,
  on,
  settled,
  probed,
  round_of,
}
use Rattle.inverse_segment.specs.Rounds.{rounds}
use Rattle.inverse_segment.specs.Segment.{near, opening, start, entered}
use Rattle.inverse_segment.specs.Contract.{shown, stop_at, stop_of}

-- ---- a round
module _ (y ε : Float) (rising : Bool) (b : Bracket) (st : State) (x v : Float) (ev : Evaluations) where
  settled_value : lt (magnitude_of (sub binary64 v y)) ε ≡ true
      → settled y ε rising b st x v ev ≡ found Value x (moved (beq (lt v y) rising) b st x v).bracket ev
  unfolding settled
  settled_value h = simp h

  settled_on : lt (magnitude_of (sub binary64 v y)) ε ≡ false → settled y ε rising b st x v ev ≡ on (moved (beq (lt v y) rising) b st x v) ev
  unfolding settled
  settled_on h = simp h

module _ (R : Rule) (f : Float → Float) (y ε : Float) (rising : Bool) (st : State) (n limit i s : ℕ) (ev : Evaluations) (k : length ev ≡ n) where
  pub round_width : {x : Float} → true ≡ narrow ε st.bracket → x ≡ midpoint st.bracket
      → Done Width x st.bracket n ≡ shown (round_of R f s y ε rising limit i st ev)
  unfolding round_of
  round_width h e = simp (← h, e, k)

  round_probed : false ≡ narrow ε st.bracket → (a : Bracket) (x v : Float) → a ≡ (R limit i y st).bracket → x ≡ (R limit i y st).place → v ≡ f x
      → round_of R f s y ε rising limit i st ev ≡ settled y ε rising a st x v ((s, x) ∷ ev)
  unfolding round_of probed
  round_probed h a x v e_a e-x e_v = simp (← h) (cc)

  module _ {a : Bracket} {x v g : Float} {next : State} (h : false ≡ narrow ε st.bracket)
      (c : (a ≡ (R limit i y st).bracket) × (x ≡ (R limit i y st).place)) (e_v : v ≡ f x)
      (e_n : next ≡ moved (beq (lt v y) rising) a st x v) (e_g : g ≡ magnitude_of (sub binary64 v y)) where
    pub round_value : lt g ε ≡ true → Done Value x next.bracket (n + 1) ≡ shown (round_of R f s y ε rising limit i st ev)
    round_value l =
        let r : round_of R f s y ε rising limit i st ev ≡ found Value x next.bracket ((s, x) ∷ ev) =
        round_probed h a x v c.0 c.1 e_v ∙ settled_value y ε rising a st x v ((s, x) ∷ ev) (rw (← e_g) l)
        ∙ ap (λ (z : State). found Value x z.bracket ((s, x) ∷ ev)) (sym e_n) in
        rw r (rw (add-one, k))

    pub round_next : lt g ε ≡ false → Next next (n + 1) ≡ shown (round_of R f s y ε rising limit i st ev)
    round_next l =
        let r : round_of R f s y ε rising limit i st ev ≡ on next ((s, x) ∷ ev) =
        round_probed h a x v c.0 c.1 e_v ∙ settled_on y ε rising a st x v ((s, x) ∷ ev) (rw (← e_g) l)
        ∙ ap (λ (z : State). on z ((s, x) ∷ ev)) (sym e_n) in
        rw r (rw (add-one, k))

-- whether a round goes by regula falsi, as the code has it
pub regula_falsi_is : (limit i : ℕ) (st : State) {regula_falsi : Bool} {early : ℕ} → regula_falsi ≡ (ltb i early && ltb st.repeats 3) → early ≡ 3 * limit / 4
    → regula_falsi ≡ uses_regula_falsi limit i st
regula_falsi_is limit i st e d = e ∙ ap (λ (z : ℕ). ltb i z && ltb st.repeats 3) d

-- ---- the rounds
-- where they stop, as the code has it
abbrev pub stop_after : Rule → (Float → Float) → ℕ → Float → Float → Bool → ℕ → ℕ → ℕ → Round → Stop
stop_after R f s y ε rising limit n i t = stop_of (rounds R f s y ε rising limit n i t)

-- i rounds have led from the state `first`, after n evaluations, to the state st, after m, whatever the segment's number is
abbrev pub Led : Rule → (Float → Float) → Float → Float → Bool → ℕ → State → ℕ → ℕ → State → ℕ → Type 0
Led R f y ε rising limit first n i st m =
    (s : ℕ) (ev : Evaluations) → length ev ≡ n
    → (t : Evaluations) × (length t ≡ m) × (stop_after R f s y ε rising limit limit 0 (on first ev) ≡ stop_after R f s y ε rising limit (limit - i) i (on st t))

next_of : (t : Round) (st : State) (k : ℕ) → Next st k ≡ shown t → (ev : Evaluations) × (t ≡ on st ev) × (length ev ≡ k)
next_of (found g x b ev) st k e = never (cc)
next_of (on st' ev) st k e = let p : st ≡ st' = cc in let q : length ev ≡ k = cc in (ev, (ap (λ (z : State). on z ev) (sym p)), q)

module _ (R : Rule) (f : Float → Float) (y ε : Float) (rising : Bool) (limit : ℕ) where
  stop_of_lem : (s n i : ℕ) (t : Round) {g : Ground} {x : Float} {b : Bracket} {k : ℕ} → Done g x b k ≡ shown t
      → stop_at g x b k ≡ stop_after R f s y ε rising limit n i t
  unfolding rounds
  stop_of_lem s zero i (found g' x' b' ev) {g} {x} {b} {k} e = let p : g ≡ g' = cc in let q : x ≡ x' = cc in let r : b ≡ b' = cc in let w : k ≡ length ev = cc
      in rw (p, q, r, w)
  stop_of_lem s (suc n) i (found g' x' b' ev) {g} {x} {b} {k} e = let p : g ≡ g' = cc in let q : x ≡ x' = cc in let r : b ≡ b' = cc in
      let w : k ≡ length ev = cc
      in rw (p, q, r, w)
  stop_of_lem s zero i (on st ev) e = never (cc)
  stop_of_lem s (suc n) i (on st ev) e = never (cc)

  open_round : (s n i : ℕ) (st : State) (ev : Evaluations)
      → stop_after R f s y ε rising limit (suc n) i (on st ev) ≡ stop_after R f s y ε rising limit n (suc i) (round_of R f s y ε rising limit i st ev)
  unfolding rounds
  open_round s n i st ev = refl

  one_more : (s n i : ℕ) (st : State) (ev : Evaluations) → i < limit → n ≡ limit - (i + 1)
      → stop_after R f s y ε rising limit (limit - i) i (on st ev) ≡ stop_after R f s y ε rising limit n (i + 1) (round_of R f s y ε rising limit i st ev)
  one_more s n i st ev h e = let q : limit - i ≡ suc n = omega arith in rw (q, add-one) (open_round s n i st ev)

  module _ (first : State) (n : ℕ) where
    pub led_start : Led R f y ε rising limit first n 0 first n
    led_start s ev k = let q : limit ≡ limit - 0 = omega arith in (ev, k, ap (λ (z : ℕ). stop_after R f s y ε rising limit z 0 (on first ev)) q)

    pub led_spent : (i m : ℕ) (st : State) {x : Float} → limit ≤ i → x ≡ midpoint st.bracket → Led R f y ε rising limit first n i st m
        → (s : ℕ) (ev : Evaluations) → length ev ≡ n → stop_at Spent x st.bracket m ≡ stop_after R f s y ε rising limit limit 0 (on first ev)
    unfolding rounds
    led_spent i m st h e l s ev k = let r = l s ev k in let q : limit - i ≡ 0 = omega arith in rw (r.2, q, e, ← r.1)

    -- the round i
    module _ (i m : ℕ) (st : State) {res : RoundResult} (h : i < limit) (l : Led R f y ε rising limit first n i st m)
        (e : (s : ℕ) (ev : Evaluations) → length ev ≡ m → res ≡ shown (round_of R f s y ε rising limit i st ev)) where
      pub led_on : {st' : State} {m' : ℕ} → res ≡ Next st' m' → Led R f y ε rising limit first n (i + 1) st' m'
      led_on {st'} {m'} d s ev k =
          let r = l s ev k in
          let t = round_of R f s y ε rising limit i st r.0 in
          let q = next_of t st' m' (sym d ∙ e s r.0 r.1) in
          let again = ap (λ (z : Round). stop_after R f s y ε rising limit (limit - (i + 1)) (i + 1) z) q.1 in
          (q.0, q.2, r.2 ∙ one_more s (limit - (i + 1)) i st r.0 h refl ∙ again)

      pub led_done : {g : Ground} {x : Float} {b : Bracket} {m' : ℕ} → res ≡ Done g x b m'
          → (s : ℕ) (ev : Evaluations) → length ev ≡ n → stop_at g x b m' ≡ stop_after R f s y ε rising limit limit 0 (on first ev)
      led_done d s ev k =
          let r = l s ev k in
          let t = round_of R f s y ε rising limit i st r.0 in
          rw (r.2, one_more s (limit - (i + 1)) i st r.0 h refl) (stop_of_lem s (limit - (i + 1)) (i + 1) t (sym d ∙ e s r.0 r.1))

-- ---- the segment
module _ (R : Rule) (f : Float → Float) (s : ℕ) (y ε : Float) (limit n : ℕ) (v0 v1 : Float) (ev : Evaluations) (k : length ev ≡ n) where
  pub left_edge : true ≡ near y v0 ε → stop_at Edge nought (opening v0 v1) n ≡ stop_of (entered R f s y ε limit v0 v1 ev)
  unfolding entered
  left_edge p = simp (← p, k)

  module _ (p : false ≡ near y v0 ε) where
    pub right_edge : true ≡ near y v1 ε → stop_at Edge one (opening v0 v1) n ≡ stop_of (entered R f s y ε limit v0 v1 ev)
    unfolding entered
    right_edge q = simp (← p, ← q, k)

    pub by_rounds : (r : Stop) → false ≡ near y v1 ε → r ≡ stop_of (rounds R f s y ε (lt v0 v1) limit limit 0 (on (start (opening v0 v1)) ev))
        → r ≡ stop_of (entered R f s y ε limit v0 v1 ev)
    unfolding entered
    by_rounds r q u = simp (← p, ← q) u
