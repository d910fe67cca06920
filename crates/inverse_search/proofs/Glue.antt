-- The searches, put together from what the code's calls give. Assumes nothing.
use mathlib.Core.Path.{◌≡◌, refl, sym, ap, ◌∙◌}
use mathlib.Core.List.{List}
use mathlib.Core.Bool.{Bool, true, false, cond}
use Prim.Native.Nat.{ℕ, zero, suc, ◌+◌, ◌-◌, ◌*◌, ◌/◌, ◌<◌, ◌≤◌, min}
use native.Mathlib.Nat.{mul-le-mul_right, suc-mul}
use native.Mathlib.Omega.{arith}
use lib.ListN.{length, get_or}
use lib.Ieee.{Float, nan}
use borrow.Author.Tests.{le-leb, lt-leb}
use Rattle.basis.specs.declared.Basis.{Basis}
use Rattle.spline.specs.Segment.{segment_of}
use Rattle.inverse_segment.specs.declared.Ground.{Ground}
use Rattle.inverse_segment.specs.declared.Ground.TheVariants.{End, Edge, Value, Width, Spent}
use Rattle.inverse_segment.specs.declared.Stop.{Stop}
use Rattle.inverse_segment.specs.declared.Trial.{Trial as Tried}
use Rattle.inverse_segment.specs.declared.Trial.TheVariants.{Outside, Inside}
use Rattle.inverse_segment.specs.Evaluations.{Evaluations}
use Rattle.inverse_segment.specs.Segment.{Entry, outside, inside, Outcome, off, or_else}
use Rattle.inverse_segment.specs.declared.Method.{Method}
use Rattle.inverse_segment.specs.Method.{rule_of}
use Rattle.inverse_segment.specs.Contract.{stop_of, trial_of}
use Rattle.inverse_segment.proofs.Stops.{Leaves, enter_leaves}
use Rattle.inverse_search.specs.declared.SearchResult.{SearchResult}
use Rattle.inverse_search.specs.declared.SearchResult.TheVariants.{OffCurve, Entered}
use Rattle.inverse_search.specs.Bound.{bits_of}
use Rattle.inverse_order.specs.Order.{before}
use Rattle.inverse_search.specs.Search.{Trial, tries, last, halve, find}
use Rattle.inverse_search.specs.Contract.{result_of, number_of, ground_of, doubles_of, trial_by, TrialIs, TriesIs, LastIs, HalveIs, FindIs}

-- two cases of one type are never the same: `never (cc)`
never : {A : Type 0} → ◌≡◌ {A = ℕ} 0 1 → A
never e = absurd (omega arith)

-- ---- where a segment lies
pub fits_le : (t k step n : ℕ) → t ≤ k → k * step + 4 ≤ n + step → t * step + 4 ≤ n + step
fits_le t k step n h l = let q : t * step ≤ k * step = mul-le-mul_right step h in omega arith

pub fits_at : (s k step n : ℕ) → s < k → k * step + 4 ≤ n + step → s * step + 4 ≤ n
fits_at s k step n h l = let q : suc s * step ≤ k * step = mul-le-mul_right step h in omega (arith, suc-mul s step)

-- ---- a ground and its number
pub number_some : (g : Ground) → 0 < number_of g
number_some End = omega arith
number_some Edge = omega arith
number_some Value = omega arith
number_some Width = omega arith
number_some Spent = omega arith

ground_back : (g : Ground) → ground_of (number_of g) ≡ g
ground_back End = refl
ground_back Edge = refl
ground_back Value = refl
ground_back Width = refl
ground_back Spent = refl

module _ (how : Method) (b : Basis) (ks : List Float) (y ε : Float) (limit : ℕ) where
  abbrev E : Trial
  E = trial_by how b ks y ε limit

  leaves : (s : ℕ) (ev : Evaluations) → Leaves s (length ev) (E s ev)
  leaves s ev = enter_leaves (rule_of how) (segment_of b ks s) s y ε limit ev

  -- segment s is entered, or passed over
  module _ (s : ℕ) (ev : Evaluations) (f : Float → Evaluations → Outcome) where
    into : {a : Stop} → Inside a ≡ trial_of (E s ev) → Entered s a ≡ result_of (or_else (E s ev) f)
    into {a} q = go (E s ev) q (leaves s ev)
      where
        go : (e : Entry) → Inside a ≡ trial_of e → Leaves s (length ev) e → Entered s a ≡ result_of (or_else e f)
        go (outside v t) q l = never (cc)
        go (inside p) q l = let stop : a ≡ stop_of p = cc in ap (Entered s) stop ∙ ap (λ (n : ℕ). Entered n (stop_of p)) (sym l)

    past : {v : Float} → Outside v ≡ trial_of (E s ev) → (t : Evaluations) × (length t ≡ length ev + 2) × (or_else (E s ev) f ≡ f v t)
    past {v} q = go (E s ev) q (leaves s ev)
      where
        go : (e : Entry) → Outside v ≡ trial_of e → Leaves s (length ev) e → (t : Evaluations) × (length t ≡ length ev + 2) × (or_else e f ≡ f v t)
        go (outside u t) q l = let same : u ≡ v = cc in (t, l, ap (λ (z : Float). f z t) same)
        go (inside p) q l = never (cc)

  -- ---- the tries
  -- the segments from first up to below end are tried in order, and those below s are done
  pub record Carried (first end count s made : ℕ) : Type 0 where
    pub so_far : (ev : Evaluations) → length ev ≡ count → (t : Evaluations) × (length t ≡ made) × (tries E (end - first) first ev ≡ tries E (end - s) s t)

  pub tries_start : (first end count : ℕ) → Carried first end count first count
  tries_start first end count = record { so_far = λ ev l. (ev, l, refl) }

  module _ (s : ℕ) {r : Tried} {first end count made : ℕ} (is : TrialIs how b ks y ε limit s made r) (l : s < end)
      (carried : Carried first end count s made) where
    abbrev after : Float → Evaluations → Outcome
    after v t = tries E (end - suc s) (suc s) t

    one_more : (ev : Evaluations) → tries E (end - s) s ev ≡ or_else (E s ev) after
    unfolding tries
    one_more ev = let q : end - s ≡ suc (end - suc s) = omega arith in ap (λ (n : ℕ). tries E n s ev) q

    pub tries_hit : {a : Stop} → r ≡ Inside a → TriesIs how b ks y ε limit (end - first) first count (Entered s a)
    tries_hit q ev n =
        let c = carried.so_far ev n in
        into s c.0 after (sym q ∙ is c.0 c.1) ∙ ap result_of (sym (c.2 ∙ one_more c.0))

    pub tries_miss : {v : Float} → r ≡ Outside v → Carried first end count (s + 1) (made + 2)
    tries_miss q =
        record {
          so_far = λ ev n.
              let c = carried.so_far ev n in
              let t = past s c.0 after (sym q ∙ is c.0 c.1) in
              let next : suc s ≡ s + 1 = omega arith in
              (t.0, omega (arith, t.1, c.1), c.2 ∙ one_more c.0 ∙ t.2 ∙ ap (λ (i : ℕ). tries E (end - i) i t.0) next);
        }

  pub tries_end : {first end count s made : ℕ} → end ≤ s → Carried first end count s made
      → TriesIs how b ks y ε limit (end - first) first count (OffCurve made)
  unfolding tries
  tries_end {end = end} {s = s} l carried ev n =
      let c = carried.so_far ev n in
      let q : end - s ≡ 0 = omega arith in
      ap OffCurve (sym c.1) ∙ ap result_of (sym (c.2 ∙ ap (λ (n : ℕ). tries E n s c.0) q ∙ none s c.0))
    where
      none : (s : ℕ) (t : Evaluations) → tries E 0 s t ≡ off t
      none s t = refl

  -- ---- the last tries
  pub last_tried : (k left first end : ℕ) {count : ℕ} {r : SearchResult} → first ≡ left - 1 → end ≡ min (first + 2) k
      → TriesIs how b ks y ε limit (end - first) first count r → LastIs how b ks y ε limit k left count r
  unfolding last
  last_tried k left first end p q i ev n = i ev n ∙ ap result_of (sym (same ev))
    where
      same : (ev : Evaluations) → last E k left ev ≡ tries E (end - first) first ev
      same ev = rw (q, p)

  -- ---- the halvings
  module _ (rising : Bool) (h left wide : ℕ) where
    over : wide ≡ 0 → (k : ℕ) (ev : Evaluations) → halve E y rising k h left wide ev ≡ last E k left ev
    unfolding halve
    over q k ev = ap (λ (c : ℕ). halve E y rising k h left c ev) q ∙ go h
      where
        go : (n : ℕ) → halve E y rising k n left 0 ev ≡ last E k left ev
        go zero = refl
        go (suc n) = refl

    spent : h ≡ 0 → (k : ℕ) (ev : Evaluations) → halve E y rising k h left wide ev ≡ last E k left ev
    unfolding halve
    spent q k ev = ap (λ (n : ℕ). halve E y rising k n left wide ev) q

    ended : {g n : ℕ} {p : List Float} → g ≡ 0 → ((k : ℕ) (ev : Evaluations) → halve E y rising k h left wide ev ≡ last E k left ev)
        → HalveIs how b ks y ε limit rising h left wide n left g n p
    ended z q k ev l = record { ends = λ _. (ev, l, q k ev); enters = λ s. absurd (omega (arith, z)) }

    pub halve_over : {g n : ℕ} {p : List Float} → g ≡ 0 → wide ≡ 0 → HalveIs how b ks y ε limit rising h left wide n left g n p
    halve_over z q = ended z (over q)

    pub halve_spent : {g n : ℕ} {p : List Float} → g ≡ 0 → h ≡ 0 → HalveIs how b ks y ε limit rising h left wide n left g n p
    halve_spent z q = ended z (spent q)

    module _ (half : ℕ) {n : ℕ} {r : Tried} (more : 0 < h) (some : 0 < wide) (p : half ≡ (wide - 1) / 2)
        (is : TrialIs how b ks y ε limit (left + half) n r) where
      -- where the search goes on after the middle one
      abbrev on : ℕ → Float → Evaluations → Outcome
      on k v t = cond (before rising y v) (halve E y rising k (h - 1) left half t) (halve E y rising k (h - 1) (left + half + 1) (wide - 1 - half) t)

      opened : (k : ℕ) (ev : Evaluations) → halve E y rising k h left wide ev ≡ or_else (E (left + half) ev) (on k)
      unfolding halve
      opened k ev =
          let m : h ≡ suc (h - 1) = omega arith in
          let q : wide ≡ suc (wide - 1) = omega arith in
          let s : suc (left + half) ≡ left + half + 1 = omega arith in
          ap (λ (n : ℕ). halve E y rising k n left wide ev) m
          ∙ ap (λ (c : ℕ). halve E y rising k (suc (h - 1)) left c ev) q
          ∙ ap (λ (i : ℕ). or_else (E (left + i) ev)
          (λ v t. cond (before rising y v) (halve E y rising k (h - 1) left i t) (halve E y rising k (h - 1) (suc (left + i)) (wide - 1 - i) t))) (sym p)
          ∙ ap (λ (z : ℕ). or_else (E (left + half) ev)
          (λ v t. cond (before rising y v) (halve E y rising k (h - 1) left half t) (halve E y rising k (h - 1) z (wide - 1 - half) t))) s

      pub halve_hit : {a : Stop} {g m : ℕ} {d : List Float} → r ≡ Inside a → g ≡ number_of a.ground → m ≡ a.count → d ≡ doubles_of a
          → HalveIs how b ks y ε limit rising h left wide n (left + half) g m d
      halve_hit {a} i e_g e-m e-d k ev l =
          record {
            ends = λ z. absurd (omega (arith, number_some a.ground, z, e_g));
            enters = λ _. (a, e_g, e-m, e-d, into (left + half) ev (on k) (sym i ∙ is ev l) ∙ ap result_of (sym (opened k ev)));
          }

      module _ {v : Float} (i : r ≡ Outside v) {s g m : ℕ} {d : List Float} where
        -- the part that is searched after it, by its left end l and its count c
        on_from : (l c : ℕ) → ((k : ℕ) (t : Evaluations) → on k v t ≡ halve E y rising k (h - 1) l c t)
            → HalveIs how b ks y ε limit rising (h - 1) l c (n + 2) s g m d → HalveIs how b ks y ε limit rising h left wide n s g m d
        on_from l c q u k ev e =
            let t = past (left + half) ev (on k) (sym i ∙ is ev e) in
            let o : halve E y rising k h left wide ev ≡ halve E y rising k (h - 1) l c t.0 = opened k ev ∙ t.2 ∙ q k t.0 in
            let w = u k t.0 (omega (arith, t.1, e)) in
            record {
              ends = λ z. let x = w.ends z in (x.0, x.1, o ∙ x.2);
              enters = λ z. let x = w.enters z in (x.0, x.1, x.2, x.3, x.4 ∙ ap result_of (sym o));
            }

        pub halve_left : before rising y v ≡ true → HalveIs how b ks y ε limit rising (h - 1) left half (n + 2) s g m d
            → HalveIs how b ks y ε limit rising h left wide n s g m d
        halve_left j u = on_from left half (λ k t. simp j) u

        pub halve_right : before rising y v ≡ false → HalveIs how b ks y ε limit rising (h - 1) (left + half + 1) (wide - 1 - half) (n + 2) s g m d
            → HalveIs how b ks y ε limit rising h left wide n s g m d
        halve_right j u = on_from (left + half + 1) (wide - 1 - half) (λ k t. simp j) u

  -- ---- the whole search
  module _ (rising : Bool) (k : ℕ) {count : ℕ} where
    pub found_few : {r : SearchResult} → k ≤ 12 → TriesIs how b ks y ε limit (k - 0) 0 count r → FindIs how b ks y ε limit rising k count r
    unfolding find
    found_few h i ev n = i ev n ∙ ap result_of (sym (few ev))
      where
        few : (ev : Evaluations) → find E y rising k ev ≡ tries E (k - 0) 0 ev
        few ev = let q : k - 0 ≡ k = omega arith in simp (le-leb k 12 h, q)

    module _ (many : 12 < k) {h s g m : ℕ} {d : List Float} (bits : h ≡ bits_of k) (is : HalveIs how b ks y ε limit rising h 0 k count s g m d) where
      halving : (ev : Evaluations) → find E y rising k ev ≡ halve E y rising k h 0 k ev
      unfolding find
      halving ev = simp (lt-leb k 12 many, bits)

      pub found_last : {r : SearchResult} → g ≡ 0 → LastIs how b ks y ε limit k s m r → FindIs how b ks y ε limit rising k count r
      found_last z i ev n = let w = (is k ev n).ends z in i w.0 w.1 ∙ ap result_of (sym (halving ev ∙ w.2))

      pub found_in : {x : Ground} → 0 < g → x ≡ ground_of g
          → FindIs how b ks y ε limit rising k count
          (Entered s (record { ground = x; local = get_or d 0 nan; lower = get_or d 1 nan; upper = get_or d 2 nan; count = m }))
      found_in {x} z e ev n =
          let w = (is k ev n).enters z in
          let a = w.0 in
          let told : record { ground = x; local = get_or d 0 nan; lower = get_or d 1 nan; upper = get_or d 2 nan; count = m } ≡ a =
          rw (e, w.1, w.2, w.3, ground_back a.ground) refl in
          ap (Entered s) told ∙ w.4 ∙ ap result_of (sym (halving ev))
