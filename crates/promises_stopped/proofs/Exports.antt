-- What others link of a stopped job asks nothing, allows one reply, and where it does not return 0 leaves what stood behind each pointer, but 11 its count.
-- Assumes nothing.
use Rattle.stopped.specs.declared.Job.{Job}
use Rattle.inverse_segment.specs.declared.Miss.{Miss}
use Rattle.stopped.specs.declared.Job.TheVariants.{Flat, Before, Start, UnderWay, End, Beyond}
use Rattle.inverse_segment.specs.declared.Miss.TheVariants.{Refused, OffCurve}
use Rattle.std.specs.Prelude.{Some, None, Option, Err, Ok, Result}
use mathlib.Core.Path.{◌≡◌, refl, sym, ◌∙◌}
use mathlib.Core.List.{List}
use Prim.Native.Nat.{ℕ}
use lib.Ieee.{Float}
use Rattle.basis.specs.declared.Basis.{Basis}
use Rattle.calls.specs.Calls.{AsksNothing, Keeps, OneReply}
use Rattle.exports_reply.specs.Replies.{chosen_of, no_basis, chosen}
use Rattle.exports_stopped.specs.Jobs.{said_reply, said_job, said_place, said_whole}
use Rattle.exports_table.specs.Tables.{table_of}
use Rattle.simmerstoat.proofs.jobs.simmerstoat_stopped.Reads as c_stopped
use Rattle.stopped.specs.Stopped.{stopped_of}

one : {A : Type 0} {d x x' : A} → x ≡ d → x' ≡ d → x ≡ x'
one p q = p ∙ sym q

pub c_stopped_asks_nothing : AsksNothing c_stopped.Asked
c_stopped_asks_nothing κs a = tt

-- the number returned, and what stands behind the three pointers
pub c_stopped_one_reply : OneReply c_stopped.Learnt
    (λ κs z e z' e'. (z ≡ z')
    × (e.1.1.1.1.1.0.now ≡ e'.1.1.1.1.1.0.now)
    × (e.1.1.1.1.1.1.0.now ≡ e'.1.1.1.1.1.1.0.now)
    × (e.1.1.1.1.1.1.1.0.now ≡ e'.1.1.1.1.1.1.1.0.now))
c_stopped_one_reply κs a z z' e e' p q = (one p.0 q.0, one p.1.0 q.1.0, one p.1.1.0 q.1.1.0, one p.1.1.1 q.1.1.1)

-- ---- what is left where the reply is not 0
abbrev pub NotZero : ℕ → Type 0
NotZero n = n ≡ 0 → ⊥

job_kept : (j : Result Job Miss) (old : ℕ) → NotZero (said_reply j) → said_job j old ≡ old
job_kept (Err (Refused r)) old h = refl
job_kept (Err (OffCurve n)) old h = refl
job_kept (Ok Flat) old h = absurd (h refl)
job_kept (Ok Before) old h = absurd (h refl)
job_kept (Ok Start) old h = absurd (h refl)
job_kept (Ok (UnderWay s p)) old h = absurd (h refl)
job_kept (Ok End) old h = absurd (h refl)
job_kept (Ok Beyond) old h = absurd (h refl)

place_kept : (j : Result Job Miss) (old : List Float) → NotZero (said_reply j) → said_place j old ≡ old
place_kept (Err (Refused r)) old h = refl
place_kept (Err (OffCurve n)) old h = refl
place_kept (Ok Flat) old h = absurd (h refl)
place_kept (Ok Before) old h = absurd (h refl)
place_kept (Ok Start) old h = absurd (h refl)
place_kept (Ok (UnderWay s p)) old h = absurd (h refl)
place_kept (Ok End) old h = absurd (h refl)
place_kept (Ok Beyond) old h = absurd (h refl)

whole_kept : (j : Result Job Miss) (old : List ℕ) → NotZero (said_reply j) → (said_reply j ≡ 11 → ⊥) → said_whole j old ≡ old
whole_kept (Err (Refused r)) old h g = refl
whole_kept (Err (OffCurve n)) old h g = absurd (g refl)
whole_kept (Ok Flat) old h g = absurd (h refl)
whole_kept (Ok Before) old h g = absurd (h refl)
whole_kept (Ok Start) old h g = absurd (h refl)
whole_kept (Ok (UnderWay s p)) old h g = absurd (h refl)
whole_kept (Ok End) old h g = absurd (h refl)
whole_kept (Ok Beyond) old h g = absurd (h refl)

-- of a basis by its number
module _ (f : Basis → Result Job Miss) where
  abbrev replied : Option Basis → ℕ
  replied c = chosen c no_basis (λ b. said_reply (f b))

  by_basis : {A : Type 0} (left : Result Job Miss → A → A) (old : A) → ((j : Result Job Miss) → NotZero (said_reply j) → left j old ≡ old) → (c : Option Basis)
      → NotZero (replied c) → chosen c old (λ b. left (f b) old) ≡ old
  by_basis left old k None h = refl
  by_basis left old k (Some b) h = k (f b) h

  whole_by_basis : (old : List ℕ) (c : Option Basis) → NotZero (replied c) → (replied c ≡ 11 → ⊥) → chosen c old (λ b. said_whole (f b) old) ≡ old
  whole_by_basis old None h g = refl
  whole_by_basis old (Some b) h g = whole_kept (f b) old h g

pub c_stopped_writes_nothing : Keeps c_stopped.Learnt
    (λ κs a z e. NotZero z
    → (e.1.1.1.1.1.0.now ≡ a.1.1.1.1.1.0.now)
    × (e.1.1.1.1.1.1.0.now ≡ a.1.1.1.1.1.1.0.now)
    × ((z ≡ 11 → ⊥) → e.1.1.1.1.1.1.1.0.now ≡ a.1.1.1.1.1.1.1.0.now))
c_stopped_writes_nothing κs a z e p h =
    let f : Basis → Result Job Miss = λ b. stopped_of (table_of a.1.0 b) a.1.1.0 a.1.1.1.0.now a.1.1.1.1.0 in
    let c = chosen_of a.0 in
    let n : NotZero (replied f c) = λ w. h (p.0 ∙ w) in (
      p.1.0 ∙ by_basis f said_job a.1.1.1.1.1.0.now (λ j. job_kept j a.1.1.1.1.1.0.now) c n,
      p.1.1.0 ∙ by_basis f said_place a.1.1.1.1.1.1.0.now (λ j. place_kept j a.1.1.1.1.1.1.0.now) c n,
      λ g. p.1.1.1 ∙ whole_by_basis f a.1.1.1.1.1.1.1.0.now c n (λ w. g (p.0 ∙ w)),
    )
