-- The answers, by the tests as the code makes them. The count has room for one more, since the inversion's is bounded. Assumes nothing.
use Rattle.uneven.specs.declared.DepthMiss.{DepthMiss}
use Rattle.uneven.specs.declared.Depth.{Depth}
use Rattle.inverse_segment.specs.Inversion.{Inversion}
use Rattle.inverse_segment.specs.declared.Miss.TheVariants.{Refused, OffCurve}
use Rattle.std.specs.Prelude.{Ok, Err, Result}
use mathlib.Core.Path.{◌≡◌, refl, sym, ap, ◌∙◌}
use mathlib.Core.Bool.{Bool, true, false, not}
use mathlib.Core.List.{List}
use Prim.Native.Nat.{ℕ, ◌<◌}
use native.Mathlib.Omega.{arith}
use lib.Dec.{ltb, eqb}
use lib.ListN.{length}
use lib.Ieee.{Float, is_nan}
use Rattle.error.specs.Refusals.{first, Verdict}
use Rattle.basis.specs.declared.Basis.{Basis}
use Rattle.basis.specs.Basis.{regular, segments_of}
use Rattle.checks.specs.Checks.{all_in_range}
use Rattle.spline.specs.Evaluation.{spline_of, Evaluation}
use Rattle.inverse_segment.specs.Answer.{count_told}
use Rattle.inverse_segment.specs.declared.Method.TheVariants.{AsCrate}
use Rattle.inverse_order.specs.declared.EndsBy.TheVariants.{Knots}
use Rattle.inverse.specs.Inverse.{inverse_of}
use Rattle.inverse.proofs.Most.{bound_small}
use Rattle.inverse.proofs.Promises.{inverse_bounded}
use Rattle.uneven.specs.Uneven.{depth_uses, sounded, depth_of}
use Rattle.uneven.specs.Contract.{asked_at, verdict_of}
use Rattle.uneven.proofs.Call.{asked_number}

-- ---- the depths' rows: those of an evaluation at a number, and then whether the segments are as many
module _ (tb : Basis) (n : ℕ) (db : Basis) (ds : List Float) (x : Float) (number : is_nan x ≡ false) where
  abbrev as_many : Bool
  as_many = eqb (segments_of tb n) (segments_of db (length ds))

  pub depths_verdict : verdict_of (spline_of db x ds) as_many ≡ first (depth_uses tb n db ds)
  unfolding spline_of
  depths_verdict = go (ltb (length ds) 4) (not (regular db (length ds))) (ltb 4096 (length ds)) (not (all_in_range ds)) as_many refl refl refl refl refl
    where
      go : (a b c d e : Bool) → ltb (length ds) 4 ≡ a → not (regular db (length ds)) ≡ b → ltb 4096 (length ds) ≡ c → not (all_in_range ds) ≡ d
          → as_many ≡ e → verdict_of (spline_of db x ds) as_many ≡ first (depth_uses tb n db ds)
      go true b c d e p q r s u = simp p
      go false true c d e p q r s u = simp (p, q)
      go false false true d e p q r s u = simp (p, q, r)
      go false false false true e p q r s u = simp (p, q, r, s, number)
      go false false false false true p q r s u = simp (p, q, r, s, number, u)
      go false false false false false p q r s u = simp (p, q, r, s, number, u)

-- ---- the count
pub room : (b : Basis) (y : Float) (ks : List Float) (limit : ℕ) (ε : Float) {a : Inversion} → limit < 65536 → a ≡ inverse_of b y ks true limit ε →
    count_told a < 4294967295
room b y ks limit ε {a} l e =
    omega (arith, ap count_told e, inverse_bounded Knots AsCrate b y ks true limit ε, bound_small (segments_of b (length ks)) limit)

-- ---- the answer
-- what is looked at is the evaluation at the place alone
at_place : (v : Verdict) (a : Inversion) (f : Float → Evaluation) → sounded v a (λ _. f (asked_at a)) ≡ sounded v a f
at_place (Ok _) (Err (Refused r)) f = refl
at_place (Ok _) (Err (OffCurve n)) f = refl
at_place (Ok _) (Ok p) f = refl
at_place (Err q) (Err (Refused r)) f = refl
at_place (Err q) (Err (OffCurve n)) f = refl
at_place (Err q) (Ok p) f = refl

module _ (tb db : Basis) (ts ds : List Float) (y : Float) (limit : ℕ) (ε : Float) {a : Inversion} {e : Evaluation} {k j : ℕ} {v w : Verdict}
    (inverted : a ≡ inverse_of tb y ts true limit ε) (evaluated : e ≡ spline_of db (asked_at a) ds) (times : k ≡ segments_of tb (length ts))
    (depths : j ≡ segments_of db (length ds)) (judged : v ≡ verdict_of e (eqb k j)) (case : v ≡ w) where
  verdict_is : w ≡ first (depth_uses tb (length ts) db ds)
  verdict_is =
      sym case ∙ judged ∙ ap (λ (x : Evaluation). verdict_of x (eqb k j)) evaluated ∙ ap (λ (n : ℕ). verdict_of (spline_of db (asked_at a) ds) (eqb n j)) times
      ∙ ap (λ (n : ℕ). verdict_of (spline_of db (asked_at a) ds) (eqb (segments_of tb (length ts)) n)) depths
      ∙ depths_verdict tb (length ts) db ds (asked_at a) (asked_number tb ts y limit ε a inverted)

  pub answered : {r : Result Depth DepthMiss} → r ≡ sounded w a (λ _. e) → r ≡ depth_of tb ts db ds y limit ε
  unfolding depth_of
  answered h =
      h
      ∙ ap (λ (x : Evaluation). sounded w a (λ _. x)) evaluated
      ∙ at_place w a (λ x. spline_of db x ds)
      ∙ ap (λ (u : Verdict). sounded u a (λ x. spline_of db x ds)) verdict_is
      ∙ ap (λ (u : Inversion). sounded (first (depth_uses tb (length ts) db ds)) u (λ x. spline_of db x ds)) inverted
