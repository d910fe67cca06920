-- Depth against uneven hours: the times are inverted, and the depths evaluated at the parameter that is told. Definitions only.
use Rattle.uneven.specs.declared.DepthMiss.{DepthMiss}
use Rattle.uneven.specs.declared.Depth.{Depth}
use Rattle.uneven.specs.declared.DepthMiss.TheVariants.{Refused, OffCurve}
use Rattle.inverse_segment.specs.Inversion.{Inversion}
use Rattle.inverse_segment.specs.declared.Miss.TheVariants.{Refused, OffCurve}
use Rattle.std.specs.Prelude.{true, not, List, [], ◌∷◌, ◌++◌, ℕ, ◌+◌, eqb, length, Float, Ok, Err, Result}
use Rattle.error.specs.declared.Refusal.{Refusal}
use Rattle.error.specs.declared.Refusal.TheVariants.{UnequalSegments}
use Rattle.error.specs.Refusals.{Uses, first, Verdict}
use Rattle.basis.specs.declared.Basis.{Basis}
use Rattle.basis.specs.Basis.{segments_of}
use Rattle.checks.specs.Checks.{curve_length, bad_knot}
use Rattle.spline.specs.Evaluation.{spline_of, Evaluation}
use Rattle.inverse_segment.specs.declared.Place.{Place}
use Rattle.inverse.specs.Inverse.{inverse_of}
use Rattle.uneven.specs.declared.WhichTable.TheVariants.{Times, Depths}

-- the depths: lengths and knots, and as many segments as n times make
abbrev pub depth_uses : Basis → ℕ → Basis → List Float → Uses
depth_uses tb n db ds =
    curve_length db (length ds) ++ (bad_knot ds ∷ (UnequalSegments, not (eqb (segments_of tb n) (segments_of db (length ds)))) ∷ [])

-- the depth at a place, and one evaluation more
abbrev pub depth_at : Place → Evaluation → Result Depth DepthMiss
depth_at p (Ok d) = Ok (record { depth = d; place = p; count = p.count + 1 })
depth_at p (Err r) = Err (Refused Depths r)

-- where no row of the depths applies
abbrev pub suited : Inversion → (Float → Evaluation) → Result Depth DepthMiss
suited (Err (Refused r)) f = Err (Refused Times r)
suited (Err (OffCurve n)) f = Err (OffCurve n)
suited (Ok p) f = depth_at p (f p.parameter)

-- where one does: a row of the times comes before it, 11 does not
abbrev pub unsuited : Inversion → Refusal → Result Depth DepthMiss
unsuited (Err (Refused q)) r = Err (Refused Times q)
unsuited (Err (OffCurve n)) r = Err (Refused Depths r)
unsuited (Ok p) r = Err (Refused Depths r)

abbrev pub sounded : Verdict → Inversion → (Float → Evaluation) → Result Depth DepthMiss
sounded (Ok _) a f = suited a f
sounded (Err r) a f = unsuited a r

-- the depth at y of the times, with the order check
unfoldable pub depth_of : Basis → List Float → Basis → List Float → Float → ℕ → Float → Result Depth DepthMiss
depth_of tb ts db ds y limit ε = sounded (first (depth_uses tb (length ts) db ds)) (inverse_of tb y ts true limit ε) (λ x. spline_of db x ds)
