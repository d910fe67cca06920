-- What is known of a job that the call answers: one that is under way is at a second of the span, and in a segment of the curve. Assumes nothing.
use Rattle.stopped.specs.declared.Job.{Job}
use Rattle.inverse_segment.specs.declared.Miss.{Miss}
use Rattle.stopped.specs.declared.Job.TheVariants.{UnderWay, Flat, Before, Start, End, Beyond}
use Rattle.inverse_segment.specs.declared.Miss.TheVariants.{Refused, OffCurve}
use Rattle.std.specs.Prelude.{Err, Ok, Result}
use mathlib.Core.Path.{◌≡◌}
use mathlib.Core.Bool.{Bool}
use mathlib.Core.List.{List}
use Prim.Native.Nat.{ℕ, ◌≤◌}
use native.Mathlib.Nat.{le_trans}
use native.Mathlib.Omega.{arith}
use lib.Ieee.{Float}
use lib.ListN.{length}
use Rattle.inverse_segment.specs.declared.Place.{Place}
use Rattle.inverse.proofs.Curve.{segments_few}
use Rattle.stopped.specs.Stopped.{stopped_of}
use Rattle.stopped.proofs.Stops.{Kept, under_way_kept}
use Rattle.stopped.proofs.Which.{said_only}
use Rattle.table_span.specs.declared.Table.{Table}
use Rattle.table_span.specs.Second.{day}
use Rattle.ask_answers.specs.Contract.{Placed}

module _ (t : Table) (y : Float) (ks : List Float) (check : Bool) where
  pub under_way : (s : ℕ) (p : Place) → Ok (UnderWay s p) ≡ stopped_of t y ks check → Kept t y ks check s p
  under_way s p e = let w = said_only t y ks check (Ok (UnderWay s p)) e in under_way_kept t y ks check w.0 w.1 s p w.2

  pub placed : t.span ≤ day → length ks ≤ 4096 → (j : Result Job Miss) → j ≡ stopped_of t y ks check → Placed j
  placed short few (Err (Refused r)) e = tt
  placed short few (Err (OffCurve n)) e = tt
  placed short few (Ok Flat) e = tt
  placed short few (Ok Before) e = tt
  placed short few (Ok Start) e = tt
  placed short few (Ok (UnderWay s p)) e =
      let w = under_way s p e in (
        le_trans w.second.within short,
        omega (arith, w.entered.below, segments_few t.basis (length ks) few),
      )
  placed short few (Ok End) e = tt
  placed short few (Ok Beyond) e = tt
