-- What is off the curve is passed up as it is; a stop gets its parameter from its segment, which the search found below k.
use native.Mathlib.Nat.{le_trans}
use native.Mathlib.Omega.{arith}
use lib.Dec.{lit≤}
use Rattle.spline.specs.Segment.{segment_of}
use Rattle.inverse_segment.specs.Method.{rule_of}
use Rattle.inverse_search.specs.Trial.{trial}
use Rattle.inverse_search.specs.Search.{find}
use Rattle.inverse.specs.Curve.{parameter_of}
use Rattle.inverse.proofs.Glue.{off_kept, with_parameter}
use Rattle.inverse.proofs.Below.{k_fits, k_few, k_some, found_below}
use Rattle.inverse.proofs.searched.Goals as goal

pub find-a-requires : goal.find-a-requires
find-a-requires c = let a = c.args in
    record {
      inside = k_fits a.b a.y a.precision a.knots.now a.limit a.k c.requires.segments c.requires.enough c.requires.most;
      most = c.requires.most;
      some = k_some a.b a.y a.precision a.knots.now a.limit a.k c.requires.segments c.requires.enough c.requires.most;
      segments = le_trans (k_few a.b a.y a.precision a.knots.now a.limit a.k c.requires.segments c.requires.enough c.requires.most) (lit≤ tt);
      count = c.requires.count;
    }

pub returns-in_default : goal.returns-in_default
returns-in_default c = λ ev l. let a = c.args in off_kept (parameter_of a.k)
    (find (trial (rule_of a.how) (segment_of a.b a.knots.now) a.y a.precision a.limit) a.y a.rising a.k ev)
    c.in_default.is (c.find-a.ensures ev l) c.count_of.ensures

pub parameter-requires : goal.parameter-requires
parameter-requires c = let a = c.args in
    let few = k_few a.b a.y a.precision a.knots.now a.limit a.k c.requires.segments c.requires.enough c.requires.most in
    let below = found_below a.b a.y a.precision a.knots.now a.limit a.k c.requires.segments c.requires.enough c.requires.most a.how a.rising
    c.requires.number c.requires.range a.n c.in-Entered.is c.find-a.ensures in
    record { segments = le_trans few (lit≤ tt); segment = omega (arith, below, few) }

pub returns : goal.returns
returns c = λ ev l. let a = c.args in with_parameter (parameter_of a.k)
    (find (trial (rule_of a.how) (segment_of a.b a.knots.now) a.y a.precision a.limit) a.y a.rising a.k ev)
    c.in-Entered.is (c.find-a.ensures ev l) c.parameter.ensures c.place_of.ensures
