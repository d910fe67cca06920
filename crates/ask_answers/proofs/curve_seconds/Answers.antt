-- The product of 32 bits and at most 4,093 segments.
use mathlib.Core.Path.{ap, ◌∙◌}
use Prim.Native.Nat.{ℕ, ◌*◌, ◌≤◌}
use native.Mathlib.Omega.{arith}
use native.Mathlib.Nat.{mul-le-mul}
use Rattle.basis.specs.declared.Basis.{Basis}
use Rattle.basis.specs.Basis.{segments_of}
use Rattle.inverse.proofs.Curve.{segments_few}
use Rattle.ask_answers.proofs.curve_seconds.Goals as goal

pub overflow_mul-result : goal.overflow_mul-result
overflow_mul-result c = let few : c.segments-s.result ≤ 4096 =
    omega (arith, c.segments-s.ensures, segments_few c.basis_of.result c.args.n c.requires.few) in
    let short : c.args.m ≤ 4294967295 = omega arith in
    omega (arith, mul-le-mul short few)

pub returns : goal.returns
returns c = ap (λ (x : ℕ). c.args.m * x) (c.segments-s.ensures ∙ ap (λ (b : Basis). segments_of b c.args.n) c.basis_of.ensures)
