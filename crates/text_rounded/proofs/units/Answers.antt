-- The product in its two parts, over 2^12 times a power of two; beyond 2^74 nothing is left of it.
use native.Mathlib.Omega.{arith}
use lib.Pow.{pow_pos}
use Prim.Native.Nat.{◌-◌}
use Rattle.text_rounded.proofs.Parts.{ten_power, low_room, high_room, half_room, no_units, units_are}
use Rattle.text_rounded.proofs.units.Goals as goal

pub returns-then-s-gt74 : goal.returns-then-s-gt74
returns-then-s-gt74 c = record { answer = no_units c.args.d c.args.a (omega arith) (omega arith) (omega arith); most = omega arith }

pub pow-scale-requires : goal.pow-scale-requires
pow-scale-requires c = omega (arith, ten_power c.args.d (omega arith))

pub overflow_mul-low : goal.overflow_mul-low
overflow_mul-low c = omega (arith, low_room c.significand-m.result c.pow-scale.result (omega (arith, ten_power c.args.d (omega arith))))

pub overflow_mul-high : goal.overflow_mul-high
overflow_mul-high c = omega (
  arith,
  high_room c.significand-m.result c.pow-scale.result (omega arith)
      (omega (arith, ten_power c.args.d (omega arith))),
)

pub overflow_add-high : goal.overflow_add-high
overflow_add-high c = omega (
  arith,
  low_room c.significand-m.result c.pow-scale.result (omega (arith, ten_power c.args.d (omega arith))),
  high_room c.significand-m.result c.pow-scale.result (omega arith) (omega (arith, ten_power c.args.d (omega arith))),
)

pub pow-requires : goal.pow-requires
pow-requires c = omega (arith, half_room c.shift-s.result (omega arith))

pub nearest-requires : goal.nearest-requires
nearest-requires c = record {
  low = omega arith;
  high = omega (
    arith,
    low_room c.significand-m.result c.pow-scale.result
        (omega (arith, ten_power c.args.d (omega arith))),
    high_room c.significand-m.result c.pow-scale.result (omega arith)
        (omega (arith, ten_power c.args.d (omega arith))),
  );
  some = omega (arith, pow_pos (c.shift-s.result - 12));
  half = omega (arith, half_room c.shift-s.result (omega arith));
}

pub returns : goal.returns
returns c = let pair = units_are c.args.d c.args.a c.significand-m.result c.shift-s.result c.pow-scale.result
    c.pow.result _ c.significand-m.ensures.answer c.significand-m.ensures.short c.shift-s.ensures.answer
    c.shift-s.ensures.least c.pow-scale.ensures c.pow.ensures c.nearest.ensures in record { answer = pair.0; most = pair.1 }
