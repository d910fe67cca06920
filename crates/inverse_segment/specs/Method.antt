-- The rule of each method, and the steady method's defaults. Definitions only.
use Rattle.inverse_segment.specs.Inversion.{Inversion}
use Rattle.std.specs.Prelude.{List, ℕ, Float}
use Rattle.basis.specs.declared.Basis.{Basis}
use Rattle.inverse_segment.specs.Answer.{inverse_segment_by, default_precision}
use Rattle.inverse_segment.specs.Round.{Rule, toward, chord, as_crate}
use Rattle.inverse_segment.specs.declared.Method.{Method}
use Rattle.inverse_segment.specs.declared.Method.TheVariants.{AsCrate, Taught, Steady}
use Rattle.inverse_segment.specs.Steady.{steady}

abbrev pub rule_of : Method → Rule
rule_of AsCrate = as_crate
rule_of Taught = chord toward
rule_of Steady = steady

-- 64 rounds; the precision is the crate's
abbrev pub steady_limit : ℕ
steady_limit = 64

-- one segment by the steady method, with its defaults
abbrev pub steady_segment_of : Basis → Float → List Float → Inversion
steady_segment_of b y cv = inverse_segment_by steady b y cv steady_limit default_precision
