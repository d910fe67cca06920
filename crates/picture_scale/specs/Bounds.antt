-- The bounds of heights and extents, within which no sum of the code overflows. Definitions only.
use Rattle.std.specs.Prelude.{ℕ, ◌<◌, ◌≤◌}
use Rattle.picture_scale.specs.declared.Extent.{Extent}

abbrev pub lowest : ℕ
lowest = 900000000000000

abbrev pub highest : ℕ
highest = 3100000000000000

-- strictly between the two
abbrev pub Between : ℕ → Type 0
Between h = (lowest < h) × (h < highest)

pub record Narrow (e : Extent) : Type 0 where
  pub low : lowest < e.lo
  pub ordered : e.lo ≤ e.hi
  pub high : e.hi < highest

pub record Open (e : Extent) : Type 0 where
  pub low : lowest ≤ e.lo
  pub ordered : e.lo < e.hi
  pub high : e.hi ≤ highest
