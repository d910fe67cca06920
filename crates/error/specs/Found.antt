-- What a search among n places answers. Definitions only.
use Rattle.std.specs.Prelude.{◌≡◌, ℕ, ◌<◌, Option, MatchOption}

-- the place i, or nothing where i lies past them all
abbrev pub Found : ℕ → ℕ → Option ℕ → Type 0
Found n i r = MatchOption r (i ≡ n) (λ k. (k ≡ i) × (k < n))
