-- The version of the archive, which is its header's and the Rust package's too. Definitions only.
use Rattle.std.specs.Prelude.{ℕ, ◌+◌, ◌*◌}

-- three numbers below 256 in one
abbrev pub version_of : ℕ → ℕ → ℕ → ℕ
version_of major minor patch = major * 65536 + minor * 256 + patch

abbrev pub version : ℕ
version = version_of 0 4 0
