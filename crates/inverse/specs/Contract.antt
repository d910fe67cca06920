-- The definitions' results as the code has them: a count stands for each list of evaluations. Definitions only.
use Rattle.inverse_segment.specs.Inversion.{Inversion}
use Rattle.std.specs.Prelude.{◌≡◌, List, Bool, ℕ, length, Float}
use Rattle.basis.specs.declared.Basis.{Basis}
use Rattle.spline.specs.Segment.{segment_of}
use Rattle.inverse_segment.specs.Evaluations.{Evaluations}
use Rattle.inverse_segment.specs.declared.Method.{Method}
use Rattle.inverse_segment.specs.Method.{rule_of}
use Rattle.inverse_segment.specs.Answer.{answered}
use Rattle.inverse_search.specs.Search.{find}
use Rattle.inverse_search.specs.Trial.{trial}
use Rattle.inverse.specs.declared.Ends.{Ends}
use Rattle.inverse.specs.Curve.{parameter_of, ended, located}

abbrev pub EndedIs : ℕ → ℕ → Float → Inversion → Type 0
EndedIs n s x r = (ev : Evaluations) → length ev ≡ n → r ≡ ended ev s x

abbrev pub SearchedIs : Method → Basis → Float → List Float → ℕ → Float → Bool → ℕ → ℕ → Inversion → Type 0
SearchedIs how b y ks limit ε rising k n r = (ev : Evaluations) → length ev ≡ n
    → r ≡ answered (parameter_of k) (find (trial (rule_of how) (segment_of b ks) y ε limit) y rising k ev)

abbrev pub LocatedIs : Method → Ends → Basis → Float → List Float → ℕ → Float → ℕ → ℕ → Inversion → Type 0
LocatedIs how e b y ks limit ε k n r = (ev : Evaluations) → length ev ≡ n → r ≡ located (rule_of how) e ev (segment_of b ks) k y ε limit
