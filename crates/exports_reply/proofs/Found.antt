-- What a call answers for the basis, and the way, that was found is what it answers for the numbers that were asked. Assumes nothing.
use Rattle.std.specs.Prelude.{Some, None, Option}
use mathlib.Core.Path.{◌≡◌, sym, ap, ◌∙◌}
use Rattle.basis.specs.declared.Basis.{Basis}
use Rattle.inverse_segment.specs.declared.Method.{Method}
use Rattle.inverse_order.specs.declared.EndsBy.{EndsBy}
use Rattle.exports_reply.specs.Replies.{chosen}
use Rattle.exports_reply.specs.Options.{way}

pub found : {A : Type 0} {c k : Option Basis} {b : Basis} {r : A} (d : A) (f : Basis → A) → c ≡ k → c ≡ Some b → r ≡ f b → r ≡ chosen k d f
found d f asked known answered = answered ∙ sym (ap (λ x. chosen x d f) (sym asked ∙ known))

-- and where the number is no basis, all stays
pub unfound : {A : Type 0} {c k : Option Basis} (d : A) (f : Basis → A) → c ≡ k → c ≡ None → d ≡ chosen k d f
unfound d f asked unknown = sym (ap (λ x. chosen x d f) (sym asked ∙ unknown))

-- ---- the same of a way
pub way_found : {A : Type 0} {c k : Option (EndsBy × Method)} {e : EndsBy} {m : Method} {r : A} (d : A) (f : EndsBy → Method → A)
    → c ≡ k → c ≡ Some (e, m) → r ≡ f e m
    → r ≡ way k d f
way_found d f asked known answered = answered ∙ sym (ap (λ x. way x d f) (sym asked ∙ known))

pub way_unfound : {A : Type 0} {c k : Option (EndsBy × Method)} (d : A) (f : EndsBy → Method → A) → c ≡ k → c ≡ None → d ≡ way k d f
way_unfound d f asked unknown = sym (ap (λ x. way x d f) (sym asked ∙ unknown))
