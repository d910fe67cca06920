-- Rules of the ends and methods by their numbers, as a caller from C gives them. Definitions only.
use Rattle.std.specs.Prelude.{List, [], ◌∷◌, map, ℕ, get_or, Some, None, Option}
use Rattle.basis.specs.declared.Basis.{Basis}
use Rattle.inverse_segment.specs.declared.Method.{Method}
use Rattle.inverse_segment.specs.declared.Method.TheVariants.{AsCrate, Taught, Steady}
use Rattle.inverse_order.specs.declared.EndsBy.{EndsBy}
use Rattle.inverse_order.specs.declared.EndsBy.TheVariants.{Knots, Curve}
use Rattle.exports_reply.specs.Replies.{chosen_of, chosen}

-- both in the order of their numbers, from 0
abbrev pub methods : List Method
methods = AsCrate ∷ Taught ∷ Steady ∷ []

abbrev pub rules : List EndsBy
rules = Knots ∷ Curve ∷ []

abbrev pub method_of : EndsBy → ℕ → Option (EndsBy × Method)
method_of e n = get_or (map (λ m. Some (e, m)) methods) n None

abbrev pub way_of : ℕ → ℕ → Option (EndsBy × Method)
way_of ends method = get_or (map (λ e. method_of e method) rules) ends None

-- f of the basis, the rule and the method that are chosen; d if a number is none
abbrev pub way {ℓ} : {A : Type ℓ} → Option (EndsBy × Method) → A → (EndsBy → Method → A) → A
way (Some (e, m)) d f = f e m
way None d f = d

abbrev pub chosen_by {ℓ} : {A : Type ℓ} → ℕ → ℕ → ℕ → A → (Basis → EndsBy → Method → A) → A
chosen_by basis ends method d f = chosen (chosen_of basis) d (λ b. way (way_of ends method) d (f b))
