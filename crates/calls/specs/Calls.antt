-- What can be said of a call by its contract C, as a caller has it: `Asked`, what he owes, and `Learnt`, what he is told.
-- L is the lifetimes; a is the arguments in their order, a.0, a.1.0 and so on; z is the reply; e is the parameters when the call
-- returns, so that `e.0.now` stands behind the first then. Definitions only.

-- it may be called with any arguments
abbrev pub AsksNothing : {L : Type 0} {A : L → Type 0} → ((κs : L) → A κs → Type 0) → Type 0
AsksNothing {L} {A} C = (κs : L) (a : A κs) → C κs a

-- whatever it replies, P holds
abbrev pub Keeps : {L : Type 0} {A Z E : L → Type 0} → ((κs : L) → A κs → Z κs → E κs → Type 0)
    → ((κs : L) → A κs → Z κs → E κs → Type 0) → Type 0
Keeps {L} {A} {Z} {E} C P = (κs : L) (a : A κs) (z : Z κs) (e : E κs) → C κs a z e → P κs a z e

-- no second reply fits: two that the contract allows on the same arguments are the same,
-- by what a caller sees of a reply and of what it leaves
abbrev pub OneReply : {L : Type 0} {A Z E : L → Type 0} → ((κs : L) → A κs → Z κs → E κs → Type 0)
    → ((κs : L) → Z κs → E κs → Z κs → E κs → Type 0) → Type 0
OneReply {L} {A} {Z} {E} C Same = (κs : L) (a : A κs) (z z' : Z κs) (e e' : E κs) → C κs a z e → C κs a z' e' → Same κs z e z' e'

-- each gives the other
abbrev pub Exactly : Type 0 → Type 0 → Type 0
Exactly P Q = (P → Q) × (Q → P)
