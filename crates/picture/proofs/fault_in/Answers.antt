-- A case for each reply.
use mathlib.Core.Path.{refl}
use Rattle.picture.proofs.fault_in.Goals as goal

pub returns-in-Nothing : goal.returns-in-Nothing
returns-in-Nothing c = λ l. rw c.in-Nothing.is refl

pub returns-in-Refused : goal.returns-in-Refused
returns-in-Refused c = λ l. rw c.in-Refused.is refl

pub returns-in-Value : goal.returns-in-Value
returns-in-Value c = λ l. rw c.in-Value.is refl

pub returns-in-Place : goal.returns-in-Place
returns-in-Place c = λ l. rw c.in-Place.is refl

pub returns-in-Curve : goal.returns-in-Curve
returns-in-Curve c = λ l. rw c.in-Curve.is refl
