-- What an answer leaves for C: all four at once, of an answer that is known by its case, and of the basis that was asked by its number. Assumes nothing.
use Rattle.stopped.specs.declared.Job.{Job}
use Rattle.inverse_segment.specs.declared.Miss.{Miss}
use Rattle.std.specs.Prelude.{Some, None, Option, Result}
use mathlib.Core.Path.{◌≡◌, sym, ap, ◌∙◌, subst}
use mathlib.Core.List.{List}
use Prim.Native.Nat.{ℕ}
use lib.Ieee.{Float}
use Rattle.basis.specs.declared.Basis.{Basis}
use Rattle.exports_reply.specs.Replies.{no_basis, chosen}
use Rattle.exports_reply.proofs.Found.{found, unfound}
use Rattle.exports_stopped.specs.Jobs.{said_reply, said_job, said_place, said_whole}

-- job, place and whole stand behind the pointers before; r is the reply, and j, p and w stand there after
module _ (job : ℕ) (place : List Float) (whole : List ℕ) where
  abbrev pub Left : Result Job Miss → ℕ → ℕ → List Float → List ℕ → Type 0
  Left a r j p w = (r ≡ said_reply a) × ((j ≡ said_job a job) × ((p ≡ said_place a place) × (w ≡ said_whole a whole)))

  pub left : {a z : Result Job Miss} {r j : ℕ} {p : List Float} {w : List ℕ} → a ≡ z → Left z r j p w → Left a r j p w
  left {a} {z} {r} {j} {p} {w} e h = subst (λ (x : Result Job Miss). Left x r j p w) (sym e) h

  module _ (f : Basis → Result Job Miss) {c k : Option Basis} (asked : c ≡ k) where
    abbrev LeftBy : ℕ → ℕ → List Float → List ℕ → Type 0
    LeftBy r j p w =
        (r ≡ chosen k no_basis (λ b. said_reply (f b)))
        × ((j ≡ chosen k job (λ b. said_job (f b) job))
        × ((p ≡ chosen k place (λ b. said_place (f b) place)) × (w ≡ chosen k whole (λ b. said_whole (f b) whole))))

    pub no_basis_lem : c ≡ None → LeftBy no_basis job place whole
    no_basis_lem unknown = (
      unfound no_basis _ asked unknown,
      (unfound job _ asked unknown, (unfound place _ asked unknown, unfound whole _ asked unknown)),
    )

    pub by_basis : {b : Basis} {a : Result Job Miss} {r j : ℕ} {p : List Float} {w : List ℕ} → c ≡ Some b → a ≡ f b → Left a r j p w → LeftBy r j p w
    by_basis known e h = (
      found no_basis _ asked known (h.0 ∙ ap said_reply e),
      (
        found job _ asked known (h.1.0 ∙ ap (λ (x : Result Job Miss). said_job x job) e),
        (
          found place _ asked known (h.1.1.0 ∙ ap (λ (x : Result Job Miss). said_place x place) e),
          found whole _ asked known (h.1.1.1 ∙ ap (λ (x : Result Job Miss). said_whole x whole) e),
        ),
      ),
    )
