-- What a conversion of a table leaves for C, of any conversion: where a number is no basis all stays, and for any other the call's answer is
-- carried over to the reply, the span, the length and the whole buffer. Assumes nothing.
use Rattle.table_span.specs.declared.Table.{Table}
use Rattle.error.specs.declared.Refusal.{Refusal}
use Rattle.std.specs.Prelude.{Some, None, Option, Result, ℕ}
use mathlib.Core.Path.{◌≡◌, ap, ◌∙◌}
use mathlib.Core.List.{List}
use Prim.Native.Nat.{ℕ}
use lib.Ieee.{Float}
use Rattle.basis.specs.declared.Basis.{Basis}
use Rattle.convert.specs.Conversion.{Conversion}
use Rattle.convert.specs.Buffer.{answer_of, buffer_of}
use Rattle.table.specs.Calls.{handed_of}
use Rattle.exports_reply.specs.Replies.{no_basis, chosen}
use Rattle.exports_table.specs.Tables.{handed_reply, handed_span, handed_length}
use Rattle.exports_reply.proofs.Found.{found, unfound}

-- from the bases k and l as chosen, with what stood behind the three pointers before
module _ (span : ℕ) (g : Basis → Basis → Conversion) (k l : Option Basis) (handed written : ℕ) (out : List Float) where
  abbrev of : Basis → Basis → Result (Table × ℕ) Refusal
  of f t = handed_of span t (answer_of (g f t))

  abbrev pub Left : ℕ → ℕ → ℕ → List Float → Type 0
  Left r s n o =
      (r ≡ chosen k no_basis (λ f. chosen l no_basis (λ t. handed_reply (of f t))))
      × ((s ≡ chosen k handed (λ f. chosen l handed (λ t. handed_span (of f t) handed)))
      × ((n ≡ chosen k written (λ f. chosen l written (λ t. handed_length (of f t) written)))
      × (o ≡ chosen k out (λ f. chosen l out (λ t. buffer_of (g f t) out)))))

  pub left_unknown : {c : Option Basis} → c ≡ k → c ≡ None → Left no_basis handed written out
  left_unknown asked unknown = (
    unfound no_basis _ asked unknown,
    (unfound handed _ asked unknown, (unfound written _ asked unknown, unfound out _ asked unknown)),
  )

  module _ {c : Option Basis} {f : Basis} (asked : c ≡ k) (known : c ≡ Some f) {d : Option Basis} (asked_to : d ≡ l) where
    pub left_unknown_to : d ≡ None → Left no_basis handed written out
    left_unknown_to unknown = (
      found no_basis _ asked known (unfound no_basis _ asked_to unknown),
      (
        found handed _ asked known (unfound handed _ asked_to unknown),
        (found written _ asked known (unfound written _ asked_to unknown), found out _ asked known (unfound out _ asked_to unknown)),
      ),
    )

    pub left : {t : Basis} {a : Result (Table × ℕ) Refusal} {r s n : ℕ} {o : List Float} → d ≡ Some t → a ≡ of f t → o ≡ buffer_of (g f t) out
        → r ≡ handed_reply a → s ≡ handed_span a handed → n ≡ handed_length a written → Left r s n o
    left known-to call buffer p q w = (
      found no_basis _ asked known (found no_basis _ asked_to known-to (p ∙ ap handed_reply call)),
      (
        found handed _ asked known (found handed _ asked_to known-to (q ∙ ap (λ a. handed_span a handed) call)),
        (
          found written _ asked known (found written _ asked_to known-to (w ∙ ap (λ a. handed_length a written) call)),
          found out _ asked known (found out _ asked_to known-to buffer),
        ),
      ),
    )
