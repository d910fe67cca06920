-- What checking a claim promises, of its call: by which rows it refuses, and when a claim holds; that each answer of an inversion with ground `value` or
-- `edge` holds as a claim, by the contracts of both calls; and what the checker prints for a claim. Assumes nothing.
use Rattle.inverse_segment.specs.Inversion.{Inversion}
use Rattle.inverse_segment.specs.declared.Miss.TheVariants.{Refused, OffCurve}
use Rattle.std.specs.Prelude.{Ok, Err, Some, None, Option, true, false, Result, Bool}
use mathlib.Core.Path.{◌≡◌, refl, sym, ap, ◌∙◌}
use mathlib.Core.Bool.{Bool, true, false}
use mathlib.Core.List.{List, [], ◌∷◌}
use Prim.Native.Nat.{ℕ}
use native.Mathlib.Omega.{arith}
use lib.Dec.{T}
use lib.ListN.{get_or}
use lib.Ieee.{Float, binary64, of_bits, fits}
use Rattle.error.specs.declared.Refusal.{Refusal}
use Rattle.error.specs.Refusals.{rows, first, Verdict}
use Rattle.error.proofs.First.{never, First, first_sound, first_complete}
use Rattle.basis.specs.declared.Basis.{Basis}
use Rattle.inverse_segment.specs.declared.Place.{Place}
use Rattle.inverse_segment.specs.Answer.{inverse_segment_by, default_limit, default_precision}
use Rattle.inverse_segment.proofs.spline_inverse_segment_with.Reads as spline_inverse_segment_with
use Rattle.inverse_segment.proofs.spline_inverse_segment.Reads as spline_inverse_segment
use Rattle.inverse_segment.specs.declared.Method.{Method}
use Rattle.inverse_segment.specs.declared.Method.TheVariants.{AsCrate, Steady}
use Rattle.inverse_segment.specs.Method.{rule_of, steady_limit}
use Rattle.inverse_segment.proofs.spline_inverse_segment_by.Reads as spline_inverse_segment_by
use Rattle.inverse_segment.proofs.spline_inverse_segment_steady.Reads as spline_inverse_segment_steady
use Rattle.inverse_order.specs.declared.EndsBy.{EndsBy}
use Rattle.inverse_order.specs.declared.EndsBy.TheVariants.{Knots}
use Rattle.inverse.specs.Inverse.{inverse_by}
use Rattle.inverse.proofs.Facts.{AtPlace}
use Rattle.inverse.proofs.spline_inverse_by.Reads as spline_inverse_by
use Rattle.inverse.proofs.spline_inverse_with.Reads as spline_inverse_with
use Rattle.inverse.proofs.spline_inverse.Reads as spline_inverse
use Rattle.inverse.proofs.spline_inverse_steady.Reads as spline_inverse_steady
use Rattle.claim.specs.Claim.{claim_uses, claimed, claim_of}
use Rattle.claim.proofs.Own.{Accepted, holds_only, holds_where, differs_only, differs_where, Settled, own_accepted, own_segment_accepted}
use Rattle.claim.proofs.check_claim.Reads as check_claim
use Rattle.table_span.specs.declared.Table.{Table}
use Rattle.text.specs.Text.{bytes}
use Rattle.lines_reply.specs.Reply.{refused_text}
use Rattle.lines_answer.specs.Answer.{on}
use Rattle.lines_machine.specs.Program.{Line}
use Rattle.claims.specs.declared.ClaimRecord.TheVariants.{Claim}
use Rattle.claims.specs.Claims.{says, claim_text, check_text, tells_of, claims_program}
use Rattle.exports_reply.specs.Replies.{chosen_of, no_basis, chosen}
use Rattle.exports_value.specs.Claims.{claimed_reply, holds_left}
use Rattle.simmerstoat.proofs.claims.simmerstoat_check_claim.Reads as c_check_claim
use Rattle.calls.specs.Calls.{AsksNothing, Keeps, OneReply, Exactly}
use Rattle.promises.proofs.Orders.{Ordered}
use Rattle.promises.proofs.Exports.{NotZero}

pub check_claim_asks_nothing : AsksNothing check_claim.Asked
check_claim_asks_nothing κs a = tt

pub check_claim_one_reply : OneReply check_claim.Learnt (λ κs z e z' e'. z ≡ z')
check_claim_one_reply κs a z z' e e' p q = p ∙ sym q

pub claim_ordered : (b : Basis) (y : Float) (s : ℕ) (x ε : Float) (ks : List Float) → Ordered (claim_uses b y s x ε ks) (1 ∷ 2 ∷ 3 ∷ 5 ∷ 6 ∷ 19 ∷ 4 ∷ [])
claim_ordered b y s x ε ks = (refl, refl)

-- ---- when it is refused, when it holds and when it differs
refused_by : (v : Verdict) (t : Bool) (r : Refusal) → claimed v t ≡ Err r → v ≡ Err r
refused_by (Ok _) true r e = never (cc)
refused_by (Ok _) false r e = never (cc)
refused_by (Err q) t r e = let s : q ≡ r = cc in ap Err s

module _ (b : Basis) (y : Float) (s : ℕ) (x ε : Float) (ks : List Float) where
  refused_only : (r : Refusal) → claim_of b y s x ε ks ≡ Err r → First (claim_uses b y s x ε ks) rows r
  unfolding claim_of
  refused_only r e = first_sound rows (claim_uses b y s x ε ks) r (refused_by (first (claim_uses b y s x ε ks)) _ r e)

  refused_where : (r : Refusal) → First (claim_uses b y s x ε ks) rows r → claim_of b y s x ε ks ≡ Err r
  unfolding claim_of
  refused_where r f = rw (first_complete rows (claim_uses b y s x ε ks) r f)

  pub record Checked (z : Result Bool Refusal) : Type 0 where
    -- it is refused exactly where a row applies, by the first
    pub refused : (r : Refusal) → Exactly (z ≡ Err r) (First (claim_uses b y s x ε ks) rows r)
    -- it holds exactly where no row applies, the local place is in 0 to 1, and the value there differs from the target by less than twice the precision
    pub holds : Exactly (z ≡ Ok true) (Accepted b y s x ε ks)
    -- it differs exactly where no row applies and it does not hold
    pub differs : Exactly (z ≡ Ok false) ((first (claim_uses b y s x ε ks) ≡ Ok tt) × (Accepted b y s x ε ks → ⊥))

  checked : (z : Result Bool Refusal) → z ≡ claim_of b y s x ε ks → Checked z
  checked z e =
      record {
        refused = λ r. (λ h. refused_only r (sym e ∙ h), λ f. e ∙ refused_where r f);
        holds = (λ h. holds_only b y s x ε ks (sym e ∙ h), λ a. e ∙ holds_where b y s x ε ks a);
        differs = (λ h. differs_only b y s x ε ks (sym e ∙ h), λ n. e ∙ differs_where b y s x ε ks n.0 n.1);
      }

pub check_claim_checked : Keeps check_claim.Learnt
    (λ κs a z e. Checked a.0 a.1.0 a.1.1.0 a.1.1.1.0 a.1.1.1.1.0 a.1.1.1.1.1.0.now z)
check_claim_checked κs a z e p = checked a.0 a.1.0 a.1.1.0 a.1.1.1.0 a.1.1.1.1.0 a.1.1.1.1.1.0.now z p

-- ---- our own answers: the call, asked with these, answers that the claim holds
abbrev pub Accepts : Basis → Float → ℕ → Float → Float → List Float → Type 0
Accepts b y s x ε ks =
    Keeps check_claim.Learnt
    (λ κs a z e. a.0 ≡ b → a.1.0 ≡ y → a.1.1.0 ≡ s → a.1.1.1.0 ≡ x → a.1.1.1.1.0 ≡ ε → a.1.1.1.1.1.0.now ≡ ks → z ≡ Ok true)

pub accepting : (b : Basis) (y : Float) (s : ℕ) (x ε : Float) (ks : List Float) → claim_of b y s x ε ks ≡ Ok true → Accepts b y s x ε ks
accepting b y s x ε ks h κs a z e p q0 q1 q2 q3 q4 q5 = p ∙ rw (q0, q1, q2, q3, q4, q5) h

-- a place by `value` or `edge`, claimed with its own segment, local place and precision
abbrev pub OwnHolds : Basis → Float → Float → List Float → Inversion → Type 0
OwnHolds b y ε ks r = AtPlace (λ (p : Place). Settled p.ground → Accepts b y p.segment p.local ε ks) r

pub own_holds : (b : Basis) (y ε : Float) (ks : List Float) (r : Inversion)
    → ((p : Place) → r ≡ Ok p → Settled p.ground → claim_of b y p.segment p.local ε ks ≡ Ok true)
    → OwnHolds b y ε ks r
own_holds b y ε ks (Ok p) h = λ t. accepting b y p.segment p.local ε ks (h p refl t)
own_holds b y ε ks (Err (OffCurve n)) h = tt
own_holds b y ε ks (Err (Refused r)) h = tt

-- the precision is a double, as every caller's is
pub curve_own : (m : EndsBy) (how : Method) (b : Basis) (y : Float) (ks : List Float) (check : Bool) (limit : ℕ) (ε : Float) (r : Inversion)
    → r ≡ inverse_by m how b y ks check limit ε
    → T (fits binary64 ε) → OwnHolds b y ε ks r
curve_own m how b y ks check limit ε r e f = own_holds b y ε ks r (λ p h t. own_accepted m how b y ks check limit ε f p (sym e ∙ h) t)

segment_own : (how : Method) (b : Basis) (y : Float) (cv : List Float) (limit : ℕ) (ε : Float) (r : Inversion)
    → r ≡ inverse_segment_by (rule_of how) b y cv limit ε
    → T (fits binary64 ε) → OwnHolds b y ε cv r
segment_own how b y cv limit ε r e f = own_holds b y ε cv r (λ p h t. own_segment_accepted how b y cv limit ε f p (sym e ∙ h) t)

pub default_fits : T (fits binary64 default_precision)
unfolding fits of_bits
default_fits = tt

-- a curve, by either rule of the ends, any method, with the order check or without
pub spline_inverse_by_own : Keeps spline_inverse_by.Learnt
    (λ κs a z e. T (fits binary64 a.0.precision) → OwnHolds a.1.0 a.1.1.0 a.0.precision a.1.1.1.0.now z)
spline_inverse_by_own κs a z e p =
    curve_own a.0.ends a.0.method a.1.0 a.1.1.0 a.1.1.1.0.now a.0.check a.0.limit a.0.precision z p

pub spline_inverse_with_own : Keeps spline_inverse_with.Learnt
    (λ κs a z e. T (fits binary64 a.1.1.1.1.1.0) → OwnHolds a.0 a.1.0 a.1.1.1.1.1.0 a.1.1.0.now z)
spline_inverse_with_own κs a z e p = curve_own Knots AsCrate a.0 a.1.0 a.1.1.0.now a.1.1.1.0 a.1.1.1.1.0 a.1.1.1.1.1.0 z p

pub spline_inverse_own : Keeps spline_inverse.Learnt (λ κs a z e. OwnHolds a.0 a.1.0 default_precision a.1.1.0.now z)
spline_inverse_own κs a z e p = curve_own Knots AsCrate a.0 a.1.0 a.1.1.0.now a.1.1.1.0 default_limit default_precision z p default_fits

pub spline_inverse_steady_own : Keeps spline_inverse_steady.Learnt (λ κs a z e. OwnHolds a.0 a.1.0 default_precision a.1.1.0.now z)
spline_inverse_steady_own κs a z e p = curve_own Knots Steady a.0 a.1.0 a.1.1.0.now a.1.1.1.0 steady_limit default_precision z p default_fits

-- one segment, whose four knots are a curve of one segment
pub spline_inverse_segment_by_own : Keeps spline_inverse_segment_by.Learnt
    (λ κs a z e. T (fits binary64 a.1.1.1.1.0) → OwnHolds a.0 a.1.0 a.1.1.1.1.0 a.1.1.0.now z)
spline_inverse_segment_by_own κs a z e p = segment_own a.1.1.1.1.1.0 a.0 a.1.0 a.1.1.0.now a.1.1.1.0 a.1.1.1.1.0 z p

pub spline_inverse_segment_with_own : Keeps spline_inverse_segment_with.Learnt
    (λ κs a z e. T (fits binary64 a.1.1.1.1.0) → OwnHolds a.0 a.1.0 a.1.1.1.1.0 a.1.1.0.now z)
spline_inverse_segment_with_own κs a z e p = segment_own AsCrate a.0 a.1.0 a.1.1.0.now a.1.1.1.0 a.1.1.1.1.0 z p

pub spline_inverse_segment_own : Keeps spline_inverse_segment.Learnt (λ κs a z e. OwnHolds a.0 a.1.0 default_precision a.1.1.0.now z)
spline_inverse_segment_own κs a z e p = segment_own AsCrate a.0 a.1.0 a.1.1.0.now default_limit default_precision z p default_fits

pub spline_inverse_segment_steady_own : Keeps spline_inverse_segment_steady.Learnt
    (λ κs a z e. OwnHolds a.0 a.1.0 default_precision a.1.1.0.now z)
spline_inverse_segment_steady_own κs a z e p = segment_own Steady a.0 a.1.0 a.1.1.0.now steady_limit default_precision z p default_fits

-- ---- what the checker prints for a claim
-- told apart by the first byte
holds_text : (c : Result Bool Refusal) → claim_text c ≡ bytes "holds\n" → c ≡ Ok true
holds_text (Err r) e = let h : get_or (refused_text r) 0 0 ≡ 104 = ap (λ (l : List ℕ). get_or l 0 0) e in absurd (omega (arith, h))
holds_text (Ok true) e = refl
holds_text (Ok false) e = let h : get_or (bytes "differs\n") 0 0 ≡ 104 = ap (λ (l : List ℕ). get_or l 0 0) e in absurd (omega (arith, h))

-- `holds` exactly where the claim is accepted
pub claim_line_holds : (t : Table) (m : EndsBy) (ks : List Float) (o : Line) (y : Float) (s : ℕ) (x ε : Float) → says o ≡ Claim y s x ε
    → Exactly (claims_program.tells (on t m ks) o ≡ bytes "holds\n") (Accepted t.basis y s x ε ks)
unfolding tells_of check_text
claim_line_holds t m ks o y s x ε e =
    let told : claims_program.tells (on t m ks) o ≡ claim_text (claim_of t.basis y s x ε ks) = ap (tells_of (on t m ks)) e in (
      λ h. holds_only t.basis y s x ε ks (holds_text (claim_of t.basis y s x ε ks) (sym told ∙ h)),
      λ a. told
          ∙ ap claim_text (holds_where t.basis y s x ε ks a),
    )

-- ---- what others link
pub c_check_claim_asks_nothing : AsksNothing c_check_claim.Asked
c_check_claim_asks_nothing κs a = tt

pub c_check_claim_one_reply : OneReply c_check_claim.Learnt (λ κs z e z' e'. (z ≡ z') × (e.1.1.1.1.1.1.0.now ≡ e'.1.1.1.1.1.1.0.now))
c_check_claim_one_reply κs a z z' e e' p q = (p.0 ∙ sym q.0, p.1 ∙ sym q.1)

holds_kept : (c : Option Basis) (f : Basis → Result Bool Refusal) (old : Bool) → NotZero (chosen c no_basis (λ b. claimed_reply (f b)))
    → chosen c old (λ b. holds_left (f b) old) ≡ old
holds_kept None f old h = refl
holds_kept (Some b) f old h = go (f b) h
  where
    go : (v : Result Bool Refusal) → NotZero (claimed_reply v) → holds_left v old ≡ old
    go (Ok true) h = absurd (h refl)
    go (Ok false) h = absurd (h refl)
    go (Err r) h = refl

pub c_check_claim_writes_nothing : Keeps c_check_claim.Learnt (λ κs a z e. NotZero z → e.1.1.1.1.1.1.0.now ≡ a.1.1.1.1.1.1.0.now)
c_check_claim_writes_nothing κs a z e p h =
    p.1
    ∙ holds_kept (chosen_of a.0) (λ b. claim_of b a.1.0 a.1.1.0 a.1.1.1.0 a.1.1.1.1.0 a.1.1.1.1.1.0.now)
    a.1.1.1.1.1.1.0.now (λ w. h (p.0 ∙ w))
