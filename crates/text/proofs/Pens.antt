-- The laws of pens: what is written one after another is written together. Assumes nothing.
use Rattle.std.proofs.Common.{◌≡◌, ℕ, zero, suc, ◌+◌, ◌<◌, ◌≤◌, List, [], ◌∷◌, ◌++◌, length, take, drop, slice_set, refl, ap, sym, ◌∙◌, subst}
use Rattle.std.proofs.Common.{append_assoc, append-nil, add-zero, suc-add, zero-add, arith, length-append}
use Rattle.std.proofs.lemmas.Grind.{common_steps}
use Rattle.std.proofs.lemmas.List.{take_all, drop_all, drop-drop, take-append-drop}
use Rattle.std.proofs.Math.Seq.{take-append_seam, drop-append_seam, drop-append-add}
use borrow.Rule.Slice.PartMut.{put_mid}
use Rattle.text.specs.Pens.{patch, with, HasRoom, Writes}
use Rattle.text.specs.declared.pen.Pen.{Pen}
use Rattle.text.specs.Wrote.{Wrote}

-- the text t at the front, then u
here : (o t u : List ℕ)
    → take (length t) (t ++ drop (length t) o) ++ (u ++ drop (length t + length u) (t ++ drop (length t) o)) ≡ (t ++ u) ++ drop (length (t ++ u)) o
here o t u =
    let d : List ℕ = drop (length t) o in
    rw (take-append_seam t d, drop-append-add t d (length u), drop-drop (length u) (length t) o, length-append t u, append_assoc) refl

-- the text t, then u, anywhere
pub patch_more : (o : List ℕ) (at : ℕ) (t u : List ℕ) → patch (patch o at t) (at + length t) u ≡ patch o at (t ++ u)
unfolding patch
patch_more o zero t u = simp zero-add (here o t u)
patch_more [] (suc at) t u =
    let a : take (suc (at + length t)) t ≡ t = take_all (suc (at + length t)) t (omega arith) in
    let b : drop (suc (at + length t + length u)) t ≡ [] = drop_all (suc (at + length t + length u)) t (omega arith) in
    simp (suc-add, append-nil) (rw (a, b, append-nil) refl)
patch_more (x ∷ o) (suc at) t u = simp suc-add (ap (λ l. x ∷ l) (patch_more o at t u))

-- a byte that is set, and the slice's length
pub patch_byte : (o : List ℕ) (at b : ℕ) → at < length o → slice_set o at b ≡ patch o at (b ∷ [])
unfolding patch
patch_byte [] at b h = absurd (omega arith)
patch_byte (x ∷ o) zero b h = refl
patch_byte (x ∷ o) (suc at) b h = simp suc-add (ap (λ l. x ∷ l) (patch_byte o at b (omega arith)))

pub patch_long : (o : List ℕ) (at : ℕ) (t : List ℕ) → at + length t ≤ length o → length (patch o at t) ≡ length o
unfolding patch
patch_long o at t h = grind (arith, common_steps)

-- what is written in two parts is written
pub written : (p : Pen) (t u : List ℕ) → with (with p t) u ≡ with p (t ++ u)
written p t u = grind (arith, common_steps, patch_more)

pub wrote : (p : Pen) (t : List ℕ) (n : ℕ) (q : Pen) → q ≡ with p t → q.at ≤ p.at + n → length q.out.now ≡ length p.out.now → Writes p t n q
wrote p t n q a b c = record { text = a; short = b; room = c }

-- the part of a slice that a word is copied to
pub patch_word : (o : List ℕ) (at k : ℕ) (v w : List ℕ) → v ≡ w → k ≡ length w → put_mid at k o v ≡ patch o at w
unfolding patch
patch_word o at k v w e h = rw (h, e, drop-drop (length w) at o) refl

-- nothing is written
pub nothing : (p : Pen) → with p [] ≡ p
unfolding patch
nothing p = rw (add-zero p.at, take-append-drop p.at p.out.now) refl

-- of a text without a byte nothing has to be written
pub none_written : (p : Pen) (t : List ℕ) → length t ≡ 0 → Writes p t (length t) p
none_written p [] e = record { text = sym (nothing p); short = omega arith; room = refl }
none_written p (b ∷ t) e = absurd (omega (arith, e))

-- one text, then another, as one
pub chained : {p q r : Pen} {t u : List ℕ} {m n : ℕ} → Writes p t m q → Writes q u n r → Writes p (t ++ u) (m + n) r
chained {p} {q} {r} {t} {u} a b = record {
  text = b.text ∙ ap (λ (x : Pen). with x u) a.text ∙ written p t u;
  short = omega (arith, a.short, b.short);
  room = b.room ∙ a.room;
}

-- a text of at most m bytes has at most k, where k is no less
pub within : {p q : Pen} {t : List ℕ} {m : ℕ} (k : ℕ) → Writes p t m q → m ≤ k → Writes p t k q
within k a h = record { text = a.text; short = omega (arith, a.short); room = a.room }

-- what the functions that write cite
pub ruleset pens = (written, wrote, nothing, append-nil)

-- what is written ends where the rest begins
seam : (o : List ℕ) (at n : ℕ) (t : List ℕ) → n ≡ at + length t → at + length t ≤ length o → n ≡ length (take at o ++ t)
seam o at n t e h = grind (arith, common_steps)

pub before : (o : List ℕ) (at n : ℕ) (t : List ℕ) → n ≡ at + length t → at + length t ≤ length o → take n (patch o at t) ≡ take at o ++ t
unfolding patch
before o at n t e h = rw (← append_assoc, seam o at n t e h) (take-append_seam (take at o ++ t) (drop (at + length t) o))

pub behind : (o : List ℕ) (at n : ℕ) (t : List ℕ) → n ≡ at + length t → at + length t ≤ length o → drop n (patch o at t) ≡ drop n o
unfolding patch
behind o at n t e h =
    let a : List ℕ = take at o ++ t in
    rw (← append_assoc, e, ← e) (subst (λ k. drop k (a ++ drop n o) ≡ drop n o) (sym (seam o at n t e h)) (drop-append_seam a (drop n o)))

-- what a pen left in the slice that it was lent
pub ruleset lands = (before, behind, patch_long)
