-- What writing place after place leaves: the front of one list over another. Assumes nothing.
use Rattle.std.proofs.Common.{◌≡◌, ℕ, zero, suc, ◌+◌, ◌<◌, ◌≤◌, List, [], ◌∷◌, ◌++◌, map, length, get_or, drop, set, sym, refl, ap, ◌∙◌, add-one, arith}
use lib.Ieee.{Float, nan}
use Rattle.many.specs.Contract.{laid}

-- one place more
lays : (ps out : List Float) (i : ℕ) → i < length ps → i < length out → set (laid i ps out) i (get_or ps i nan) ≡ laid (suc i) ps out
unfolding laid
lays [] out i h k = absurd (omega arith)
lays (p ∷ ps) [] i h k = absurd (omega arith)
lays (p ∷ ps) (q ∷ out) zero h k = refl
lays (p ∷ ps) (q ∷ out) (suc i) h k = ap (λ (l : List Float). p ∷ l) (lays ps out i (omega arith) (omega arith))

pub lays_next : (ps out now : List Float) (i : ℕ) (v : Float) → i < length ps → i < length out → now ≡ laid i ps out → v ≡ get_or ps i nan
    → set now i v ≡ laid (i + 1) ps out
lays_next ps out now i v h k e f =
    ap (λ (l : List Float). set l i v) e ∙ ap (set (laid i ps out) i) f ∙ lays ps out i h k ∙ ap (λ (n : ℕ). laid n ps out) (sym (add-one i))

-- nothing beyond has changed
pub untouched : (ps out : List Float) (n i : ℕ) → n ≤ i → get_or (laid n ps out) i nan ≡ get_or out i nan
unfolding laid
untouched ps out zero i h = refl
untouched [] out (suc n) i h = refl
untouched (p ∷ ps) [] (suc n) i h = refl
untouched (p ∷ ps) (q ∷ out) (suc n) zero h = absurd (omega arith)
untouched (p ∷ ps) (q ∷ out) (suc n) (suc i) h = untouched ps out n i (omega arith)

pub laid_at : (ps out now : List Float) (i : ℕ) → now ≡ laid i ps out → get_or now i nan ≡ get_or out i nan
laid_at ps out now i e = ap (λ (l : List Float). get_or l i nan) e ∙ untouched ps out i i (omega arith)

-- what was laid stands there
pub stands : (ps out : List Float) (n i : ℕ) → i < n → i < length ps → i < length out → get_or (laid n ps out) i nan ≡ get_or ps i nan
unfolding laid
stands ps out zero i l h k = absurd (omega arith)
stands [] out (suc n) i l h k = absurd (omega arith)
stands (p ∷ ps) [] (suc n) i l h k = absurd (omega arith)
stands (p ∷ ps) (q ∷ out) (suc n) zero l h k = refl
stands (p ∷ ps) (q ∷ out) (suc n) (suc i) l h k = stands ps out n i (omega arith) (omega arith) (omega arith)

pub laid_length : (ps out : List Float) (n : ℕ) → length (laid n ps out) ≡ length out
unfolding laid
laid_length ps out zero = refl
laid_length [] out (suc n) = refl
laid_length (p ∷ ps) [] (suc n) = refl
laid_length (p ∷ ps) (q ∷ out) (suc n) = ap suc (laid_length ps out n)

-- ---- a list worked out from another
pub map_length : (f : Float → Float) (xs : List Float) → length (map f xs) ≡ length xs
map_length f [] = refl
map_length f (x ∷ xs) = ap suc (map_length f xs)

pub map_at : (f : Float → Float) (xs : List Float) (i : ℕ) → i < length xs → get_or (map f xs) i nan ≡ f (get_or xs i nan)
map_at f [] i h = absurd (omega arith)
map_at f (x ∷ xs) zero h = refl
map_at f (x ∷ xs) (suc i) h = map_at f xs i (omega arith)

-- all of a list
whole : (ps out : List Float) → length ps ≤ length out → laid (length ps) ps out ≡ ps ++ drop (length ps) out
unfolding laid
whole [] out h = refl
whole (p ∷ ps) [] h = absurd (omega arith)
whole (p ∷ ps) (q ∷ out) h = ap (λ (l : List Float). p ∷ l) (whole ps out (omega arith))

-- laid, and then worked out where it stands
twice : (f : Float → Float) (ps out : List Float) → length ps ≤ length out
    → laid (length ps) (map f (laid (length ps) ps out)) (laid (length ps) ps out) ≡ map f ps ++ drop (length ps) out
unfolding laid
twice f [] out h = refl
twice f (p ∷ ps) [] h = absurd (omega arith)
twice f (p ∷ ps) (q ∷ out) h = ap (λ (l : List Float). f p ∷ l) (twice f ps out (omega arith))

through : (f g h : Float → Float) (xs : List Float) → ((x : Float) → f (g x) ≡ h x) → map f (map g xs) ≡ map h xs
through f g h [] e = refl
through f g h (x ∷ xs) e = ap (λ (y : Float). y ∷ map f (map g xs)) (e x) ∙ ap (λ (l : List Float). h x ∷ l) (through f g h xs e)

pub both : (f g h : Float → Float) (xs out now end : List Float) (n : ℕ) → ((x : Float) → f (g x) ≡ h x) → length xs ≤ length out → n ≡ length xs
    → now ≡ laid (length xs) (map g xs) out → end ≡ laid n (map f now) now → end ≡ map h xs ++ drop (length (map h xs)) out
both f g h xs out now end n e r m p q =
    let l = map_length g xs in
    let p' : now ≡ laid (length (map g xs)) (map g xs) out = p ∙ ap (λ (k : ℕ). laid k (map g xs) out) (sym l) in
    let m' : n ≡ length (map g xs) = m ∙ sym l in
    q
    ∙ ap (λ (k : ℕ). laid k (map f now) now) m'
    ∙ ap (λ (o : List Float). laid (length (map g xs)) (map f o) o) p'
    ∙ twice f (map g xs) out (omega (arith, l, r))
    ∙ ap (λ (z : List Float). z ++ drop (length (map g xs)) out) (through f g h xs e)
    ∙ ap (λ (k : ℕ). map h xs ++ drop k out) (l ∙ sym (map_length h xs))
