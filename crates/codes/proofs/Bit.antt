-- Masks against sets of places.
use Rattle.std.proofs.Common.{◌≡◌, ℕ, zero, suc, ◌+◌, ◌-◌, ◌*◌, ◌/◌, ◌%◌, ◌^◌, ◌<◌, ◌≤◌, min, Bool, true, false, cond, eqb, ltb, List, [], ◌∷◌, ◌++◌, length, get_or, take, drop, sym, refl, ap, ◌∙◌, subst, mul_assoc, add-mul, one-mul, pow-suc, one-add, arith, eqb→eq, pow_pos, pow-add, ltb-false, le-ltb, lt-ltb}
use native.Mathlib.Nat.{mod-mod, pow-le-pow_right}
use lib.Bits.{bit_and, bit_or, and_block, and_mask, and_shr, and_step, and_zero_r, or_shifted}
use Rattle.std.proofs.lemmas.Nat.{shr_split, mod_below, field_of, one_shl, or_comm}
use Rattle.std.proofs.lemmas.List.{take_more}
use Rattle.codes.specs.Code.{Clears}
use Rattle.codes.specs.Sets.{Rising, bits}
use Rattle.codes.specs.Steps.{MaskOf}
use Rattle.symbols.specs.Tests.{at₂}

-- of places from f on, the number is a multiple of 2 ^ f
pub shifted : (n f : ℕ) (xs : List ℕ) → Rising n f xs → (a : ℕ) × (bits xs ≡ a * 2 ^ f)
shifted n f [] p = (0, omega arith)
shifted n f (x ∷ xs) p =
    let r = shifted n (suc x) xs p.2 in
    let a = r.0 in
    let e : x ≡ (x - f) + f = omega arith in
    let s : 2 ^ x ≡ 2 ^ (x - f) * 2 ^ f = ap (λ (k : ℕ). 2 ^ k) e ∙ pow-add 2 (x - f) f in
    let d : 2 ^ x + a * 2 ^ suc x ≡ (1 + 2 * a) * 2 ^ x = omega (arith, ap (λ (y : ℕ). a * y) (pow-suc 2 x), sym (mul_assoc a (2 ^ x) 2), add-mul 1 (2 * a) (2 ^ x), mul_assoc 2 a (2 ^ x)) in (
      (1 + 2 * a) * 2 ^ (x - f),
      ap (λ (y : ℕ). 2 ^ x + y) r.1 ∙ d ∙ ap (λ (y : ℕ). (1 + 2 * a) * y) s ∙ sym (mul_assoc (1 + 2 * a) (2 ^ (x - f)) (2 ^ f)),
    )

-- one place more of a set: its bit of the mask comes to the number
pub and_place : (m x a : ℕ) → bit_and m (2 ^ x + a * 2 ^ suc x) ≡ bit_and m (a * 2 ^ suc x) + (m / 2 ^ x) % 2 * 2 ^ x
and_place m x a =
    let k = suc x in
    let A = m / 2 ^ k in
    let r = m % 2 ^ k in
    let split : m ≡ A * 2 ^ k + r = sym (shr_split m k) in
    let below : r < 2 ^ k = mod_below m (2 ^ k) (pow_pos k) in
    let less : 2 ^ x < 2 ^ k = omega (arith, pow-suc 2 x, pow_pos x) in
    let one : bit_and m (a * 2 ^ k + 2 ^ x) ≡ bit_and A a * 2 ^ k + bit_and r (2 ^ x) =
    ap (λ (y : ℕ). bit_and y (a * 2 ^ k + 2 ^ x)) split ∙ and_block k A a r (2 ^ x) below less in
    let two : bit_and m (a * 2 ^ k + 0) ≡ bit_and A a * 2 ^ k + bit_and r 0 =
    ap (λ (y : ℕ). bit_and y (a * 2 ^ k + 0)) split ∙ and_block k A a r 0 below (pow_pos k) in
    let low : bit_and r (1 * 2 ^ x + 0) ≡ bit_and (r / 2 ^ x) 1 * 2 ^ x + bit_and (r % 2 ^ x) 0 =
    ap (λ (y : ℕ). bit_and y (1 * 2 ^ x + 0)) (sym (shr_split r x)) ∙ and_block x (r / 2 ^ x) 1 (r % 2 ^ x) 0 (mod_below r (2 ^ x) (pow_pos x)) (pow_pos x) in
    let bit : bit_and (r / 2 ^ x) 1 ≡ (m / 2 ^ x) % 2 =
    and_mask (r / 2 ^ x) 1 ∙ ap (λ (y : ℕ). y % 2) (ap (λ (j : ℕ). m % 2 ^ j / 2 ^ x) (sym (one-add x)) ∙ field_of m 1 x) ∙ mod-mod (m / 2 ^ x) 2 in
    let c₁ : bit_and m (2 ^ x + a * 2 ^ k) ≡ bit_and m (a * 2 ^ k + 2 ^ x) = ap (bit_and m) (omega arith) in
    let c₂ : bit_and m (a * 2 ^ k) ≡ bit_and m (a * 2 ^ k + 0) = ap (bit_and m) (omega arith) in
    let c₃ : bit_and r (2 ^ x) ≡ bit_and r (1 * 2 ^ x + 0) = ap (bit_and r) (omega arith) in
    let c₄ : bit_and (r / 2 ^ x) 1 * 2 ^ x ≡ (m / 2 ^ x) % 2 * 2 ^ x = ap (λ (y : ℕ). y * 2 ^ x) bit in
    omega (arith, and_zero_r r, and_zero_r (r % 2 ^ x))

-- the number of the mask and the set, one place more
pub and_more : (n m x : ℕ) (xs : List ℕ) → Rising n (suc x) xs → bit_and m (bits (x ∷ xs)) ≡ bit_and m (bits xs) + (m / 2 ^ x) % 2 * 2 ^ x
and_more n m x xs p =
    let s = shifted n (suc x) xs p in
    ap (λ (y : ℕ). bit_and m (2 ^ x + y)) s.1 ∙ and_place m x s.0 ∙ ap (λ (y : ℕ). bit_and m y + (m / 2 ^ x) % 2 * 2 ^ x) (sym s.1)

from_bit : (b : Bool) (y x : ℕ) → y ≡ cond b 1 0 → y * 2 ^ x ≡ 0 → b ≡ false
from_bit true y x e z = absurd (omega (arith, pow_pos x, ap (λ (v : ℕ). v * 2 ^ x) e, one-mul (2 ^ x)))
from_bit false y x e z = refl

to_bit : (b : Bool) (y x : ℕ) → y ≡ cond b 1 0 → b ≡ false → y * 2 ^ x ≡ 0
to_bit b y x e z = ap (λ (v : ℕ). v * 2 ^ x) (e ∙ ap (λ (c : Bool). cond c 1 0) z) ∙ omega arith

-- a set is cleared exactly when the mask has none of its places
pub clears_of : (n k f m : ℕ) (τ : ℕ → ℕ) (xs : List ℕ) → MaskOf n k τ m → Rising n f xs → bit_and m (bits xs) ≡ 0 → Clears k τ xs
clears_of n k f m τ [] w p z = tt
clears_of n k f m τ (x ∷ xs) w p z =
    let e = and_more n m x xs p.2 in
    let b : ltb (τ x) k ≡ false = from_bit (ltb (τ x) k) _ x (w x p.1) (omega arith) in
    (omega (arith, ltb-false), clears_of n k (suc x) m τ xs w p.2 (omega arith))

pub of_clears : (n k f m : ℕ) (τ : ℕ → ℕ) (xs : List ℕ) → MaskOf n k τ m → Rising n f xs → Clears k τ xs → bit_and m (bits xs) ≡ 0
of_clears n k f m τ [] w p c = and_zero_r m
of_clears n k f m τ (x ∷ xs) w p c =
    let e = and_more n m x xs p.2 in
    let r = of_clears n k (suc x) m τ xs w p.2 c.1 in
    let b : ltb (τ x) k ≡ false = le-ltb (τ x) k c.0 in
    let z = to_bit (ltb (τ x) k) _ x (w x p.1) b in
    omega arith

pub place_at : (n f j : ℕ) (xs : List ℕ) → j < length xs → Rising n f xs → (get_or xs j 0 < n) × Rising n (suc (get_or xs j 0)) (drop (suc j) xs)
place_at n f j [] h p = absurd (omega arith)
place_at n f zero (x ∷ xs) h p = (p.1, p.2)
place_at n f (suc j) (x ∷ xs) h p = place_at n (suc x) j xs (omega arith) p.2

rising_take : (n f k : ℕ) (xs : List ℕ) → Rising n f xs → Rising n f (take k xs)
rising_take n f zero xs h = tt
rising_take n f (suc k) [] h = tt
rising_take n f (suc k) (x ∷ xs) h = (h.0, h.1, rising_take n (suc x) k xs h.2)

bits_pushed : (xs : List ℕ) (p : ℕ) → bits (xs ++ p ∷ []) ≡ bits xs + 2 ^ p
bits_pushed [] p = omega arith
bits_pushed (x ∷ xs) p = omega (arith, bits_pushed xs p)

-- the places before the last one make less than it alone
bits_low : (n f p : ℕ) (xs : List ℕ) → Rising n f (xs ++ p ∷ []) → bits xs + 2 ^ f ≤ 2 ^ p
bits_low n f p [] h = omega (arith, pow-le-pow_right {n = 2} (omega arith) h.0)
bits_low n f p (x ∷ xs) h =
    omega (arith, bits_low n (suc x) p xs h.2, pow-suc 2 x, pow-le-pow_right {n = 2} (omega arith) h.0)

-- one place more, as the code adds it
pub bits_more : (n i : ℕ) (xs : List ℕ) → i < length xs → n ≤ 64 → Rising n 0 xs → (s : ℕ) → s ≡ bits (take i xs) → bit_or s ((1 * 2 ^ get_or xs i 0) % 2 ^ 64) ≡ bits (take (i + 1) xs)
bits_more n i xs h b rising s e =
    let x = get_or xs i 0 in
    let more : take (i + 1) xs ≡ take i xs ++ x ∷ [] = take_more xs i 0 h in
    let low = bits_low n 0 x (take i xs) (subst (Rising n 0) more (rising_take n 0 (i + 1) xs rising)) in
    let below : s < 2 ^ x = omega (arith, low) in
    ap (bit_or s) (one_shl x 64 (omega (arith, (place_at n 0 i xs h rising).0)))
    ∙ or_comm s (2 ^ x)
    ∙ ap (λ (y : ℕ). bit_or y s) (sym (one-mul (2 ^ x)))
    ∙ or_shifted 1 x s below
    ∙ (omega (arith, e, bits_pushed (take i xs) x, ap bits more))

-- a bit of a mask with another is the lesser of their bits
pub bit-and : (a b p : ℕ) → (bit_and a b / 2 ^ p) % 2 ≡ min ((a / 2 ^ p) % 2) ((b / 2 ^ p) % 2)
bit-and a b p =
    let x = a / 2 ^ p in
    let y = b / 2 ^ p in
    ap (λ (z : ℕ). z % 2) (and_shr a b p) ∙ omega (arith, and_step x y)

-- a set without its last place
pub front_rising : (n f : ℕ) (xs : List ℕ) (p : ℕ) → Rising n f (xs ++ (p ∷ [])) → Rising n f xs
front_rising n f [] p h = tt
front_rising n f (x ∷ xs) p h = (h.0, h.1, front_rising n (suc x) xs p h.2)

-- a mask that has no place of a set, and not a last place more, has none of both
pub and_last : (n f m p : ℕ) (xs : List ℕ) → Rising n f (xs ++ (p ∷ [])) → bit_and m (bits xs) ≡ 0 → (m / 2 ^ p) % 2 ≡ 0 → bit_and m (bits (xs ++ (p ∷ []))) ≡ 0
and_last n f m p [] rising z b =
    and_more n m p [] tt ∙ omega (arith, and_zero_r m, ap (λ (y : ℕ). y * 2 ^ p) b)
and_last n f m p (x ∷ xs) rising z b =
    let e = and_more n m x (xs ++ (p ∷ [])) rising.2 in
    let d = and_more n m x xs (front_rising n (suc x) xs p rising.2) in
    let r = and_last n (suc x) m p xs rising.2 (omega arith) b in
    omega arith

-- all ones, shifted up by f, have each bit from f on
abbrev one_from : ℕ → ℕ → Bool
one_from f d = eqb (((2 ^ 64 - 1) * 2 ^ f % 2 ^ 64 / 2 ^ (f + d)) % 2) (cond (ltb (f + d) 64) 1 0)

pub ones_from : (f p : ℕ) → f ≤ p → p < 64 → ((2 ^ 64 - 1) * 2 ^ f % 2 ^ 64 / 2 ^ p) % 2 ≡ 1
ones_from f p l h =
    let e : f + (p - f) ≡ p = omega arith in
    let one = eqb→eq _ _ (at₂ 64 one_from tt f (p - f) (omega arith) (omega arith)) in
    ap (λ (x : ℕ). ((2 ^ 64 - 1) * 2 ^ f % 2 ^ 64 / 2 ^ x) % 2) (sym e) ∙ one
    ∙ ap (λ (b : Bool). cond b 1 0) (lt-ltb (f + (p - f)) 64 (omega arith))
