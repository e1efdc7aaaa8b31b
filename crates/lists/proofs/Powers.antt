-- Products and powers modulo n, and powers by squaring.
use Rattle.std.proofs.Common.{◌≡◌, ℕ, suc, ◌+◌, ◌*◌, ◌/◌, ◌%◌, ◌^◌, ◌<◌, sym, ap, ◌∙◌, mod-eq_of_lt, mul_assoc, mul_comm, one-mul, pow-suc, arith}
use native.Mathlib.Nat.{pow-zero}
use Rattle.std.proofs.lemmas.Nat.{mul-mod_first, mul-mod_second, pow-mod, mul-pow, pow-add}

-- Factors that are equal modulo n give products that are.
pub mul_left : (a b c n : ℕ) → a % n ≡ b % n → (a * c) % n ≡ (b * c) % n
mul_left a b c n e = sym (mul-mod_first a c n) ∙ ap (λ x. (x * c) % n) e ∙ mul-mod_first b c n

-- Both the base and the factor of a power may be reduced.
pub reduced : (s k p n : ℕ) → ((s % n) ^ k * (p % n)) % n ≡ (s ^ k * p) % n
reduced s k p n = mul-mod_second ((s % n) ^ k) p n ∙ mul_left ((s % n) ^ k) (s ^ k) p n (pow-mod s k n)

-- The square to the power h is the power 2 h.
pub square_pow : (s h : ℕ) → (s * s) ^ h ≡ s ^ (h + h)
square_pow s h = mul-pow s s h ∙ sym (pow-add s h h)

-- One turn of the loop at an even exponent k: the base is squared.
pub even_turn : (s k p n : ℕ) → k % 2 ≡ 0 → ((s * s % n) ^ (k / 2) * p) % n ≡ (s ^ k * p) % n
even_turn s k p n e =
    let twice : k / 2 + k / 2 ≡ k = omega arith in
    mul_left _ _ p n (pow-mod (s * s) (k / 2) n)
    ∙ ap (λ x. (x * p) % n) (square_pow s (k / 2) ∙ ap (λ x. s ^ x) twice)

-- One turn of the loop at an odd exponent k: a factor goes to p, and the base is squared.
pub odd_turn : (s k p n : ℕ) → k % 2 ≡ 1 → ((s * s % n) ^ (k / 2) * (p * s % n)) % n ≡ (s ^ k * p) % n
odd_turn s k p n e =
    let twice : suc (k / 2 + k / 2) ≡ k = omega arith in
    let power : s ^ (k / 2 + k / 2) * s ≡ s ^ k = sym (pow-suc s (k / 2 + k / 2)) ∙ ap (λ x. s ^ x) twice in
    reduced (s * s) (k / 2) (p * s) n
    ∙ ap (λ x. x % n) (ap (λ x. x * (p * s)) (square_pow s (k / 2))
    ∙ ap (λ x. s ^ (k / 2 + k / 2) * x) (mul_comm p s)
    ∙ sym (mul_assoc (s ^ (k / 2 + k / 2)) s p)
    ∙ ap (λ x. x * p) power)

-- No exponent is left.
pub last : (s p n : ℕ) → p < n → (s ^ 0 * p) % n ≡ p
last s p n h = ap (λ x. (x * p) % n) (pow-zero s) ∙ ap (λ x. x % n) (one-mul p) ∙ mod-eq_of_lt h
