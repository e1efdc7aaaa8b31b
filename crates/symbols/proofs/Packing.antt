-- Packed multiples of polynomials: that they are right, by one computed test, and the sum that the code forms with them.
use Rattle.std.proofs.Common.{◌≡◌, ℕ, ◌+◌, ◌-◌, ◌*◌, ◌/◌, ◌%◌, ◌^◌, ◌<◌, ◌≤◌, Bool, T, eqb, List, [], get_or, sym, ap, ◌∙◌, subst, mod-lt, mod-eq_of_lt, arith, eqb→eq}
use lib.Bits.{bit_xor, bit_and}
use Rattle.std.proofs.lemmas.Nat.{pow_pos}
use Rattle.symbols.specs.Ring.{plus, times}
use Rattle.symbols.specs.Polynomials.{two_power}
use Rattle.symbols.specs.Packed.{packed, Multiples}
use Rattle.symbols.specs.Tests.{all, all₂, at, at₂}
use Rattle.symbols.specs.Families.{high, two_power_rules}

-- the packed multiples of f as the code forms them, t being the table of those of the powers
abbrev power : List (List ℕ) → ℕ → ℕ → ℕ
power t w i = get_or (get_or t (w - 2) []) i 0

abbrev formed : List (List ℕ) → ℕ → ℕ → ℕ
formed t w f =
    bit_xor
    (bit_xor (bit_xor (bit_and f 1 * power t w 0) (bit_and (f / 2) 1 * power t w 1)) (bit_and (f / 4) 1 * power t w 2))
    (f / 8 * power t w 3)

-- the test that they are the multiples
abbrev right : List (List ℕ) → ℕ → ℕ → ℕ → Bool
right t w f c = eqb (packed (formed t w f) c) ((two_power w).mul f c)

abbrev all_right : List (List ℕ) → Bool
all_right t = all 3 (λ i. all₂ (2 ^ (i + 2)) (right t (i + 2)))

pub multiples_are : (t : List (List ℕ)) → T (all_right t) → (w f : ℕ) → 2 ≤ w → w ≤ 4 → f < 2 ^ w → Multiples w f (formed t w f)
multiples_are t p w f l h b c b' =
    eqb→eq _ _
    (subst (λ (n : ℕ). (f c : ℕ) → f < 2 ^ n → c < 2 ^ n → T (right t n f c)) (omega arith)
    (at₂ (2 ^ (w - 2 + 2)) (right t (w - 2 + 2)) (at 3 (λ i. all₂ (2 ^ (i + 2)) (right t (i + 2))) p (w - 2) (omega arith))) f c b b')

-- a reduced code is below 16
pub code_small : (w r : ℕ) → w ≤ 4 → r % 2 ^ w < 16
code_small w r h = omega (arith, high w h, mod-lt r (pow_pos w))

-- the sum with a multiple that is read from the packed ones, m having those of f
pub sum_is : (w f s r m : ℕ) → 2 ≤ w → w ≤ 4 → Multiples w (f % 2 ^ w) m
    → bit_xor (s % 2 ^ w) (packed m (r % 2 ^ w)) ≡ plus (two_power w) s (times (two_power w) f r)
sum_is w f s r m l h g =
    let below : (n : ℕ) → n % 2 ^ w < 2 ^ w = λ n. mod-lt n (pow_pos w) in
    ap (bit_xor (s % 2 ^ w)) (g (r % 2 ^ w) (below r)
    ∙ sym (mod-eq_of_lt ((two_power_rules w l h).mul_below (f % 2 ^ w) (r % 2 ^ w) (below f) (below r))))
