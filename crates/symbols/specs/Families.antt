-- Both families keep the ring rules, each by one test that is computed over all its kinds and all their codes.
use Rattle.std.specs.Prelude.{◌≡◌, ℕ, ◌+◌, ◌-◌, ◌*◌, ◌/◌, ◌%◌, ◌^◌, ◌<◌, ◌≤◌, T, ◌==◌, bit_and, bit_xor, nat_eq, nat_le}
use Rattle.std.proofs.Common.{subst, arith, eqb→eq, leb→le}
use Rattle.std.proofs.lemmas.Nat.{mul-le, and_le_r}
use Rattle.symbols.specs.Ring.{RingRules, residues}
use Rattle.symbols.specs.Polynomials.{two_power}
use Rattle.symbols.specs.Tests.{at, all₂, at₂}
use Rattle.symbols.specs.Rules.{test, rules_by_test}

pub residue_rules : (b : ℕ) → 2 ≤ b → b ≤ 16 → RingRules (residues b)
residue_rules b l h =
    subst (λ (n : ℕ). RingRules (residues n)) (omega arith)
    (rules_by_test (residues (b - 2 + 2)) (at 15 (λ i. test (residues (i + 2))) tt (b - 2) (omega arith)))

pub two_power_rules : (w : ℕ) → 2 ≤ w → w ≤ 4 → RingRules (two_power w)
two_power_rules w l h =
    subst (λ (n : ℕ). RingRules (two_power n)) (omega arith)
    (rules_by_test (two_power (w - 2 + 2)) (at 3 (λ i. test (two_power (i + 2))) tt (w - 2) (omega arith)))

pub high : (w : ℕ) → w ≤ 4 → 2 ^ w ≤ 16
high w h = leb→le _ _ (at 5 (λ i. nat_le (2 ^ i) 16) tt w (omega arith))

-- a part of the product fits a byte
pub part_fits : (w x y m : ℕ) → w ≤ 4 → x < 2 ^ w → m ≤ 8 → x * bit_and y m < 2 ^ 8
part_fits w x y m h b s = omega (arith, high w h, mul-le x (bit_and y m) 15 8 (omega (arith, high w h)) (omega (arith, and_le_r y m)))

-- the product as the code forms it: the whole product, and what its high part leaves
abbrev pub whole : ℕ → ℕ → ℕ
whole x y = bit_xor (bit_xor (bit_xor (x * bit_and y 1) (x * bit_and y 2)) (x * bit_and y 4)) (x * bit_and y 8)

abbrev pub folded : ℕ → ℕ → ℕ
folded w p = bit_xor (bit_xor (p % ((1 * 2 ^ w) % 2 ^ 8)) (p / 2 ^ w)) ((p / 2 ^ w * 2 ^ 1) % 2 ^ 8)

-- that is the product of the definition
pub product_is : (w x y : ℕ) → 2 ≤ w → w ≤ 4 → x < 2 ^ w → y < 2 ^ w → folded w (whole x y) ≡ (two_power w).mul x y
product_is w x y l h hx hy =
    eqb→eq _ _
    (subst (λ (n : ℕ). (x y : ℕ) → x < 2 ^ n → y < 2 ^ n → T (folded n (whole x y) == (two_power n).mul x y)) (omega arith)
    (at₂ (2 ^ (w - 2 + 2)) (λ x y. nat_eq (folded (w - 2 + 2) (whole x y)) ((two_power (w - 2 + 2)).mul x y))
    (at 3 (λ i. all₂ (2 ^ (i + 2)) (λ x y. nat_eq (folded (i + 2) (whole x y)) ((two_power (i + 2)).mul x y))) tt (w - 2) (omega arith))) x y hx hy)
