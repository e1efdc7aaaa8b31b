-- Polynomials over bits, held as numbers: bit i is the coefficient of the i-th power of x.
use Rattle.std.specs.Prelude.{ℕ, zero, suc, ◌+◌, ◌-◌, ◌*◌, ◌/◌, ◌%◌, ◌^◌, bit_xor}
use Rattle.symbols.specs.Ring.{Ring}

-- the coefficient of the i-th power
abbrev pub coefficient : ℕ → ℕ → ℕ
coefficient a i = (a / 2 ^ i) % 2

-- the product of a and of the terms of b below the n-th power: the sum of a shifted by i, for each power i of b
abbrev pub multiplied : ℕ → ℕ → ℕ → ℕ
multiplied zero a b = 0
multiplied (suc i) a b = bit_xor (multiplied i a b) (coefficient b i * (a * 2 ^ i))

-- c with its powers w + j - 1 down to w taken away, each by a multiple of m, a polynomial of degree w
abbrev pub reduced : ℕ → ℕ → ℕ → ℕ → ℕ
reduced m w zero c = c
reduced m w (suc j) c = reduced m w j (bit_xor c (coefficient c (w + j) * (m * 2 ^ j)))

-- x² + x + 1, x³ + x + 1 and x⁴ + x + 1, for w = 2, 3 and 4
abbrev pub modulus : ℕ → ℕ
modulus w = 2 ^ w + 3

-- Sums are taken bit by bit, a polynomial is its own negative, and a product of degree at most 2w - 2 is reduced by the modulus.
abbrev pub two_power : ℕ → Ring
two_power w = record { q = 2 ^ w; add = bit_xor; neg = λ x. x; mul = λ x y. reduced (modulus w) w (w - 1) (multiplied w x y) }
