-- Multiples of one code, packed into a number: for the inner functions only.
use Rattle.std.specs.Prelude.{◌≡◌, ℕ, ◌*◌, ◌/◌, ◌%◌, ◌^◌, ◌<◌}
use Rattle.symbols.specs.Polynomials.{two_power}

-- the number that m has in the four bits for the code c
abbrev pub packed : ℕ → ℕ → ℕ
packed m c = (m / 2 ^ (4 * c)) % 16

-- m has the multiple of f at each code
abbrev pub Multiples : ℕ → ℕ → ℕ → Type 0
Multiples w f m = (c : ℕ) → c < 2 ^ w → packed m c ≡ (two_power w).mul f c
