-- Upper triangular 2 x 2 matrices over bits, numbered so that 0 is the zero matrix and 1 the unit matrix.
use Rattle.std.specs.Prelude.{ℕ, ◌+◌, ◌*◌, ◌/◌, ◌%◌}
use Rattle.std.specs.Int.Bits.{bit_xor}
use Rattle.symbols.specs.Ring.{Ring}

pub record Matrix : Type 0 where
  pub left : ℕ
  pub right : ℕ
  pub lower : ℕ

-- the matrix with the rows (x, y) and (0, x + z) has the code x + 2y + 4z
abbrev pub matrix : ℕ → Matrix
matrix c = record { left = c % 2; right = c / 2 % 2; lower = (c + c / 4) % 2 }

abbrev pub numbered : Matrix → ℕ
numbered m = m.left + 2 * m.right + 4 * ((m.left + m.lower) % 2)

abbrev pub product : Matrix → Matrix → Matrix
product a b = record {
  left = (a.left * b.left) % 2;
  right = (a.left * b.right + a.right * b.lower) % 2;
  lower = (a.lower * b.lower) % 2;
}

abbrev pub triangular : Ring
triangular = record { q = 8; add = bit_xor; neg = λ x. x; mul = λ x y. numbered (product (matrix x) (matrix y)) }
