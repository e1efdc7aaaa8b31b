-- The rules of the matrices, and their product bit by bit, by tests over all operands.
use Rattle.std.specs.Prelude.{◌≡◌, ℕ, ◌*◌, ◌/◌, ◌%◌, ◌^◌, ◌<◌, bit_and, bit_or, bit_xor, nat_eq}
use Rattle.std.proofs.Common.{eqb→eq}
use Rattle.symbols.specs.Ring.{RingRules}
use Rattle.symbols.specs.Tests.{at₂}
use Rattle.symbols.specs.Rules.{rules_by_test}
use Rattle.foreign_kinds.specs.Triangular.{triangular}

pub triangular_rules : RingRules triangular
triangular_rules = rules_by_test triangular tt

-- the product bit by bit, as the code forms it
abbrev pub right : ℕ → ℕ → ℕ
right a b = bit_xor (bit_and (a % 2) (b / 2 % 2)) (bit_and (a / 2 % 2) (bit_xor (b % 2) (b / 4 % 2)))

abbrev pub lower : ℕ → ℕ → ℕ
lower a b = bit_xor (bit_and (a % 2) (b / 4 % 2)) (bit_and (a / 4 % 2) (bit_xor (b % 2) (b / 4 % 2)))

abbrev pub bits : ℕ → ℕ → ℕ
bits a b = bit_or (bit_or (bit_and (a % 2) (b % 2)) ((right a b * 2 ^ 1) % 2 ^ 8)) ((lower a b * 2 ^ 2) % 2 ^ 8)

pub product_is : (a b : ℕ) → a < 256 → b < 256 → bits a b ≡ triangular.mul (a % 8) (b % 8)
product_is a b ha hb = eqb→eq _ _ (at₂ 256 (λ x y. nat_eq (bits x y) (triangular.mul (x % 8) (y % 8))) tt a b ha hb)
