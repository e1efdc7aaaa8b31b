-- Rings of symbols: the codes 0 to q - 1 with sum, negative and product.
use Rattle.std.specs.Prelude.{◌≡◌, ℕ, zero, suc, ◌+◌, ◌-◌, ◌*◌, ◌%◌, ◌<◌, ◌≤◌, cond, List, map, length, nat_lt, slice_index}
use Rattle.std.specs.List.{range_with_len}

pub record Ring : Type 0 where
  pub q : ℕ
  pub add : ℕ → ℕ → ℕ
  pub neg : ℕ → ℕ
  pub mul : ℕ → ℕ → ℕ

-- The ring rules, for codes below q. Products need not commute, and codes need not have an inverse for products.
pub record RingRules (R : Ring) : Type 0 where
  pub low : 2 ≤ R.q
  pub high : R.q ≤ 16
  -- every result is below q
  pub add_below : (a b : ℕ) → a < R.q → b < R.q → R.add a b < R.q
  pub neg_below : (a : ℕ) → a < R.q → R.neg a < R.q
  pub mul_below : (a b : ℕ) → a < R.q → b < R.q → R.mul a b < R.q
  -- sums
  pub add_assoc : (a b c : ℕ) → a < R.q → b < R.q → c < R.q → R.add (R.add a b) c ≡ R.add a (R.add b c)
  pub add_comm : (a b : ℕ) → a < R.q → b < R.q → R.add a b ≡ R.add b a
  pub zero-add : (a : ℕ) → a < R.q → R.add 0 a ≡ a
  pub add-neg : (a : ℕ) → a < R.q → R.add a (R.neg a) ≡ 0
  -- products
  pub mul_assoc : (a b c : ℕ) → a < R.q → b < R.q → c < R.q → R.mul (R.mul a b) c ≡ R.mul a (R.mul b c)
  pub one-mul : (a : ℕ) → a < R.q → R.mul 1 a ≡ a
  pub mul-one : (a : ℕ) → a < R.q → R.mul a 1 ≡ a
  pub mul-add : (a b c : ℕ) → a < R.q → b < R.q → c < R.q → R.mul a (R.add b c) ≡ R.add (R.mul a b) (R.mul a c)
  pub add-mul : (a b c : ℕ) → a < R.q → b < R.q → c < R.q → R.mul (R.add a b) c ≡ R.add (R.mul a c) (R.mul b c)

-- The operations on any numbers: an operand of q or more is first replaced by its remainder.
abbrev pub plus : Ring → ℕ → ℕ → ℕ
plus R a b = R.add (a % R.q) (b % R.q)

abbrev pub minus : Ring → ℕ → ℕ
minus R a = R.neg (a % R.q)

abbrev pub times : Ring → ℕ → ℕ → ℕ
times R a b = R.mul (a % R.q) (b % R.q)

-- the sum of f 0, .., f (n - 1)
abbrev pub total : Ring → ℕ → (ℕ → ℕ) → ℕ
total R zero f = 0
total R (suc n) f = plus R (total R n f) (f n)

-- the sums with f times the row's code added at each place that the row has
abbrev pub added : Ring → ℕ → List ℕ → List ℕ → List ℕ
added R f row sums =
    map (λ j. cond (nat_lt j (length row)) (plus R (slice_index sums j) (times R f (slice_index row j))) (slice_index sums j)) (range_with_len 0 (length sums))

-- counting modulo b
abbrev pub residues : ℕ → Ring
residues b = record { q = b; add = λ x y. (x + y) % b; neg = λ x. (b - x) % b; mul = λ x y. (x * y) % b }
