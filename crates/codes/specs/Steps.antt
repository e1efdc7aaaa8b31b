-- How a search steps from a set of places to the next, and masks that stand for permutations.
use Rattle.std.specs.Prelude.{◌≡◌, ℕ, zero, suc, ◌+◌, ◌/◌, ◌%◌, ◌^◌, ◌<◌, ◌≤◌, cond, ◌⊎◌, List, [], ◌∷◌, length, bit_and, nat_lt, slice_index}
use Rattle.codes.specs.Sets.{SetOf, Before, bits}

-- k places one after the other
abbrev pub run : ℕ → ℕ → List ℕ
run x zero = []
run x (suc k) = x ∷ run (suc x) k

-- each place stands as high as it can
abbrev pub Last : ℕ → List ℕ → Type 0
Last n [] = Unit {0}
Last n (x ∷ xs) = (n ≤ x + 1 + length xs) × Last n xs

-- the last place that can rise does, and the run after it starts anew
abbrev pub Next : ℕ → List ℕ → List ℕ → Type 0
Next n [] ys = ⊥
Next n (x ∷ xs) [] = ⊥
Next n (x ∷ xs) (y ∷ ys) =
    ((x ≡ y) × Next n xs ys) ⊎ ((y ≡ x + 1) × (x + 1 + length xs < n) × Last n xs × (ys ≡ run (x + 2) (length xs)))

-- bit p of the mask is set when p is taken to an information place
abbrev pub MaskOf : ℕ → ℕ → (ℕ → ℕ) → ℕ → Type 0
MaskOf n k σ mask = (p : ℕ) → p < n → (mask / 2 ^ p) % 2 ≡ cond (nat_lt (σ p) k) 1 0

-- one of the first m masks has no place of the set
abbrev pub Missed : List ℕ → ℕ → List ℕ → Type 0
Missed masks m ps = (i : ℕ) × (i < m) × (bit_and (slice_index masks i) (bits ps) ≡ 0)

-- The set ys is xs or comes later, and if some mask misses xs and each set before it, then so it is with ys.
pub record Skipped (masks : List ℕ) (m n t : ℕ) (xs ys : List ℕ) : Type 0 where
  pub set : SetOf n t ys
  pub later : (xs ≡ ys) ⊎ Before xs ys
  pub seen : Missed masks m xs → ((zs : List ℕ) → SetOf n t zs → Before zs xs → Missed masks m zs) → Missed masks m ys × ((zs : List ℕ) → SetOf n t zs → Before zs ys → Missed masks m zs)
