-- The rules of the product's lists, said of their definitions: the numbers of a multiplier, and that the minima of shifts and
-- tables change nothing.
use Rattle.std.specs.Prelude.{◌≡◌, ℕ, ◌+◌, ◌*◌, ◌%◌, ◌^◌, ◌<◌, ◌≤◌, List, length, slice_index}
use Rattle.lists.specs.Meaning.{Meaning, Fair, table, shifts, multiplied}

-- Number i * m + j, with j < m, takes p to the target that j has below at (g ^ i * p) mod n.
abbrev pub Numbering : Type 0
Numbering =
    (g r : ℕ) (M : Meaning) (i j p : ℕ)
    → j < M.count
    → (multiplied g r M).target (i * M.count + j) p ≡ M.target j ((g ^ i * p) % M.places)

-- Number j takes p to (p + s * j) mod n.
abbrev pub PlainShifts : Type 0
PlainShifts =
    (n s c j p : ℕ)
    → n ≤ 255
    → p < n
    → ((shifts n s c).places ≡ n) × ((shifts n s c).target j p ≡ (p + s * j) % n)

-- The count is that of the rows, and the target of (i, p) is byte i * n + p.
abbrev pub PlainTables : Type 0
PlainTables =
    (n : ℕ) (bytes : List ℕ) (i p : ℕ)
    → Fair n (length bytes)
    → slice_index bytes (i * n + p) ≤ 255
    → ((table n bytes).places ≡ n) × ((table n bytes).count * n ≡ length bytes) × ((table n bytes).target i p ≡ slice_index bytes (i * n + p))
