-- What a permutation list means, and what tables, shifts and multipliers mean.
use Rattle.std.specs.Prelude.{◌≡◌, ℕ, ◌+◌, ◌*◌, ◌/◌, ◌%◌, ◌^◌, ◌<◌, ◌≤◌, min, cond, List, length, Some, None, Option, nat_lt, slice_index}

-- A list has a length, a count of permutations, and for each number i a target of each position p.
-- What stands in `target` at a number or a position that the list does not have says nothing: see `reply`.
pub record Meaning : Type 0 where
  pub places : ℕ
  pub count : ℕ
  pub target : ℕ → ℕ → ℕ

-- The laws of every list.
pub record Bounds (M : Meaning) : Type 0 where
  pub short : M.places ≤ 255
  pub few : M.count ≤ 512
  pub targets : (i p : ℕ) → i < M.count → p < M.places → M.target i p ≤ 255

-- The reply to a question for a target: it is absent exactly past the count or past the length.
abbrev pub reply : Meaning → ℕ → ℕ → Option ℕ
reply M i p = cond (nat_lt i M.count) (cond (nat_lt p M.places) (Some (M.target i p)) None) None

-- The minima with 255 below only state the bounds of a list, which are owed for every number that a definition takes. They
-- change nothing for the lengths and targets that there are, since those are bytes.

-- Rows of n bytes: row i has the targets of number i. For a fair shape no row is left out at 512.
abbrev pub table : ℕ → List ℕ → Meaning
table n bytes =
    record {
      places = min n 255;
      count = min (length bytes / n) 512;
      target = λ i p. min (slice_index bytes (i * n + p)) 255;
    }

-- The shapes that a table may have: whole rows of 1 to 64 bytes, at most 512 of them.
abbrev pub Fair : ℕ → ℕ → Type 0
Fair n size = (1 ≤ n) × (n ≤ 64) × (size % n ≡ 0) × (size / n ≤ 512)

-- Number j goes s * j places on, round the end.
abbrev pub shifts : ℕ → ℕ → ℕ → Meaning
shifts n s c =
    record {
      places = min n 255;
      count = min c 512;
      target = λ j p. min ((p + s * j) % n) 255;
    }

-- Number i * m + j, with m the count of the list below and j < m, takes p to the target that j has at (g ^ i * p) mod n.
abbrev pub multiplied : ℕ → ℕ → Meaning → Meaning
multiplied g r M =
    record {
      places = M.places;
      count = min (r * M.count) 512;
      target = λ x p. M.target (x % M.count) ((g ^ (x / M.count) * p) % M.places);
    }
