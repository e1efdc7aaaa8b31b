-- What makes a code and a list of permutations serve for the correction of t errors, and what then follows.
use Rattle.std.specs.Prelude.{◌≡◌, ℕ, ◌*◌, ◌<◌, ◌≤◌, List, length, ◌≢◌}
use Rattle.codes.specs.Code.{Code, Codeword, Symbols, Permutation, distance, moved, Clears, candidate, Succeeds, Near}
use Rattle.codes.specs.Sets.{Rising}

-- The targets of each i below m are meant to be a permutation of the n places, which a trial has found before it asks for this.
pub record Serviceable (C : Code) (t m : ℕ) (target : ℕ → ℕ → ℕ) : Type 0 where
  -- different codewords differ in more than 2t places
  pub apart : (c d : List ℕ) → Codeword C c → Codeword C d → (c ≢ d) → 2 * t < distance C.n c d
  -- each permutation takes codewords to codewords
  pub keeps : (i : ℕ) → i < m → (c : List ℕ) → Codeword C c → Codeword C (moved C.n (target i) c)
  -- each set of at most t places is cleared by some permutation
  pub clears : (places : List ℕ) → length places ≤ t → Rising C.n 0 places → (i : ℕ) × (i < m) × Clears C.k (target i) places

-- Some attempt succeeds exactly when a codeword is within t places; its word is then that codeword, the only one.
abbrev pub Decodes : Code → ℕ → ℕ → (ℕ → ℕ → ℕ) → Type 0
Decodes C t m target =
    (v : List ℕ) → Symbols C.ring.q C.n v
    → (((i : ℕ) × (i < m) × Succeeds C t (target i) v) → (c : List ℕ) × Near C t v c)
    × (((c : List ℕ) × Near C t v c) → (i : ℕ) × (i < m) × Succeeds C t (target i) v)
    × ((i : ℕ) (c : List ℕ) → i < m → Succeeds C t (target i) v → Near C t v c → candidate C (target i) v ≡ c)

-- Every serviceable code decodes, over every ring and every list of permutations.
abbrev pub Decoding : Type 0
Decoding =
    (C : Code) (t m : ℕ) (target : ℕ → ℕ → ℕ) → C.k ≤ C.n → ((i : ℕ) → i < m → Permutation C.n (target i))
    → Serviceable C t m target → Decodes C t m target
