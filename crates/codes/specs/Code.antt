-- Systematic block codes over a ring of symbols, permutations of places, and attempts of permutation decoding.
-- A word is a list of symbols. `slice_index w p` is the symbol of w at place p, places being numbered from 0.
use Rattle.std.specs.Prelude.{◌≡◌, ℕ, zero, suc, ◌+◌, ◌-◌, ◌*◌, ◌/◌, ◌%◌, ◌^◌, ◌<◌, ◌≤◌, Bool, cond, List, [], ◌∷◌, ◌++◌, map, length, take, ◌==◌, slice_index}
use Rattle.std.specs.List.{range_with_len, AllByRecursion}
use Rattle.symbols.specs.Ring.{Ring, times, total}

-- A code has n places, of which the first k are information places and the others check places.
-- The k check rows, of n - k codes each, stand one after another.
pub record Code : Type 0 where
  pub ring : Ring
  pub n : ℕ
  pub k : ℕ
  pub rows : List ℕ

abbrev pub code : Ring → ℕ → ℕ → List ℕ → Code
code R n k rows = record { ring = R; n = n; k = k; rows = rows }

-- check symbol j of the message u: the sum over i of u_i times code j of row i
abbrev pub term : Code → List ℕ → ℕ → ℕ → ℕ
term C u j i = times C.ring (slice_index u i) (slice_index C.rows (i * (C.n - C.k) + j))

abbrev pub check : Code → List ℕ → ℕ → ℕ
check C u j = total C.ring C.k (term C u j)

-- the codeword of the message u: u followed by its check symbols
abbrev pub codeword : Code → List ℕ → List ℕ
codeword C u = u ++ map (check C u) (range_with_len 0 (C.n - C.k))

-- a word of n symbols below q
abbrev pub Symbols : ℕ → ℕ → List ℕ → Type 0
Symbols q n w = (length w ≡ n) × ((p : ℕ) → p < n → slice_index w p < q)

-- w is the codeword of some message
abbrev pub Codeword : Code → List ℕ → Type 0
Codeword C w = (u : List ℕ) × Symbols C.ring.q C.k u × (w ≡ codeword C u)

-- the number of places below n where two words differ (a place past a word's end reads as 0)
abbrev pub distance : ℕ → List ℕ → List ℕ → ℕ
distance zero v w = 0
distance (suc p) v w = cond (slice_index v p == slice_index w p) (distance p v w) (suc (distance p v w))

-- how many of the first n symbols are not 0 (the empty list reads as 0 everywhere)
abbrev pub weight : ℕ → List ℕ → ℕ
weight n w = distance n w []

-- w is the codeword of its own first k symbols; for a word of n symbols below q that says that it is a codeword
abbrev pub is_codeword : Code → List ℕ → Bool
is_codeword C w = distance C.n w (codeword C (take C.k w)) == 0

-- the message of k symbols that reads as the number x below q ^ k in base q, its first symbol leading
abbrev pub message : ℕ → ℕ → ℕ → List ℕ
message q zero x = []
message q (suc k) x = (x / q ^ k) % q ∷ message q k x

-- the unit message j: a 1 at information place j, and 0 elsewhere
abbrev pub unit : ℕ → ℕ → List ℕ
unit k j = map (λ p. cond (p == j) 1 0) (range_with_len 0 k)

-- n different targets below n
abbrev pub Permutation : ℕ → (ℕ → ℕ) → Type 0
Permutation n σ = ((p : ℕ) → p < n → σ p < n) × ((p r : ℕ) → p < n → r < n → σ p ≡ σ r → p ≡ r)

-- the last place below n that σ takes to s, or 0 where there is none
abbrev pub source : ℕ → (ℕ → ℕ) → ℕ → ℕ
source zero σ s = 0
source (suc p) σ s = cond (σ p == s) p (source p σ s)

-- the word that a permutation σ takes v to: its symbol at σ p is v's symbol at p
abbrev pub moved : ℕ → (ℕ → ℕ) → List ℕ → List ℕ
moved n σ v = map (λ s. slice_index v (source n σ s)) (range_with_len 0 n)

-- the word brought back by the inverse of σ: its symbol at p is w's symbol at σ p
abbrev pub returned : ℕ → (ℕ → ℕ) → List ℕ → List ℕ
returned n σ w = map (λ p. slice_index w (σ p)) (range_with_len 0 n)

-- σ takes each of the places to a check place
abbrev pub Clears : ℕ → (ℕ → ℕ) → List ℕ → Type 0
Clears k σ places = AllByRecursion (λ p. k ≤ σ p) places

-- the word of the attempt by σ on the block v: v taken by σ, the codeword of its first k symbols, brought back
abbrev pub candidate : Code → (ℕ → ℕ) → List ℕ → List ℕ
candidate C σ v = returned C.n σ (codeword C (take C.k (moved C.n σ v)))

-- the attempt succeeds: σ has n different targets below n, and its word is a codeword at most t places from v
abbrev pub Succeeds : Code → ℕ → (ℕ → ℕ) → List ℕ → Type 0
Succeeds C t σ v = Permutation C.n σ × Codeword C (candidate C σ v) × (distance C.n v (candidate C σ v) ≤ t)

-- attempt i is the first that succeeds
abbrev pub First : Code → ℕ → (ℕ → ℕ → ℕ) → List ℕ → ℕ → Type 0
First C t target v i = Succeeds C t (target i) v × ((j : ℕ) → j < i → Succeeds C t (target j) v → ⊥)

-- c is a codeword within t places of v
abbrev pub Near : Code → ℕ → List ℕ → List ℕ → Type 0
Near C t v c = Codeword C c × (distance C.n v c ≤ t)
