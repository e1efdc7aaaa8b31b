-- What the inner functions know of words that were taken by a permutation and brought back.
use Rattle.std.specs.Prelude.{◌≡◌, ℕ, ◌<◌, List, Some, take}
use Rattle.lists.specs.Told.{told}
use Rattle.lists.specs.declared.Targets.{Targets}
use Rattle.codes.specs.Code.{Code, Permutation, moved, candidate, distance}
use Rattle.schemes.specs.declared.scheme.attempting.Success.{Success}

-- a word that was taken by a permutation, with the permutation's targets
pub record Taken : Type 0 where
  pub targets : Targets
  pub word : List ℕ

abbrev pub taken : Targets → List ℕ → Taken
taken targets word = record { targets = targets; word = word }

-- σ is a permutation of n places; x has its targets, and the word that it takes v to.
pub record Takes (n : ℕ) (σ : ℕ → ℕ) (v : List ℕ) (x : Taken) : Type 0 where
  pub permutes : Permutation n σ
  pub goes : (p : ℕ) → p < n → told x.targets p ≡ Some (σ p)
  pub moves : take n x.word ≡ moved n σ v

-- x has the word of its attempt on v, and the distance between them.
pub record Candidate (C : Code) (target : ℕ → ℕ → ℕ) (v : List ℕ) (x : Success) : Type 0 where
  pub word : take C.n x.word ≡ candidate C (target x.number) v
  pub far : x.distance ≡ distance C.n v (candidate C (target x.number) v)
