-- Sets of places, as rising lists, and their dictionary order.
use Rattle.std.specs.Prelude.{◌≡◌, ℕ, zero, suc, ◌+◌, ◌^◌, ◌<◌, ◌≤◌, Bool, true, false, cond, ◌⊎◌, List, [], ◌∷◌, ◌++◌, map, length, Some, None, Option, nat_le}
use Rattle.codes.specs.Search.{first_not}

-- rising places from f on, each below n
abbrev pub Rising : ℕ → ℕ → List ℕ → Type 0
Rising n f [] = Unit {0}
Rising n f (p ∷ ps) = (f ≤ p) × (p < n) × Rising n (suc p) ps

-- a set of exactly t of n places
abbrev pub SetOf : ℕ → ℕ → List ℕ → Type 0
SetOf n t ps = (length ps ≡ t) × Rising n 0 ps

-- dictionary order of sets of one size
abbrev pub Before : List ℕ → List ℕ → Type 0
Before [] ys = ⊥
Before (x ∷ xs) [] = ⊥
Before (x ∷ xs) (y ∷ ys) = (x < y) ⊎ ((x ≡ y) × Before xs ys)

-- all sets of t of the d places from f on, in dictionary order
abbrev pub sets : ℕ → ℕ → ℕ → List (List ℕ)
sets zero d f = [] ∷ []
sets (suc t) zero f = []
sets (suc t) (suc d) f = map (λ ps. f ∷ ps) (sets t d (suc f)) ++ sets (suc t) d (suc f)

-- the sum of 2 ^ p over the set
abbrev pub bits : List ℕ → ℕ
bits [] = 0
bits (p ∷ ps) = 2 ^ p + bits ps

-- the test whether the permutation with the targets σ clears the set
abbrev pub clears : ℕ → (ℕ → ℕ) → List ℕ → Bool
clears k σ [] = true
clears k σ (p ∷ ps) = cond (nat_le k (σ p)) (clears k σ ps) false

-- one of the m permutations from number i on clears the set
abbrev pub cleared : ℕ → (ℕ → ℕ → ℕ) → ℕ → ℕ → List ℕ → Bool
cleared k target i zero ps = false
cleared k target i (suc m) ps = cond (clears k (target i) ps) true (cleared k target (suc i) m ps)

-- the first set of t of n places, in dictionary order, that none of the m permutations clears
abbrev pub uncleared : ℕ → ℕ → ℕ → ℕ → (ℕ → ℕ → ℕ) → Option (List ℕ)
uncleared n k t m target = first_not (cleared k target 0 m) (sets t n 0)

-- What the first set that fails a test is, among the sets of t places from f on and below n:
-- every set passes, or this one fails and every set before it passes.
abbrev pub FirstFailing : (List ℕ → Bool) → ℕ → ℕ → ℕ → Option (List ℕ) → Type 0
FirstFailing test n f t None = (ps : List ℕ) → length ps ≡ t → Rising n f ps → test ps ≡ true
FirstFailing test n f t (Some ps) =
    (length ps ≡ t) × Rising n f ps × (test ps ≡ false) × ((qs : List ℕ) → length qs ≡ t → Rising n f qs → Before qs ps → test qs ≡ true)

-- The enumeration has every set, in dictionary order: whatever the test, the first set of it that fails is the first of all sets.
abbrev pub Enumerates : Type 0
Enumerates = (test : List ℕ → Bool) (n t : ℕ) → FirstFailing test n 0 t (first_not test (sets t n 0))
