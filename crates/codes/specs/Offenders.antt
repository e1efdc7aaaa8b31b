-- What a trial looks for: the first offender of each kind, as definitions that compute.
use Rattle.std.specs.Prelude.{ℕ, ◌-◌, ◌^◌, Bool, not, ◌||◌, leb, is_some, Option, nat_eq, nat_le}
use Rattle.codes.specs.Code.{Code, codeword, weight, is_codeword, message, unit, moved}
use Rattle.codes.specs.Search.{least, least_with}

-- the target of position p is n or more, or came earlier
abbrev pub clashes : ℕ → (ℕ → ℕ) → ℕ → Bool
clashes n σ p = nat_le n (σ p) || is_some (least (λ s. nat_eq (σ s) (σ p)) 0 p)

-- the first position that shows that σ is no permutation of n places
abbrev pub bad_place : ℕ → (ℕ → ℕ) → Option ℕ
bad_place n σ = least (clashes n σ) 0 n

-- the first of m list entries that is no permutation, with the first position that shows it
abbrev pub bad_entry : ℕ → ℕ → (ℕ → ℕ → ℕ) → Option (ℕ × ℕ)
bad_entry n m target = least_with (λ i. bad_place n (target i)) 0 m

-- the smallest non-zero message, as a number in base q, whose codeword has at most `limit` non-zero symbols
abbrev pub light : Code → ℕ → Option ℕ
light C limit =
    least (λ x. leb (weight C.n (codeword C (message C.ring.q C.k x))) limit) 1 (C.ring.q ^ C.k - 1)

-- the first unit message whose codeword σ takes to no codeword
abbrev pub unkept_unit : Code → (ℕ → ℕ) → Option ℕ
unkept_unit C σ = least (λ j. not (is_codeword C (moved C.n σ (codeword C (unit C.k j))))) 0 C.k

-- the first of m permutations that takes the codeword of a unit message to no codeword, with the first such unit message
abbrev pub unkept : Code → ℕ → (ℕ → ℕ → ℕ) → Option (ℕ × ℕ)
unkept C m target = least_with (λ i. unkept_unit C (target i)) 0 m
