-- Searches for the first of something, as definitions that compute.
use Rattle.std.specs.Prelude.{◌≡◌, ℕ, zero, suc, ◌+◌, ◌<◌, ◌≤◌, Bool, true, false, cond, List, [], ◌∷◌, Some, None, Option, MatchOption}
use Rattle.std.specs.Option.{option_map, option_or}

-- of the d numbers from a on, the first that passes the test
abbrev pub least : (ℕ → Bool) → ℕ → ℕ → Option ℕ
least test a zero = None
least test a (suc d) = cond (test a) (Some a) (least test (suc a) d)

-- of the d numbers from a on, the first i for which f has an answer, with that answer
abbrev pub least_with : (ℕ → Option ℕ) → ℕ → ℕ → Option (ℕ × ℕ)
least_with f a zero = None
least_with f a (suc d) = option_or (option_map (λ j. (a, j)) (f a)) (least_with f (suc a) d)

-- the first list that fails the test
abbrev pub first_not : (List ℕ → Bool) → List (List ℕ) → Option (List ℕ)
first_not test [] = None
first_not test (xs ∷ rest) = cond (test xs) (first_not test rest) (Some xs)

-- What a search finds: a number that passes the test, no earlier one does; or none passes.
abbrev pub FindsFirst : Type 0
FindsFirst =
    (test : ℕ → Bool) (a d : ℕ)
    → MatchOption (least test a d)
    ((y : ℕ) → a ≤ y → y < a + d → test y ≡ false)
    (λ x. (a ≤ x) × (x < a + d) × (test x ≡ true) × ((y : ℕ) → a ≤ y → y < x → test y ≡ false))

-- The same of a search with answers.
abbrev pub FindsFirstWith : Type 0
FindsFirstWith =
    (f : ℕ → Option ℕ) (a d : ℕ)
    → MatchOption (least_with f a d)
    ((y : ℕ) → a ≤ y → y < a + d → f y ≡ None)
    (λ x. (a ≤ x.0) × (x.0 < a + d) × (f x.0 ≡ Some x.1) × ((y : ℕ) → a ≤ y → y < x.0 → f y ≡ None))
