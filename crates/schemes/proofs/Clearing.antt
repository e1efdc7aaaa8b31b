-- The search by masks finds the first set that no permutation clears.
use Rattle.std.proofs.Common.{◌≡◌, ℕ, ◌<◌, true, false, List, get_or, Some, None, Option, sym, ap, ◌∙◌, ⊎_elim, arith, MatchOption}
use Rattle.std.specs.Option.{option_map}
use Rattle.std.proofs.lemmas.Bool.{cases_Bool}
use Rattle.codes.specs.Sets.{SetOf, Before, bits, cleared, uncleared}
use Rattle.codes.specs.Steps.{MaskOf, Missed}
use Rattle.codes.proofs.Bit.{clears_of, of_clears}
use Rattle.codes.proofs.Enumerated.{enumerates}
use Rattle.codes.proofs.Found.{only_first}
use Rattle.codes.proofs.Offending.{cleared_by_test, test_by_cleared}

module _ (n k t m : ℕ) (target : ℕ → ℕ → ℕ) (masks : List ℕ) (are : (i : ℕ) → i < m → MaskOf n k (target i) (get_or masks i 0)) where
  to_cleared : (ps : List ℕ) → SetOf n t ps → Missed masks m ps → cleared k target 0 m ps ≡ true
  to_cleared ps s (i, h, z) = test_by_cleared k target 0 m i ps (omega arith) (omega arith) (clears_of n k 0 (get_or masks i 0) (target i) ps (are i h) s.1 z)

  to_missed : (ps : List ℕ) → SetOf n t ps → cleared k target 0 m ps ≡ true → Missed masks m ps
  to_missed ps s e =
      let (i, l, h, c) = cleared_by_test k target 0 m ps e in
      (i, omega arith, of_clears n k 0 (get_or masks i 0) (target i) ps (are i (omega arith)) s.1 c)

  pub found_uncleared : (r : Option ℕ)
      → MatchOption r ((ps : List ℕ) → SetOf n t ps → Missed masks m ps) (λ x. (s : List ℕ) × (x ≡ bits s) × SetOf n t s × (Missed masks m s → ⊥) × ((ps : List ℕ) → SetOf n t ps → Before ps s → Missed masks m ps))
      → r ≡ option_map bits (uncleared n k t m target)
  found_uncleared None all =
      sym (ap (option_map bits) (only_first (cleared k target 0 m) n 0 t _ None (enumerates (cleared k target 0 m) n t) (λ ps long set. to_cleared ps (long, set) (all ps (long, set)))))
  found_uncleared (Some x) (s, e, set, not-missed, before) =
      let no : cleared k target 0 m s ≡ false = ⊎_elim (λ y. absurd (not-missed (to_missed s set y))) (λ f. f) (cases_Bool (cleared k target 0 m s)) in
      ap Some e
      ∙ sym (ap (option_map bits) (only_first (cleared k target 0 m) n 0 t _ (Some s) (enumerates (cleared k target 0 m) n t)
      (set.0, set.1, no, λ ps long rising b. to_cleared ps (long, rising) (before ps (long, rising) b))))
