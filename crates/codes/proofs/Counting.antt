-- Weights, distances and searches as counts and positions in lists.
use Rattle.std.proofs.Common.{◌≡◌, ℕ, zero, suc, ◌+◌, ◌<◌, ◌≤◌, Bool, true, false, cond, not, eqb, List, [], length, get_or, take, Some, sym, refl, ap, ◌∙◌, ⊎_elim, inl, inr, ltb, arith, lt-ltb, le-ltb, ◌∷◌}
use Rattle.std.specs.List.{count_by, position, position_or_len, zip}
use Rattle.std.proofs.lemmas.Bool.{cases_Bool, cases_lt, cond-true, cond-false}
use Rattle.std.proofs.lemmas.Bool.Decides.{nat_tests}
use Rattle.std.proofs.lemmas.List.{take_all}
use Rattle.std.proofs.lemmas.List.Sums.{count_by_more_yes, count_by_more_no, prefix_len-le-length}
use Rattle.std.proofs.lemmas.List.Quantifiers.{position-Some}
use Rattle.std.proofs.lemmas.Slice.Zip.{length-zip, get_or-zip}
use Rattle.codes.specs.Code.{distance, weight}
use Rattle.codes.specs.Search.{least}
use Rattle.codes.proofs.Found.{least-some, least-none}
use Rattle.codes.proofs.Places.{distance_same, distance_other}

module _ {X : Type 0} (p : X → Bool) (xs : List X) (d : X) (F : ℕ → ℕ) where
  -- a count that grows by one at each element that passes
  counted : F 0 ≡ 0 → ((n : ℕ) → n < length xs → p (get_or xs n d) ≡ true → F (suc n) ≡ suc (F n))
      → ((n : ℕ) → n < length xs → p (get_or xs n d) ≡ false → F (suc n) ≡ F n)
      → (n : ℕ) → n ≤ length xs → count_by p (take n xs) ≡ F n
  counted none more same zero h = sym none
  counted none more same (suc n) h =
      let before = counted none more same n (omega arith) in
      let next : suc n ≡ n + 1 = omega arith in
      ap (λ (k : ℕ). count_by p (take k xs)) next
      ∙ ⊎_elim
      (λ t. count_by_more_yes p xs n d (omega arith) t ∙ omega (arith, before, more n (omega arith) t))
      (λ f. count_by_more_no p xs n d (omega arith) f ∙ before ∙ sym (same n (omega arith) f))
      (cases_Bool (p (get_or xs n d)))

  pub counted_all : F 0 ≡ 0 → ((n : ℕ) → n < length xs → p (get_or xs n d) ≡ true → F (suc n) ≡ suc (F n))
      → ((n : ℕ) → n < length xs → p (get_or xs n d) ≡ false → F (suc n) ≡ F n) → count_by p xs ≡ F (length xs)
  counted_all none more same =
      ap (count_by p) (sym (take_all (length xs) xs (omega arith))) ∙ counted none more same (length xs) (omega arith)

-- the symbols that are not 0 are as many as the weight
pub weight_count : (w : List ℕ) → count_by (λ x. not (eqb x 0)) w ≡ weight (length w) w
weight_count w =
    counted_all (λ x. not (eqb x 0)) w 0 (λ n. weight n w) refl
    (λ n h t. distance_other n w [] (λ e. let z : get_or w n 0 ≡ 0 = e in grind (arith, nat_tests)))
    (λ n h f. distance_same n w [] (grind (arith, nat_tests)))

-- the pairs of different symbols are as many as the distance
pub distance_count : (v w : List ℕ) → length v ≡ length w → count_by (λ (x : ℕ × ℕ). not (eqb x.0 x.1)) (zip v w) ≡ distance (length v) v w
distance_count v w same =
    let pair : (n : ℕ) → n < length (zip v w) → get_or (zip v w) n (0, 0) ≡ (get_or v n 0, get_or w n 0) = λ n h. get_or-zip v w n (0, 0) (omega (arith, length-zip v w)) (omega (arith, length-zip v w)) in
    counted_all (λ (x : ℕ × ℕ). not (eqb x.0 x.1)) (zip v w) (0, 0) (λ n. distance n v w) refl
    (λ n h t. distance_other n v w (λ e. let z = ap (λ (x : ℕ × ℕ). not (eqb x.0 x.1)) (sym (pair n h)) ∙ t in grind (arith, nat_tests)))
    (λ n h f. distance_same n v w (let z = ap (λ (x : ℕ × ℕ). not (eqb x.0 x.1)) (sym (pair n h)) ∙ f in grind (arith, nat_tests)))
    ∙ ap (λ (n : ℕ). distance n v w) (omega (arith, length-zip v w))

-- where no element passes, the position is past the end
none_passes : (p : ℕ → Bool) (xs : List ℕ) → position_or_len p xs ≡ length xs → (k : ℕ) → k < length xs → p (get_or xs k 0) ≡ false
none_passes p [] e k h = absurd (omega arith)
none_passes p (x ∷ xs) e zero h =
    ⊎_elim
    (λ t. absurd (let z = ap (λ (b : Bool). cond (not b) (1 + position_or_len p xs) 0) (sym t) ∙ e in omega arith))
    (λ f. f)
    (cases_Bool (p x))
none_passes p (x ∷ xs) e (suc k) h =
    none_passes p xs (⊎_elim
    (λ t. absurd (let z = ap (λ (b : Bool). cond (not b) (1 + position_or_len p xs) 0) (sym t) ∙ e in omega arith))
    (λ f. let z = ap (λ (b : Bool). cond (not b) (1 + position_or_len p xs) 0) (sym f) ∙ e in omega arith)
    (cases_Bool (p x))) k (omega arith)

-- the position of the first element that passes is what a search finds
pub position_least : (p : ℕ → Bool) (xs : List ℕ) → position p xs ≡ least (λ i. p (get_or xs i 0)) 0 (length xs)
position_least p xs =
    elim (cases_lt (position_or_len p xs) (length xs)) [
      | inl l ↦
          let e : position p xs ≡ Some (position_or_len p xs) = cond-true (ltb (position_or_len p xs) (length xs)) _ _ (lt-ltb _ _ l) in
          let at = position-Some p xs (position_or_len p xs) 0 e in
          e ∙ sym (least-some (λ i. p (get_or xs i 0)) 0 (length xs) (position_or_len p xs) (omega arith) (omega (arith, l)) at.1 (λ y _ h. at.2 y h))
      | inr l ↦
          cond-false (ltb (position_or_len p xs) (length xs)) _ _ (le-ltb _ _ l)
          ∙ sym (least-none (λ i. p (get_or xs i 0)) 0 (length xs)
          (λ y _ h. none_passes p xs (omega (arith, l, prefix_len-le-length (λ x. not (p x)) xs)) y (omega arith)))
    ]
