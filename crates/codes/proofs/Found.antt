-- What a search has found, or not found.
use Rattle.std.proofs.Common.{◌≡◌, ℕ, zero, suc, ◌+◌, ◌<◌, ◌≤◌, Bool, true, false, ◌⊎◌, List, [], ◌∷◌, length, is_some, Some, None, Option, sym, refl, ap, ◌∙◌, subst, inl, inr, ⊎_elim, arith, MatchOption}
use Rattle.std.specs.Option.{option_map, option_or}
use Rattle.std.proofs.lemmas.Bool.{true≢false, cases_eq, cases_lt, cond-true, cond-false, cases_Bool}
use Rattle.codes.specs.Search.{least, least_with, FindsFirst, FindsFirstWith}
use Rattle.codes.specs.Sets.{Before, FirstFailing}

pub none-some : {A : Type 0} (x : A) → None ≡ Some x → ⊥
none-some x e = let z : ◌≡◌ {A = Bool} false true = ap is_some e in true≢false (sym z)

module _ (test : ℕ → Bool) where
  pub least-none : (a d : ℕ) → ((y : ℕ) → a ≤ y → y < a + d → test y ≡ false) → least test a d ≡ None
  least-none a zero none = refl
  least-none a (suc d) none =
      cond-false (test a) _ _ (none a (omega arith) (omega arith)) ∙ least-none (suc a) d (λ y l h. none y (omega arith) (omega arith))

  pub none-least : (a d : ℕ) → least test a d ≡ None → (y : ℕ) → a ≤ y → y < a + d → test y ≡ false
  none-least a zero e y l h = absurd (omega arith)
  none-least a (suc d) e y l h =
      ⊎_elim
      (λ t. absurd (none-some a (sym e ∙ cond-true (test a) _ _ t)))
      (λ f. ⊎_elim
      (λ q. ap test q ∙ f)
      (λ ne. none-least (suc a) d (sym (cond-false (test a) _ _ f) ∙ e) y (omega arith) (omega arith))
      (cases_eq y a))
      (cases_Bool (test a))

  pub least-some : (a d x : ℕ) → a ≤ x → x < a + d → test x ≡ true → ((y : ℕ) → a ≤ y → y < x → test y ≡ false) → least test a d ≡ Some x
  least-some a zero x l h t none = absurd (omega arith)
  least-some a (suc d) x l h t none =
      ⊎_elim
      (λ q. cond-true (test a) _ _ (ap test q ∙ t) ∙ ap Some q)
      (λ ne. cond-false (test a) _ _ (none a (omega arith) (omega arith)) ∙ least-some (suc a) d x (omega arith) (omega arith) t (λ y b c. none y (omega arith) c))
      (cases_eq a x)

module _ (f : ℕ → Option ℕ) where
  pub least_with-none : (a d : ℕ) → ((y : ℕ) → a ≤ y → y < a + d → f y ≡ None) → least_with f a d ≡ None
  least_with-none a zero none = refl
  least_with-none a (suc d) none =
      ap (λ o. option_or (option_map (λ j. (a, j)) o) (least_with f (suc a) d)) (none a (omega arith) (omega arith))
      ∙ least_with-none (suc a) d (λ y l h. none y (omega arith) (omega arith))

  pub none-least_with : (a d : ℕ) → least_with f a d ≡ None → (y : ℕ) → a ≤ y → y < a + d → f y ≡ None
  none-least_with a zero e y l h = absurd (omega arith)
  none-least_with a (suc d) e y l h = at (f a) refl (λ q ne. none-least_with (suc a) d q y (omega arith) (omega arith))
    where
      at : (o : Option ℕ) → f a ≡ o → (least_with f (suc a) d ≡ None → (y ≡ a → ⊥) → f y ≡ None) → f y ≡ None
      at (Some j) q later = absurd (none-some (a, j) (sym e ∙ ap (λ o. option_or (option_map (λ j. (a, j)) o) (least_with f (suc a) d)) q))
      at None q later =
          ⊎_elim
          (λ s. ap f s ∙ q)
          (later (sym (ap (λ o. option_or (option_map (λ j. (a, j)) o) (least_with f (suc a) d)) q) ∙ e))
          (cases_eq y a)

  pub least_with-some : (a d x j : ℕ) → a ≤ x → x < a + d → f x ≡ Some j → ((y : ℕ) → a ≤ y → y < x → f y ≡ None) → least_with f a d ≡ Some (x, j)
  least_with-some a zero x j l h t none = absurd (omega arith)
  least_with-some a (suc d) x j l h t none =
      ⊎_elim
      (λ q. ap (λ o. option_or (option_map (λ j. (a, j)) o) (least_with f (suc a) d)) (ap f q ∙ t) ∙ ap (λ y. Some (y, j)) q)
      (λ ne.
      ap (λ o. option_or (option_map (λ j. (a, j)) o) (least_with f (suc a) d)) (none a (omega arith) (omega arith))
      ∙ least_with-some (suc a) d x j (omega arith) (omega arith) t (λ y b c. none y (omega arith) c))
      (cases_eq a x)

-- two sets of one size are equal, or one comes before the other
order : (xs ys : List ℕ) → length xs ≡ length ys → Before xs ys ⊎ (Before ys xs ⊎ (xs ≡ ys))
order [] [] e = inr (inr refl)
order [] (y ∷ ys) e = absurd (omega arith)
order (x ∷ xs) [] e = absurd (omega arith)
order (x ∷ xs) (y ∷ ys) e =
    ⊎_elim
    (λ q. ⊎_elim
    (λ b. inl (inr (q, b)))
    (⊎_elim (λ b. inr (inl (inr (sym q, b)))) (λ s. inr (inr (cc))))
    (order xs ys (omega arith)))
    (λ ne. ⊎_elim (λ l. inl (inl l)) (λ l. inr (inl (inl (omega arith)))) (cases_lt x y))
    (cases_eq x y)

-- a set that fails first is the only one
pub only_first : (test : List ℕ → Bool) (n f t : ℕ) (r s : Option (List ℕ)) → FirstFailing test n f t r → FirstFailing test n f t s → r ≡ s
only_first test n f t None None a b = refl
only_first test n f t None (Some ys) a b = absurd (true≢false (sym (a ys b.0 b.1) ∙ b.2))
only_first test n f t (Some xs) None a b = absurd (true≢false (sym (b xs a.0 a.1) ∙ a.2))
only_first test n f t (Some xs) (Some ys) a b =
    ⊎_elim
    (λ l. absurd (true≢false (sym (b.3 xs a.0 a.1 l) ∙ a.2)))
    (⊎_elim (λ l. absurd (true≢false (sym (a.3 ys b.0 b.1 l) ∙ b.2))) (ap Some))
    (order xs ys (a.0 ∙ sym b.0))

cases_same : {A : Type 0} (o r : Option A) (P : Type 0) (Q : A → Type 0) → o ≡ r → MatchOption r P Q → MatchOption o P Q
cases_same o r P Q e h = subst (λ x. MatchOption x P Q) (sym e) h

pub finds_first : FindsFirst
finds_first test a zero = λ y l h. absurd (omega arith)
finds_first test a (suc d) =
    ⊎_elim
    (λ t. cases_same _ (Some a) _ _ (cond-true (test a) (Some a) (least test (suc a) d) t) (omega arith, omega arith, t, λ y l h. absurd (omega arith)))
    (λ f. cases_same _ (least test (suc a) d) _ _ (cond-false (test a) (Some a) (least test (suc a) d) f) (wider (least test (suc a) d) f (finds_first test (suc a) d)))
    (cases_Bool (test a))
  where
    wider : (o : Option ℕ) → test a ≡ false
        → MatchOption o ((y : ℕ) → suc a ≤ y → y < suc a + d → test y ≡ false) (λ x. (suc a ≤ x) × (x < suc a + d) × (test x ≡ true) × ((y : ℕ) → suc a ≤ y → y < x → test y ≡ false))
        → MatchOption o ((y : ℕ) → a ≤ y → y < a + suc d → test y ≡ false) (λ x. (a ≤ x) × (x < a + suc d) × (test x ≡ true) × ((y : ℕ) → a ≤ y → y < x → test y ≡ false))
    wider None f h = λ y l m. ⊎_elim (λ e. ap test e ∙ f) (λ ne. h y (omega arith) (omega arith)) (cases_eq y a)
    wider (Some x) f h = (omega arith, omega arith, h.2, λ y l m. ⊎_elim (λ e. ap test e ∙ f) (λ ne. h.3 y (omega arith) m) (cases_eq y a))

pub finds_first_with : FindsFirstWith
finds_first_with f a zero = λ y l h. absurd (omega arith)
finds_first_with f a (suc d) = at (f a) refl (finds_first_with f (suc a) d)
  where
    wider : (o : Option (ℕ × ℕ)) → f a ≡ None
        → MatchOption o ((y : ℕ) → suc a ≤ y → y < suc a + d → f y ≡ None) (λ x. (suc a ≤ x.0) × (x.0 < suc a + d) × (f x.0 ≡ Some x.1) × ((y : ℕ) → suc a ≤ y → y < x.0 → f y ≡ None))
        → MatchOption o ((y : ℕ) → a ≤ y → y < a + suc d → f y ≡ None) (λ x. (a ≤ x.0) × (x.0 < a + suc d) × (f x.0 ≡ Some x.1) × ((y : ℕ) → a ≤ y → y < x.0 → f y ≡ None))
    wider None e h = λ y l m. ⊎_elim (λ q. ap f q ∙ e) (λ ne. h y (omega arith) (omega arith)) (cases_eq y a)
    wider (Some x) e h = (omega arith, omega arith, h.2, λ y l m. ⊎_elim (λ q. ap f q ∙ e) (λ ne. h.3 y (omega arith) m) (cases_eq y a))

    at : (o : Option ℕ) → f a ≡ o
        → MatchOption (least_with f (suc a) d) ((y : ℕ) → suc a ≤ y → y < suc a + d → f y ≡ None) (λ x. (suc a ≤ x.0) × (x.0 < suc a + d) × (f x.0 ≡ Some x.1) × ((y : ℕ) → suc a ≤ y → y < x.0 → f y ≡ None))
        → MatchOption (least_with f a (suc d)) ((y : ℕ) → a ≤ y → y < a + suc d → f y ≡ None) (λ x. (a ≤ x.0) × (x.0 < a + suc d) × (f x.0 ≡ Some x.1) × ((y : ℕ) → a ≤ y → y < x.0 → f y ≡ None))
    at (Some j) e later = cases_same _ (Some (a, j)) _ _ (ap (λ o. option_or (option_map (λ j. (a, j)) o) (least_with f (suc a) d)) e) (omega arith, omega arith, e, λ y l m. absurd (omega arith))
    at None e later = cases_same _ (least_with f (suc a) d) _ _ (ap (λ o. option_or (option_map (λ j. (a, j)) o) (least_with f (suc a) d)) e) (wider (least_with f (suc a) d) e later)
