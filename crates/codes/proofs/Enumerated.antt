-- The computed list of sets has every set, in dictionary order.
use Rattle.std.proofs.Common.{◌≡◌, ℕ, zero, suc, ◌+◌, ◌<◌, ◌≤◌, Bool, true, false, cond, ◌⊎◌, List, [], ◌∷◌, ◌++◌, map, length, Some, None, Option, sym, refl, ap, subst, inl, inr, arith}
use Rattle.std.specs.Option.{option_map}
use Rattle.codes.specs.Search.{first_not}
use Rattle.codes.specs.Sets.{Rising, Before, sets, FirstFailing, Enumerates}

abbrev or_else : Option (List ℕ) → Option (List ℕ) → Option (List ℕ)
or_else None r = r
or_else (Some x) r = Some x

-- one element more of the first part, by the test of it
more : (b : Bool) (x : List ℕ) (f : ℕ) (r s whole : Option (List ℕ)) → whole ≡ or_else (option_map (λ xs. f ∷ xs) r) s → cond b whole (Some (f ∷ x)) ≡ or_else (option_map (λ xs. f ∷ xs) (cond b r (Some x))) s
more true x f r s whole e = e
more false x f r s whole e = refl

-- the first failure of two parts, the first being the sets that begin with f
parts : (p : List ℕ → Bool) (f : ℕ) (us vs : List (List ℕ)) → first_not p (map (λ xs. f ∷ xs) us ++ vs) ≡ or_else (option_map (λ xs. f ∷ xs) (first_not (λ xs. p (f ∷ xs)) us)) (first_not p vs)
parts p f [] vs = refl
parts p f (u ∷ us) vs = more (p (f ∷ u)) u f _ _ _ (parts p f us vs)

wider : (n f : ℕ) (xs : List ℕ) → Rising n (suc f) xs → Rising n f xs
wider n f [] h = tt
wider n f (x ∷ xs) h = (omega arith, h.1, h.2)

split : (f y : ℕ) → f ≤ y → (y ≡ f) ⊎ (suc f ≤ y)
split f y h = search arith

module _ (p : List ℕ → Bool) (n f t : ℕ) (below : f < n) where
  -- sets that begin with f, and sets that begin later
  each : FirstFailing (λ xs. p (f ∷ xs)) n (suc f) t None → (ys : List ℕ) → length ys ≡ suc t → Rising n f ys → ((zs : List ℕ) → zs ≡ ys → Rising n (suc f) ys → p ys ≡ true) → p ys ≡ true
  each a [] e h later = absurd (omega arith)
  each a (y ∷ ys) e h later =
      elim (split f y h.0) [
        | inl q ↦ subst (λ (z : ℕ). p (z ∷ ys) ≡ true) (sym q) (a ys (omega arith) (subst (λ (z : ℕ). Rising n (suc z) ys) q h.2))
        | inr l ↦ later (y ∷ ys) refl (l, h.1, h.2)
      ]

  before : (xs : List ℕ) → FirstFailing (λ xs. p (f ∷ xs)) n (suc f) t (Some xs) → (ys : List ℕ) → length ys ≡ suc t → Rising n f ys → Before ys (f ∷ xs) → p ys ≡ true
  before xs a [] e h o = absurd o
  before xs a (y ∷ ys) e h (inl o) = absurd (omega arith)
  before xs a (y ∷ ys) e h (inr o) =
      subst (λ (z : ℕ). p (z ∷ ys) ≡ true) (sym o.0) (a.3 ys (omega arith) (subst (λ (z : ℕ). Rising n (suc z) ys) o.0 h.2) o.1)

  step : (ra rb : Option (List ℕ)) → FirstFailing (λ xs. p (f ∷ xs)) n (suc f) t ra → FirstFailing p n (suc f) (suc t) rb → FirstFailing p n f (suc t) (or_else (option_map (λ xs. f ∷ xs) ra) rb)
  step None None a b = λ ys e h. each a ys e h (λ zs q l. b ys e l)
  step None (Some xs) a b = (b.0, wider n f xs b.1, b.2, λ ys e h o. each a ys e h (λ zs q l. b.3 ys e l o))
  step (Some xs) rb a b = (ap suc a.0, (omega arith, below, a.1), a.2, before xs a)

none_before : (ys : List ℕ) → Before ys [] → ⊥
none_before [] b = b
none_before (y ∷ ys) b = b

only : (n f : ℕ) (p : List ℕ → Bool) → p [] ≡ true → (xs : List ℕ) → length xs ≡ 0 → Rising n f xs → p xs ≡ true
only n f p e [] q h = e
only n f p e (x ∷ xs) q h = absurd (omega arith)

no_room : (t f n : ℕ) (p : List ℕ → Bool) → f + 0 ≡ n → (xs : List ℕ) → length xs ≡ suc t → Rising n f xs → p xs ≡ true
no_room t f n p e [] q h = absurd (omega arith)
no_room t f n p e (x ∷ xs) q h = absurd (omega arith)

empty : (p : List ℕ → Bool) (n f : ℕ) (b : Bool) → p [] ≡ b → FirstFailing p n f 0 (cond b None (Some []))
empty p n f true e = only n f p e
empty p n f false e = (refl, tt, e, λ ys q h o. absurd (none_before ys o))

good : (t d f n : ℕ) (p : List ℕ → Bool) → f + d ≡ n → FirstFailing p n f t (first_not p (sets t d f))
good zero d f n p e = empty p n f (p []) refl
good (suc t) zero f n p e = no_room t f n p e
good (suc t) (suc d) f n p e =
    subst (FirstFailing p n f (suc t)) (sym (parts p f (sets t d (suc f)) (sets (suc t) d (suc f))))
    (step p n f t (omega arith) _ _ (good t d (suc f) n (λ xs. p (f ∷ xs)) (omega arith)) (good (suc t) d (suc f) n p (omega arith)))

pub enumerates : Enumerates
enumerates p n t = good t n 0 n p (omega arith)
