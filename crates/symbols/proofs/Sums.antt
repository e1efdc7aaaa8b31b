-- What the ring rules give of plus, times and total, for any numbers: the rules hold with no bound, but for the neutral ones.
use Rattle.std.proofs.Common.{◌≡◌, ℕ, zero, suc, ◌%◌, ◌<◌, sym, refl, ap, ◌∙◌, ap₂, ⊎_elim, not-suc-le-zero, mod-lt, mod-eq_of_lt, arith}
use native.Mathlib.Nat.{zero-mod}
use Rattle.std.proofs.lemmas.Bool.{cases_eq}
use Rattle.symbols.specs.Ring.{Ring, RingRules, plus, minus, times, total}

module _ (R : Ring) (rules : RingRules R) where
  pub mod_below : (a : ℕ) → a % R.q < R.q
  mod_below a = mod-lt a (omega (arith, rules.low))

  pub plus_below : (a b : ℕ) → plus R a b < R.q
  plus_below a b = rules.add_below _ _ (mod_below a) (mod_below b)

  pub times_below : (a b : ℕ) → times R a b < R.q
  times_below a b = rules.mul_below _ _ (mod_below a) (mod_below b)

  pub minus_below : (a : ℕ) → minus R a < R.q
  minus_below a = rules.neg_below _ (mod_below a)

  pub plus_assoc : (a b c : ℕ) → plus R (plus R a b) c ≡ plus R a (plus R b c)
  plus_assoc a b c =
      ap (λ x. R.add x (c % R.q)) (mod-eq_of_lt (plus_below a b)) ∙ rules.add_assoc _ _ _ (mod_below a) (mod_below b) (mod_below c)
      ∙ ap (λ x. R.add (a % R.q) x) (sym (mod-eq_of_lt (plus_below b c)))

  pub plus_comm : (a b : ℕ) → plus R a b ≡ plus R b a
  plus_comm a b = rules.add_comm _ _ (mod_below a) (mod_below b)

  pub zero-plus : (a : ℕ) → a < R.q → plus R 0 a ≡ a
  zero-plus a h = ap₂ R.add (zero-mod R.q) (mod-eq_of_lt h) ∙ rules.zero-add a h

  pub plus-zero : (a : ℕ) → a < R.q → plus R a 0 ≡ a
  plus-zero a h = plus_comm a 0 ∙ zero-plus a h

  pub plus-minus : (a : ℕ) → plus R a (minus R a) ≡ 0
  plus-minus a = ap (R.add (a % R.q)) (mod-eq_of_lt (minus_below a)) ∙ rules.add-neg _ (mod_below a)

  pub times_assoc : (a b c : ℕ) → times R (times R a b) c ≡ times R a (times R b c)
  times_assoc a b c =
      ap (λ x. R.mul x (c % R.q)) (mod-eq_of_lt (times_below a b)) ∙ rules.mul_assoc _ _ _ (mod_below a) (mod_below b) (mod_below c)
      ∙ ap (λ x. R.mul (a % R.q) x) (sym (mod-eq_of_lt (times_below b c)))

  pub times-plus : (a b c : ℕ) → times R a (plus R b c) ≡ plus R (times R a b) (times R a c)
  times-plus a b c =
      ap (R.mul (a % R.q)) (mod-eq_of_lt (plus_below b c)) ∙ rules.mul-add _ _ _ (mod_below a) (mod_below b) (mod_below c)
      ∙ sym (ap₂ R.add (mod-eq_of_lt (times_below a b)) (mod-eq_of_lt (times_below a c)))

  pub plus_times : (a b c : ℕ) → times R (plus R a b) c ≡ plus R (times R a c) (times R b c)
  plus_times a b c =
      ap (λ x. R.mul x (c % R.q)) (mod-eq_of_lt (plus_below a b)) ∙ rules.add-mul _ _ _ (mod_below a) (mod_below b) (mod_below c)
      ∙ sym (ap₂ R.add (mod-eq_of_lt (times_below a c)) (mod-eq_of_lt (times_below b c)))

  pub one-times : (a : ℕ) → a < R.q → times R 1 a ≡ a
  one-times a h = ap₂ R.mul (mod-eq_of_lt rules.low) (mod-eq_of_lt h) ∙ rules.one-mul a h

  pub times-one : (a : ℕ) → a < R.q → times R a 1 ≡ a
  times-one a h = ap₂ R.mul (mod-eq_of_lt h) (mod-eq_of_lt rules.low) ∙ rules.mul-one a h

  -- x + x = x only at 0
  only_zero : (x : ℕ) → x < R.q → plus R x x ≡ x → x ≡ 0
  only_zero x h e =
      sym (plus-zero x h) ∙ ap (plus R x) (sym (plus-minus x)) ∙ sym (plus_assoc x x (minus R x)) ∙ ap (λ y. plus R y (minus R x)) e ∙ plus-minus x

  zero-zero : plus R 0 0 ≡ 0
  zero-zero = zero-plus 0 (omega (arith, rules.low))

  pub times_zero : (a : ℕ) → times R a 0 ≡ 0
  times_zero a = only_zero (times R a 0) (times_below a 0) (sym (times-plus a 0 0) ∙ ap (times R a) zero-zero)

  pub zero-times : (a : ℕ) → times R 0 a ≡ 0
  zero-times a = only_zero (times R 0 a) (times_below 0 a) (sym (plus_times 0 0 a) ∙ ap (λ x. times R x a) zero-zero)

  -- (a + b) + (c + d) = (a + c) + (b + d)
  pub plus-plus : (a b c d : ℕ) → plus R (plus R a b) (plus R c d) ≡ plus R (plus R a c) (plus R b d)
  plus-plus a b c d =
      plus_assoc a b (plus R c d) ∙ ap (plus R a) (sym (plus_assoc b c d) ∙ ap (λ x. plus R x d) (plus_comm b c) ∙ plus_assoc c b d)
      ∙ sym (plus_assoc a c (plus R b d))

  pub total_below : (n : ℕ) (f : ℕ → ℕ) → total R n f < R.q
  total_below zero f = omega (arith, rules.low)
  total_below (suc n) f = plus_below _ _

  pub total-plus : (n : ℕ) (f g : ℕ → ℕ) → total R n (λ i. plus R (f i) (g i)) ≡ plus R (total R n f) (total R n g)
  total-plus zero f g = sym zero-zero
  total-plus (suc n) f g = ap (λ x. plus R x (plus R (f n) (g n))) (total-plus n f g) ∙ plus-plus _ _ _ _

  pub times-total : (n : ℕ) (a : ℕ) (f : ℕ → ℕ) → times R a (total R n f) ≡ total R n (λ i. times R a (f i))
  times-total zero a f = times_zero a
  times-total (suc n) a f = times-plus a _ _ ∙ ap (λ x. plus R x (times R a (f n))) (times-total n a f)

  pub total-times : (n : ℕ) (f : ℕ → ℕ) (a : ℕ) → times R (total R n f) a ≡ total R n (λ i. times R (f i) a)
  total-times zero f a = zero-times a
  total-times (suc n) f a = plus_times _ _ a ∙ ap (λ x. plus R x (times R (f n) a)) (total-times n f a)

  pub total-zero : (n : ℕ) → total R n (λ i. 0) ≡ 0
  total-zero zero = refl
  total-zero (suc n) = ap (λ x. plus R x 0) (total-zero n) ∙ zero-zero

  pub total_swap : (n m : ℕ) (f : ℕ → ℕ → ℕ) → total R n (λ i. total R m (λ j. f i j)) ≡ total R m (λ j. total R n (λ i. f i j))
  total_swap zero m f = sym (total-zero m)
  total_swap (suc n) m f = ap (λ x. plus R x (total R m (f n))) (total_swap n m f) ∙ sym (total-plus m (λ j. total R n (λ i. f i j)) (f n))

-- two sums agree where their terms do
pub total_same : (R : Ring) (n : ℕ) (f g : ℕ → ℕ) → ((i : ℕ) → i < n → f i ≡ g i) → total R n f ≡ total R n g
total_same R zero f g h = refl
total_same R (suc n) f g h = ap₂ (plus R) (total_same R n f g (λ i l. h i (omega arith))) (h n (omega arith))

module _ (R : Ring) (rules : RingRules R) where
  -- a sum with one term that need not be 0
  pub total_pick : (n i : ℕ) (f : ℕ → ℕ) → i < n → ((l : ℕ) → l < n → (l ≡ i → ⊥) → f l ≡ 0) → f i < R.q → total R n f ≡ f i
  total_pick zero i f h zeros b = absurd (not-suc-le-zero h)
  total_pick (suc n) i f h zeros b =
      ⊎_elim
      (λ e. ap (λ x. plus R x (f n)) (total_same R n f (λ _. 0) (λ l m. zeros l (omega arith) (λ w. omega arith)) ∙ total-zero R rules n)
      ∙ ap (λ l. plus R 0 (f l)) (sym e) ∙ zero-plus R rules (f i) b)
      (λ ne. ap₂ (plus R) (total_pick n i f (omega arith) (λ l m. zeros l (omega arith)) b) (zeros n (omega arith) (λ e. ne (sym e))) ∙ plus-zero R rules (f i) b)
      (cases_eq i n)

  -- a + c = b + c only where a = b
  pub plus_cancel : (a b c : ℕ) → a < R.q → b < R.q → plus R a c ≡ plus R b c → a ≡ b
  plus_cancel a b c ha hb e = sym (back a ha) ∙ ap (λ x. plus R x (minus R c)) e ∙ back b hb
    where
      back : (x : ℕ) → x < R.q → plus R (plus R x c) (minus R c) ≡ x
      back x h = plus_assoc R rules x c (minus R c) ∙ ap (plus R x) (plus-minus R rules c) ∙ plus-zero R rules x h
