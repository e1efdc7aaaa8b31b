-- A rule at every number below a bound, by one test that is computed.
use Rattle.std.specs.Prelude.{◌≡◌, ℕ, zero, suc, ◌<◌, Bool, true, false, T, ◌⊎◌, List, [], ◌∷◌, slice_index_or}
use Rattle.std.proofs.Common.{subst, sym, inl, inr, not-suc-le-zero, arith}

abbrev pub both : Bool → Bool → Bool
both true b = b
both false b = false

pub both_left : (a b : Bool) → T (both a b) → T a
both_left true b t = tt
both_left false b t = t

pub both_right : (a b : Bool) → T (both a b) → T b
both_right true b t = t
both_right false b t = absurd t

-- the test f passes at each number below n
abbrev pub all : ℕ → (ℕ → Bool) → Bool
all zero f = true
all (suc n) f = both (f n) (all n f)

last : (k n : ℕ) → k < suc n → (k < n) ⊎ (k ≡ n)
last k n h = search arith

pub at : (n : ℕ) (f : ℕ → Bool) → T (all n f) → (k : ℕ) → k < n → T (f k)
at zero f t k h = absurd (not-suc-le-zero h)
at (suc n) f t k h =
    elim (last k n h) [
      | inl l ↦ at n f (both_right (f n) (all n f) t) k l
      | inr e ↦ subst (λ (m : ℕ). T (f m)) (sym e) (both_left (f n) (all n f) t)
    ]

abbrev pub all₂ : ℕ → (ℕ → ℕ → Bool) → Bool
all₂ n f = all n (λ a. all n (λ b. f a b))

abbrev pub all₃ : ℕ → (ℕ → ℕ → ℕ → Bool) → Bool
all₃ n f = all n (λ a. all n (λ b. all n (λ c. f a b c)))

pub at₂ : (n : ℕ) (f : ℕ → ℕ → Bool) → T (all₂ n f) → (a b : ℕ) → a < n → b < n → T (f a b)
at₂ n f t a b ha hb = at n (λ y. f a y) (at n (λ x. all n (λ y. f x y)) t a ha) b hb

pub at₃ : (n : ℕ) (f : ℕ → ℕ → ℕ → Bool) → T (all₃ n f) → (a b c : ℕ) → a < n → b < n → c < n → T (f a b c)
at₃ n f t a b c ha hb hc = at n (λ z. f a b z) (at₂ n (λ x y. all n (λ z. f x y z)) t a b ha hb) c hc

-- several tests
abbrev pub conj : List Bool → Bool
conj [] = true
conj (b ∷ bs) = both b (conj bs)

pub pick : (bs : List Bool) (i : ℕ) → T (conj bs) → T (slice_index_or bs i true)
pick [] i t = tt
pick (b ∷ bs) zero t = both_left b (conj bs) t
pick (b ∷ bs) (suc i) t = pick bs i (both_right b (conj bs) t)
