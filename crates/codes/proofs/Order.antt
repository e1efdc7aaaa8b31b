-- The successor visits every set in dictionary order.
use Rattle.std.proofs.Common.{◌≡◌, ℕ, zero, suc, ◌+◌, ◌*◌, ◌^◌, ◌<◌, ◌≤◌, ◌⊎◌, List, [], ◌∷◌, length, sym, refl, ap, ◌∙◌, subst, inl, inr, suc-mul, pow-suc, arith}
use Rattle.std.proofs.lemmas.Nat.{mul-le}
use Rattle.codes.specs.Sets.{Rising, Before}
use Rattle.codes.specs.Steps.{run, Last, Next}

-- the set read as a number in base 64
abbrev pub value : List ℕ → ℕ
value [] = 0
value (x ∷ xs) = x * 64 ^ length xs + value xs

pub room : (n f : ℕ) (zs : List ℕ) → f ≤ n → Rising n f zs → f + length zs ≤ n
room n f [] h p = omega arith
room n f (z ∷ zs) h p = let r = room n (suc z) zs (omega arith) p.2 in omega arith

lower : (z x : ℕ) → z ≤ x → (z < x) ⊎ (z ≡ x)
lower z x h = search arith

cons : (z x : ℕ) (zs xs : List ℕ) → z ≡ x → zs ≡ xs → z ∷ zs ≡ x ∷ xs
cons z x zs xs p q = cc

-- the heads agree: what holds of the tails
heads : (z x : ℕ) (zs xs : List ℕ) → z ≡ x → Before zs xs ⊎ (zs ≡ xs) → Before (z ∷ zs) (x ∷ xs) ⊎ (z ∷ zs ≡ x ∷ xs)
heads z x zs xs e (inl b) = inl (inr (e, b))
heads z x zs xs e (inr q) = inr (cons z x zs xs e q)

-- nothing comes after the last set
pub last_top : (n f : ℕ) (xs zs : List ℕ) → Last n xs → length zs ≡ length xs → Rising n f zs → Before zs xs ⊎ (zs ≡ xs)
last_top n f [] [] l e p = inr refl
last_top n f [] (z ∷ zs) l e p = absurd (omega arith)
last_top n f (x ∷ xs) [] l e p = absurd (omega arith)
last_top n f (x ∷ xs) (z ∷ zs) l e p =
    let r = room n (suc z) zs (omega arith) p.2 in
    let low : z ≤ x = omega arith in
    elim (lower z x low) [
      | inl h ↦ inl (inl h)
      | inr q ↦ heads z x zs xs q (last_top n (suc z) xs zs l.1 (omega arith) p.2)
    ]

-- nothing comes before the first set
pub run_first : (n f k : ℕ) (zs : List ℕ) → length zs ≡ k → Rising n f zs → Before zs (run f k) → ⊥
run_first n f zero [] e p b = b
run_first n f zero (z ∷ zs) e p b = omega arith
run_first n f (suc k) [] e p b = b
run_first n f (suc k) (z ∷ zs) e p (inl h) = omega arith
run_first n f (suc k) (z ∷ zs) e p (inr h) =
    run_first n (suc f) k zs (omega arith) (subst (λ (m : ℕ). Rising n (suc m) zs) h.0 p.2) h.1

-- nothing lies between a set and the next
pub next_between : (n f : ℕ) (xs ys zs : List ℕ) → Next n xs ys → length zs ≡ length xs → Rising n f zs → Before zs ys → Before zs xs ⊎ (zs ≡ xs)
next_between n f [] ys zs s e p b = absurd s
next_between n f (x ∷ xs) [] zs s e p b = absurd s
next_between n f (x ∷ xs) (y ∷ ys) [] s e p b = absurd b
next_between n f (x ∷ xs) (y ∷ ys) (z ∷ zs) (inl s) e p (inl b) = inl (inl (omega arith))
next_between n f (x ∷ xs) (y ∷ ys) (z ∷ zs) (inl s) e p (inr b) =
    heads z x zs xs (omega arith) (next_between n (suc z) xs ys zs s.1 (omega arith) p.2 b.1)
next_between n f (x ∷ xs) (y ∷ ys) (z ∷ zs) (inr s) e p (inl b) =
    elim (lower z x (omega arith)) [
      | inl h ↦ inl (inl h)
      | inr q ↦ heads z x zs xs q (last_top n (suc z) xs zs s.2 (omega arith) p.2)
    ]
next_between n f (x ∷ xs) (y ∷ ys) (z ∷ zs) (inr s) e p (inr b) =
    absurd (run_first n (x + 2) (length xs) zs (omega arith)
    (subst (λ (m : ℕ). Rising n m zs) (omega arith) p.2)
    (subst (λ (l : List ℕ). Before zs l) s.3 b.1))

pub next_before : (n : ℕ) (xs ys : List ℕ) → Next n xs ys → Before xs ys
next_before n [] ys s = s
next_before n (x ∷ xs) [] s = s
next_before n (x ∷ xs) (y ∷ ys) (inl s) = inr (s.0, next_before n xs ys s.1)
next_before n (x ∷ xs) (y ∷ ys) (inr s) = inl (omega arith)

pub run_length : (f k : ℕ) → length (run f k) ≡ k
run_length f zero = refl
run_length f (suc k) = ap suc (run_length (suc f) k)

pub run_places : (n f g k : ℕ) → g ≤ f → f + k ≤ n → Rising n g (run f k)
run_places n f g zero l h = tt
run_places n f g (suc k) l h = (l, omega arith, run_places n (suc f) (suc f) k (omega arith) (omega arith))

pub next_length : (n : ℕ) (xs ys : List ℕ) → Next n xs ys → length ys ≡ length xs
next_length n [] ys s = absurd s
next_length n (x ∷ xs) [] s = absurd s
next_length n (x ∷ xs) (y ∷ ys) (inl s) = ap suc (next_length n xs ys s.1)
next_length n (x ∷ xs) (y ∷ ys) (inr s) = ap suc (ap length s.3 ∙ run_length (x + 2) (length xs))

pub next_places : (n f : ℕ) (xs ys : List ℕ) → Next n xs ys → Rising n f xs → Rising n f ys
next_places n f [] ys s p = absurd s
next_places n f (x ∷ xs) [] s p = tt
next_places n f (x ∷ xs) (y ∷ ys) (inl s) p =
    (omega arith, omega arith, next_places n (suc y) xs ys s.1 (subst (λ (m : ℕ). Rising n (suc m) xs) s.0 p.2))
next_places n f (x ∷ xs) (y ∷ ys) (inr s) p =
    (omega arith, omega arith, subst (λ (l : List ℕ). Rising n (suc y) l) (sym s.3) (run_places n (x + 2) (suc y) (length xs) (omega arith) (omega arith)))

-- the number of a set rises in dictionary order
pub value_below : (n f : ℕ) (xs : List ℕ) → n ≤ 64 → Rising n f xs → value xs < 64 ^ length xs
value_below n f [] h p = omega arith
value_below n f (x ∷ xs) h p =
    let b = value_below n (suc x) xs h p.2 in
    omega (arith, pow-suc 64 (length xs), mul-le x (64 ^ length xs) 63 (64 ^ length xs) (omega arith) (omega arith))

pub value_before : (n f : ℕ) (xs ys : List ℕ) → n ≤ 64 → length xs ≡ length ys → Rising n f xs → Before xs ys → value xs < value ys
value_before n f [] ys h e p b = absurd b
value_before n f (x ∷ xs) [] h e p b = absurd b
value_before n f (x ∷ xs) (y ∷ ys) h e p (inl b) =
    let same : length xs ≡ length ys = omega arith in
    let base = ap (λ (k : ℕ). y * 64 ^ k) same in
    let v = value_below n (suc x) xs h p.2 in
    omega (arith, base, suc-mul x (64 ^ length xs), mul-le (suc x) (64 ^ length xs) y (64 ^ length xs) b (omega arith))
value_before n f (x ∷ xs) (y ∷ ys) h e p (inr b) =
    let same : length xs ≡ length ys = omega arith in
    let base : x * 64 ^ length xs ≡ y * 64 ^ length ys = rw (b.0, same) in
    let v = value_before n (suc x) xs ys h same p.2 b.1 in
    omega arith
