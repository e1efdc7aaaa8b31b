-- The successor's array, place by place, is the next set.
use Rattle.std.proofs.Common.{◌≡◌, ℕ, zero, suc, ◌+◌, ◌-◌, ◌<◌, ◌≤◌, List, [], ◌∷◌, length, get_or, drop, sym, refl, inl, inr, arith}
use Rattle.codes.specs.Steps.{run, Last, Next}

-- a list that counts up is a run
pub run_is : (f : ℕ) (ys : List ℕ) (k : ℕ) → length ys ≡ k → ((i : ℕ) → i < k → get_or ys i 0 ≡ f + i) → ys ≡ run f k
run_is f [] zero e h = refl
run_is f [] (suc k) e h = absurd (omega arith)
run_is f (y ∷ ys) zero e h = absurd (omega arith)
run_is f (y ∷ ys) (suc k) e h =
    let t : ys ≡ run (suc f) k = run_is (suc f) ys k (omega arith) (λ i b. let q = h (suc i) (omega arith) in omega arith) in
    let a : y ≡ f = (let q = h 0 (omega arith) in omega arith) in
    cc

pub next_at : (n j : ℕ) (xs ys : List ℕ) → j < length xs → length ys ≡ length xs → ((k : ℕ) → k < j → get_or ys k 0 ≡ get_or xs k 0) → ((k : ℕ) → j ≤ k → k < length xs → get_or ys k 0 ≡ get_or xs j 0 + 1 + (k - j)) → Last n (drop (suc j) xs) → get_or xs j 0 + (length xs - j) < n → Next n xs ys
next_at n zero [] ys h e same more l t = absurd (omega arith)
next_at n zero (x ∷ xs) [] h e same more l t = absurd (omega arith)
next_at n zero (x ∷ xs) (y ∷ ys) h e same more l t =
    let a = more 0 (omega arith) (omega arith) in
    inr (omega arith, omega arith, l, run_is (x + 2) ys (length xs) (omega arith) (λ i b. let q = more (suc i) (omega arith) (omega arith) in omega arith))
next_at n (suc j) [] ys h e same more l t = absurd (omega arith)
next_at n (suc j) (x ∷ xs) [] h e same more l t = absurd (omega arith)
next_at n (suc j) (x ∷ xs) (y ∷ ys) h e same more l t =
    inl (
      sym (same 0 (omega arith)),
      next_at n j xs ys (omega arith) (omega arith) (λ k b. same (suc k) (omega arith)) (λ k a b. let q = more (suc k) (omega arith) (omega arith) in omega arith) l (omega arith),
    )
