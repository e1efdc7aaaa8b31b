-- Attempts with rings that agree below q and permutations that agree below n are the same.
use Rattle.std.proofs.Common.{◌≡◌, ℕ, zero, suc, ◌+◌, ◌-◌, ◌*◌, ◌%◌, ◌<◌, ◌≤◌, cond, eqb, List, ◌++◌, map, get_or, take, sym, refl, ap, ◌∙◌, subst, ap₂, mod-lt, arith}
use Rattle.std.specs.List.{range_with_len}
use Rattle.std.proofs.lemmas.List.{ext_get_or}
use Rattle.std.proofs.lemmas.List.FromFn.{length-map-range_with_len, get_or-map-range_with_len}
use Rattle.symbols.specs.Ring.{Ring, plus, times, total}
use Rattle.codes.specs.Code.{Code, code, term, check, codeword, distance, Permutation, source, moved, returned, candidate, Succeeds}

-- lists made by functions that agree below n are equal
map_same : (f g : ℕ → ℕ) (n : ℕ) → ((p : ℕ) → p < n → f p ≡ g p) → map f (range_with_len 0 n) ≡ map g (range_with_len 0 n)
map_same f g n same =
    ext_get_or 0 _ _ (length-map-range_with_len f 0 n ∙ sym (length-map-range_with_len g 0 n))
    (λ p h.
    let l : p < n = rw (length-map-range_with_len f 0 n) at h in
    get_or-map-range_with_len f 0 n p p 0 l (omega arith) ∙ same p l ∙ sym (get_or-map-range_with_len g 0 n p p 0 l (omega arith)))

module _ (R Q : Ring) (low : 0 < R.q) (orders : R.q ≡ Q.q)
    (sums : (a b : ℕ) → a < R.q → b < R.q → R.add a b ≡ Q.add a b)
    (products : (a b : ℕ) → a < R.q → b < R.q → R.mul a b ≡ Q.mul a b) where
  plus_same : (a b : ℕ) → plus R a b ≡ plus Q a b
  plus_same a b = sums _ _ (mod-lt a low) (mod-lt b low) ∙ ap (λ (q : ℕ). Q.add (a % q) (b % q)) orders

  times_same : (a b : ℕ) → times R a b ≡ times Q a b
  times_same a b = products _ _ (mod-lt a low) (mod-lt b low) ∙ ap (λ (q : ℕ). Q.mul (a % q) (b % q)) orders

  total_same : (k : ℕ) (f g : ℕ → ℕ) → ((i : ℕ) → f i ≡ g i) → total R k f ≡ total Q k g
  total_same zero f g same = refl
  total_same (suc k) f g same = plus_same (total R k f) (f k) ∙ ap₂ (plus Q) (total_same k f g same) (same k)

  pub codeword_same : (n k : ℕ) (rows u : List ℕ) → codeword (code R n k rows) u ≡ codeword (code Q n k rows) u
  codeword_same n k rows u =
      ap (λ w. u ++ w)
      (map_same (check (code R n k rows) u) (check (code Q n k rows) u) (n - k)
      (λ j _. total_same k (term (code R n k rows) u j) (term (code Q n k rows) u j) (λ i. times_same (get_or u i 0) (get_or rows (i * (n - k) + j) 0))))

source_same : (n : ℕ) (σ τ : ℕ → ℕ) (s : ℕ) → ((p : ℕ) → p < n → σ p ≡ τ p) → source n σ s ≡ source n τ s
source_same zero σ τ s same = refl
source_same (suc p) σ τ s same =
    ap₂ (λ (x y : ℕ). cond (eqb x s) p y) (same p (omega arith)) (source_same p σ τ s (λ r h. same r (omega arith)))

permutation_same : (n : ℕ) (σ τ : ℕ → ℕ) → ((p : ℕ) → p < n → σ p ≡ τ p) → Permutation n σ → Permutation n τ
permutation_same n σ τ same (below, apart) = (
  (λ p h. subst (λ (x : ℕ). x < n) (same p h) (below p h)),
  (λ p r h l e. apart p r h l (same p h ∙ e ∙ sym (same r l))),
)

module _ (C D : Code) (t : ℕ) (places : C.n ≡ D.n) (kept : C.k ≡ D.k) (orders : C.ring.q ≡ D.ring.q)
    (words : (u : List ℕ) → codeword C u ≡ codeword D u)
    (σ τ : ℕ → ℕ) (same : (p : ℕ) → p < C.n → σ p ≡ τ p) (v : List ℕ) where
  pub candidate_same : candidate C σ v ≡ candidate D τ v
  candidate_same =
      map_same (λ p. get_or (codeword C (take C.k (moved C.n σ v))) (σ p) 0) (λ p. get_or (codeword C (take C.k (moved C.n σ v))) (τ p) 0) C.n
      (λ p h. ap (λ (x : ℕ). get_or (codeword C (take C.k (moved C.n σ v))) x 0) (same p h))
      ∙ ap (λ w. returned C.n τ (codeword C (take C.k w))) (map_same (λ s. get_or v (source C.n σ s) 0) (λ s. get_or v (source C.n τ s) 0) C.n (λ s _. ap (λ (x : ℕ). get_or v x 0) (source_same C.n σ τ s same)))
      ∙ ap (returned C.n τ) (words (take C.k (moved C.n τ v)))
      ∙ ap₂ (λ (n k : ℕ). returned n τ (codeword D (take k (moved n τ v)))) places kept

  pub succeeds_same : Succeeds C t σ v → Succeeds D t τ v
  succeeds_same (perm, (u, (long, below), e), near) = (
    subst (λ (n : ℕ). Permutation n τ) places (permutation_same C.n σ τ same perm),
    (u, (long ∙ kept, λ p h. subst (λ (q : ℕ). get_or u p 0 < q) orders (below p (omega arith))), sym candidate_same ∙ e ∙ words u),
    subst (λ (d : ℕ). d ≤ t) (ap₂ (λ (n : ℕ) (w : List ℕ). distance n v w) places candidate_same) near,
  )
