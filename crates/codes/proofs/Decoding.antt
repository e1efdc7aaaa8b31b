-- The decoding theorem.
use Rattle.std.proofs.Common.{◌≡◌, ℕ, ◌<◌, ◌≤◌, List, length, take, sym, refl, ap, ◌∙◌, subst, ⊎_elim, arith}
use Rattle.std.proofs.lemmas.List.{ext_get_or, length-take-le, get_or-take}
use Rattle.std.proofs.lemmas.Bool.{cases_eq}
use Rattle.std.proofs.lemmas.List.FromFn.{length-map-range_with_len}
use Rattle.codes.specs.Code.{Code, codeword, Codeword, distance, Permutation, moved, returned, candidate, Clears, Near}
use Rattle.codes.specs.Serviceable.{Serviceable, Decodes}
use Rattle.codes.proofs.Words.{length-codeword, take-codeword}
use Rattle.codes.proofs.Places.{triangle, distance-sym, differing, differing_rising, length-differing, agree, onto, moved_at, returned_moved, zero_same, distance-zero}

-- a codeword is that of its first k symbols
pub codeword_of_itself : (C : Code) (c : List ℕ) → Codeword C c → codeword C (take C.k c) ≡ c
codeword_of_itself C c (u, (long, below), e) =
    ap (λ w. codeword C (take C.k w)) e ∙ ap (codeword C) (take-codeword C u long) ∙ sym e

-- so codewords that agree on the information places are equal
pub same_codeword : (C : Code) (c d : List ℕ) → Codeword C c → Codeword C d → take C.k c ≡ take C.k d → c ≡ d
same_codeword C c d hc hd e = sym (codeword_of_itself C c hc) ∙ ap (codeword C) e ∙ codeword_of_itself C d hd

pub codeword_long : (C : Code) → C.k ≤ C.n → (c : List ℕ) → Codeword C c → length c ≡ C.n
codeword_long C fits c (u, (long, below), e) = ap length e ∙ length-codeword C u long fits

module _ (C : Code) (t m : ℕ) (target : ℕ → ℕ → ℕ) (fits : C.k ≤ C.n) (permutes : (i : ℕ) → i < m → Permutation C.n (target i)) (serves : Serviceable C t m target) where
  -- words that differ only at places that σ clears agree on the information places once moved
  pub agree_moved : (σ : ℕ → ℕ) → Permutation C.n σ → (v c : List ℕ) → Clears C.k σ (differing 0 C.n v c)
      → take C.k (moved C.n σ v) ≡ take C.k (moved C.n σ c)
  agree_moved σ perm v c clear =
      let long : (w : List ℕ) → length (take C.k (moved C.n σ w)) ≡ C.k =
      λ w. length-take-le C.k (moved C.n σ w) (rw length-map-range_with_len fits) in
      ext_get_or 0 _ _ (long v ∙ sym (long c))
      (λ s h.
      let l : s < C.k = rw (long v) at h in
      let from = onto C.n σ perm s (omega arith) in
      let p = from.0 in
      get_or-take C.k (moved C.n σ v) s 0 l
      ∙ rw (← from.2)
      (moved_at C.n σ perm v p from.1 ∙ agree (λ r. C.k ≤ σ r) 0 C.n v c clear p (omega arith) (omega arith) (λ k≤. omega arith) ∙ sym (moved_at C.n σ perm c p from.1))
      ∙ sym (get_or-take C.k (moved C.n σ c) s 0 l))

  -- the attempt by a permutation that clears the differing places gives the codeword
  pub candidate_is : (i : ℕ) → i < m → (v c : List ℕ) → Codeword C c → Clears C.k (target i) (differing 0 C.n v c) → candidate C (target i) v ≡ c
  candidate_is i h v c (u, (long, below), e) clear =
      let hc : Codeword C c = (u, (long, below), e) in
      let perm = permutes i h in
      ap (λ w. returned C.n (target i) (codeword C w)) (agree_moved (target i) perm v c clear)
      ∙ ap (returned C.n (target i)) (codeword_of_itself C (moved C.n (target i) c) (serves.keeps i h c hc))
      ∙ returned_moved C.n (target i) perm c (ap length e ∙ length-codeword C u long fits)

  -- there is at most one codeword within t places of v
  pub nearest : (v c d : List ℕ) → Near C t v c → Near C t v d → c ≡ d
  nearest v c d (hc, nc) (hd, nd) =
      ⊎_elim
      (zero_same C.n c d (codeword_long C fits c hc) (codeword_long C fits d hd))
      (λ ne. absurd (
      let far = serves.apart c d hc hd (λ e. ne (ap (λ x. distance C.n c x) (sym e) ∙ distance-zero C.n c c (λ p h. refl))) in
      omega (arith, triangle C.n c v d, distance-sym C.n c v)))
      (cases_eq (distance C.n c d) 0)

  pub decodes : Decodes C t m target
  decodes v block = (
    (λ (i, h, s). (candidate C (target i) v, (s.1, s.2))),
    (λ (c, near).
        let (i, h, clear) = serves.clears (differing 0 C.n v c) (omega (arith, length-differing C.n v c, near.1)) (differing_rising C.n 0 C.n v c (omega arith)) in
        let e = candidate_is i h v c near.0 clear in
        (i, h, (permutes i h, subst (Codeword C) (sym e) near.0, subst (λ w. distance C.n v w ≤ t) (sym e) near.1))),
    (λ i c h s near. nearest v (candidate C (target i) v) c (s.1, s.2) near),
  )
