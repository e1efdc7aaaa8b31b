-- The words of an attempt, one after another.
use Rattle.std.proofs.Common.{◌≡◌, ℕ, ◌<◌, ◌≤◌, true, cond, eqb, List, length, get_or, take, set, replicate, Some, sym, ap, ◌∙◌, subst, ⊎_elim, arith, length-set}
use lib.ListN.{get_or-replicate}
use Rattle.std.proofs.lemmas.Bool.{cases_eq, cond-true, cond-false, eq-eqb, ne_eqb}
use Rattle.std.proofs.lemmas.List.{get_or-set_same, get_or-set_other, get_or-take, length-take, length-take-le, same_lists}
use Rattle.std.proofs.lemmas.List.FromFn.{fill_by_all, length-map-range_with_len}
use Rattle.symbols.specs.Ring.{RingRules}
use Rattle.lists.specs.Told.{told}
use Rattle.codes.specs.Code.{Code, codeword, Codeword, Symbols, is_codeword, distance, moved, returned, candidate, unit, Permutation}
use Rattle.codes.proofs.Linear.{candidate_symbols}
use Rattle.codes.proofs.Offending.{test_by_codeword, codeword_by_test}
use Rattle.codes.proofs.Places.{distance_returned}
use Rattle.codes.proofs.Words.{length-codeword}
use Rattle.schemes.specs.Takes.{Taken, Takes}

-- the first k of the first n elements
take_front : (k n : ℕ) (xs : List ℕ) → k ≤ n → take k (take n xs) ≡ take k xs
take_front k n xs h =
    same_lists _ _ (omega (arith, length-take k (take n xs), length-take n xs, length-take k xs))
    (λ i d l. get_or-take k (take n xs) i d (omega (arith, length-take k (take n xs)))
    ∙ get_or-take n xs i d (omega (arith, length-take k (take n xs)))
    ∙ sym (get_or-take k xs i d (omega (arith, length-take k (take n xs)))))

module _ (C : Code) (fits : C.k ≤ C.n) (σ : ℕ → ℕ) (v : List ℕ) (x : Taken) (taken : Takes C.n σ v x) where
  -- the message of the attempt
  pub message_is : take C.k x.word ≡ take C.k (moved C.n σ v)
  message_is = sym (take_front C.k C.n x.word fits) ∙ ap (take C.k) taken.moves

  pub length_taken : length (take C.n x.word) ≡ C.n
  length_taken = ap length taken.moves ∙ length-map-range_with_len _ 0 C.n

  -- how far the word is from the codeword of its first symbols
  pub far_is : distance C.n (take C.n x.word) (codeword C (take C.k (take C.n x.word))) ≡ distance C.n v (candidate C σ v)
  far_is =
      ap (λ (w : List ℕ). distance C.n w (codeword C (take C.k w))) taken.moves
      ∙ sym (distance_returned C.n σ taken.permutes v (codeword C (take C.k (moved C.n σ v))))

  module _ (word : List ℕ) (is : take C.n word ≡ codeword C (take C.k x.word)) where
    codeword_is : take C.n word ≡ codeword C (take C.k (moved C.n σ v))
    codeword_is = is ∙ ap (codeword C) message_is

    pub length_codeword : length (take C.n word) ≡ C.n
    length_codeword =
        ap length codeword_is
        ∙ length-codeword C (take C.k (moved C.n σ v)) (ap length (sym message_is) ∙ length-take-le C.k x.word (omega (arith, length_taken, length-take C.n x.word))) fits

    -- the distance of the attempt
    pub distance_is : (d : ℕ) → d ≡ distance (length (take C.n x.word)) (take C.n x.word) (take C.n word) → d ≡ distance C.n v (candidate C σ v)
    distance_is d e =
        e ∙ ap (λ (m : ℕ). distance m (take C.n x.word) (take C.n word)) length_taken
        ∙ ap (λ (w : List ℕ). distance C.n w (take C.n word)) taken.moves
        ∙ ap (distance C.n (moved C.n σ v)) codeword_is
        ∙ sym (distance_returned C.n σ taken.permutes v (codeword C (take C.k (moved C.n σ v))))

    -- the word that is brought back
    pub candidate_is : (back : List ℕ) → C.n ≤ length back
        → ((p to : ℕ) → p < length (take C.n word) → told x.targets p ≡ Some to → get_or back p 0 ≡ get_or (take C.n word) to 0)
        → take C.n back ≡ candidate C σ v
    candidate_is back long at =
        fill_by_all (λ p. get_or (take C.n word) (σ p) 0) (take C.n back) C.n 0 (length-take-le C.n back long)
        (λ p h. get_or-take C.n back p 0 h ∙ at p (σ p) (omega (arith, length_codeword)) (taken.goes p h))
        ∙ ap (returned C.n σ) codeword_is

-- whether the candidate is a codeword
module _ (C : Code) (fits : C.k ≤ C.n) (rules : RingRules C.ring) (σ : ℕ → ℕ) (perm : Permutation C.n σ) (v : List ℕ) (block : Symbols C.ring.q C.n v) (w : List ℕ) (is : w ≡ candidate C σ v) where
  symbols : Symbols C.ring.q C.n w
  symbols = subst (Symbols C.ring.q C.n) (sym is) (candidate_symbols C rules fits σ perm v block)

  pub candidate_passes : Codeword C (candidate C σ v) → is_codeword C w ≡ true
  candidate_passes s = test_by_codeword C fits w symbols (subst (Codeword C) (sym is) s)

  pub candidate_serves : is_codeword C w ≡ true → Codeword C (candidate C σ v)
  candidate_serves e = subst (Codeword C) is (codeword_by_test C fits w symbols e)

-- a 1 among zeros
pub unit_is : (k j : ℕ) → k ≤ 16 → j < 16 → take k (set (replicate 16 0) j 1) ≡ unit k j
unit_is k j few low =
    let xs = set (replicate 16 0) j 1 in
    let long : length xs ≡ 16 = length-set (replicate 16 0) j 1 in
    fill_by_all (λ p. cond (eqb p j) 1 0) (take k xs) k 0 (length-take-le k xs (omega arith))
    (λ p h. get_or-take k xs p 0 h ∙ ⊎_elim
    (λ e. ap (λ s. get_or xs s 0) e ∙ get_or-set_same (replicate 16 0) j 1 0 low ∙ sym (cond-true (eqb p j) 1 0 (eq-eqb p j e)))
    (λ ne. get_or-set_other (replicate 16 0) j p 1 0 ne ∙ get_or-replicate 16 p 0 0 (omega arith) ∙ sym (cond-false (eqb p j) 1 0 (ne_eqb p j ne)))
    (cases_eq p j))
