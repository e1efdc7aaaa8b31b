-- Words that are compared with codewords.
use Rattle.std.proofs.Common.{◌≡◌, ℕ, ◌≤◌, Bool, true, false, ◌-◌, ◌<◌, List, ◌++◌, map, length, get_or, take, drop, Decides, sym, refl, ap, ◌∙◌, arith}
use Rattle.std.proofs.lemmas.Bool.{false≢true, eq-eqb, ne_eqb}
use Rattle.std.specs.List.{range_with_len}
use Rattle.std.proofs.lemmas.List.FromFn.{fill_by_all}
use Rattle.codes.specs.Code.{Code, check, codeword, is_codeword}
use Rattle.codes.proofs.Places.{distance-zero, zero_same}
use Rattle.codes.proofs.Words.{length-codeword}
use Rattle.std.proofs.lemmas.List.{length-take-le, take-append-drop, drop_at}

-- an answer that decides whether a word is the codeword of its first symbols is the test for it
pub own_codeword : (C : Code) → C.k ≤ C.n → (w : List ℕ) → length w ≡ C.n → (r : Bool) → Decides r (codeword C (take C.k w) ≡ w) → r ≡ is_codeword C w
own_codeword C fits w long true d =
    sym (eq-eqb _ _ (distance-zero C.n w (codeword C (take C.k w)) (λ p h. ap (λ l. get_or l p 0) (sym (d.0 refl)))))
own_codeword C fits w long false d =
    sym (ne_eqb _ _ (λ z. false≢true (d.1 (sym (zero_same C.n w (codeword C (take C.k w)) long (length-codeword C (take C.k w) (length-take-le C.k w (omega arith)) fits) z)))))

-- the same of an answer that decides whether the check symbols are the word's own
pub own_checks : (C : Code) → C.k ≤ C.n → (w checks : List ℕ) → length w ≡ C.n → length checks ≡ C.n - C.k
    → ((j : ℕ) → j < C.n - C.k → get_or checks j 0 ≡ check C (take C.k w) j) → (r : Bool) → Decides r (checks ≡ drop C.k w) → r ≡ is_codeword C w
own_checks C fits w checks long wide at r d =
    let u = take C.k w in
    let all : checks ≡ map (check C u) (range_with_len 0 (C.n - C.k)) = fill_by_all (check C u) checks (C.n - C.k) 0 wide at in
    let lu : length u ≡ C.k = length-take-le C.k w (omega arith) in
    own_codeword C fits w long r (
      (λ e. ap (λ (l : List ℕ). u ++ l) (sym all ∙ d.0 e) ∙ take-append-drop C.k w),
      (λ e. d.1 (all ∙ sym (drop_at u (map (check C u) (range_with_len 0 (C.n - C.k))) C.k lu) ∙ ap (drop C.k) e)),
    )
