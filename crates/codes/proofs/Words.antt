-- The places of a codeword, and the step of a loop that writes a list place by place.
use Rattle.std.proofs.Common.{◌≡◌, ℕ, ◌+◌, ◌-◌, ◌<◌, ◌≤◌, List, length, get_or, take, sym, ◌∙◌, arith, length-append}
use Rattle.std.proofs.lemmas.List.{take_all, get_or_append_left, get_or-append_right, take_at}
use Rattle.std.proofs.lemmas.List.FromFn.{length-map-range_with_len, get_or-map-range_with_len}
use Rattle.codes.specs.Code.{Code, check, codeword}

pub write_all : (out d : List ℕ) (i : ℕ) → length out ≤ i → length d ≤ i → take i out ≡ take i d → out ≡ d
write_all out d i h h' e = sym (take_all i out h) ∙ e ∙ take_all i d h'

module _ (C : Code) (u : List ℕ) (long : length u ≡ C.k) where
  pub length-codeword : C.k ≤ C.n → length (codeword C u) ≡ C.n
  length-codeword h = length-append u _ ∙ simp (length-map-range_with_len, long) (omega arith)

  pub codeword-message : (p : ℕ) → p < C.k → get_or (codeword C u) p 0 ≡ get_or u p 0
  codeword-message p h = get_or_append_left u _ 0 p (rw long h)

  pub codeword-check : (j : ℕ) → j < C.n - C.k → get_or (codeword C u) (C.k + j) 0 ≡ check C u j
  codeword-check j h =
      get_or-append_right u _ C.k (C.k + j) 0 long (omega arith)
      ∙ get_or-map-range_with_len (check C u) 0 (C.n - C.k) (C.k + j - C.k) j 0 (omega arith) (omega arith)

  pub take-codeword : take C.k (codeword C u) ≡ u
  take-codeword = take_at u _ C.k long
