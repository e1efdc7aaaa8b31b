-- Check symbols that are summed row by row.
use Rattle.std.proofs.Common.{◌≡◌, ℕ, suc, ◌+◌, ◌-◌, ◌*◌, ◌<◌, ◌≤◌, cond, ltb, List, [], ◌∷◌, ◌++◌, length, get_or, drop, replicate, length-drop, sym, refl, ap, ◌∙◌, ap₂, suc-mul, add-one, arith, lt-ltb}
use lib.ListN.{get_or-replicate}
use Rattle.std.proofs.lemmas.Nat.{mul-le}
use Rattle.std.proofs.lemmas.List.{length-take-le, get_or-take, get_or-drop, get_or_append_left}
use Rattle.std.proofs.lemmas.List.FromFn.{length-map-range_with_len, get_or-map-range_with_len}
use Rattle.symbols.specs.Ring.{RingRules, plus, times, total, added}
use Rattle.symbols.proofs.Sums.{total_below, total_same, zero-times, plus-zero}
use Rattle.codes.specs.Code.{Code, term, check}
use Rattle.schemes.specs.Lent.{row, begun}

-- row i of k rows lies within them
pub row_fits : (i k w size : ℕ) → i < k → size ≡ k * w → i * w + w ≤ size
row_fits i k w size h e = omega (arith, suc-mul i w, mul-le (suc i) w k w h (omega arith))

pub length-row : (rows : List ℕ) (w i few : ℕ) → i * w + few ≤ length rows → length (row rows w i few) ≡ few
length-row rows w i few fits = length-take-le _ (drop (i * w) rows) (omega (arith, length-drop (i * w) rows)) ∙ omega arith

pub get_or-row : (rows : List ℕ) (w i few j : ℕ) → j < few → get_or (row rows w i few) j 0 ≡ get_or rows (i * w + j) 0
get_or-row rows w i few j h = get_or-take _ (drop (i * w) rows) j 0 (omega arith) ∙ get_or-drop (i * w) rows j 0

-- the sums of the first i rows, for the first `few` check symbols
abbrev pub Summed : Code → List ℕ → ℕ → ℕ → List ℕ → Type 0
Summed C u few i sums = (length sums ≡ 64) × ((j : ℕ) → j < few → get_or sums j 0 ≡ total C.ring i (term C u j))

-- a message of k symbols has its own check symbols
pub begun_whole : (C : Code) (u : List ℕ) (j : ℕ) → length u ≡ C.k → begun C u j ≡ check C u j
begun_whole C u j long = ap (λ (m : ℕ). total C.ring m (term C u j)) long

-- what a message of one symbol more sums up to before that symbol
pub begun_more : (C : Code) (u : List ℕ) (last j : ℕ) → total C.ring (length u) (term C (u ++ (last ∷ [])) j) ≡ begun C u j
begun_more C u last j =
    total_same C.ring (length u) _ _ (λ i h. ap (λ x. times C.ring x (get_or C.rows (i * (C.n - C.k) + j) 0)) (get_or_append_left u (last ∷ []) 0 i h))

module _ (C : Code) (u : List ℕ) (few : ℕ) where
  pub summed_none : few ≤ 64 → Summed C u few 0 (replicate 64 0)
  summed_none low = (refl, λ j h. get_or-replicate 64 j 0 0 (omega arith))

  pub summed_more : (i : ℕ) (sums new : List ℕ) → C.n ≤ 64 → few ≤ C.n - C.k → i < C.k → length C.rows ≡ C.k * (C.n - C.k)
      → new ≡ added C.ring (get_or u i 0) (row C.rows (C.n - C.k) i few) sums → Summed C u few i sums → Summed C u few (i + 1) new
  summed_more i sums new short low h size is (all, sum) =
      let w = C.n - C.k in
      let x = get_or u i 0 in
      let codes = row C.rows w i few in
      let wide : length codes ≡ few = length-row C.rows w i few (omega (arith, row_fits i C.k w (length C.rows) h size)) in (
        ap length is ∙ length-map-range_with_len _ 0 (length sums) ∙ all,
        λ j h.
            ap (λ l. get_or l j 0) is
            ∙ get_or-map-range_with_len (λ j. cond (ltb j (length codes)) (plus C.ring (get_or sums j 0) (times C.ring x (get_or codes j 0))) (get_or sums j 0)) 0 (length sums) j j 0 (omega arith) (omega arith)
            ∙ ap (λ b. cond b (plus C.ring (get_or sums j 0) (times C.ring x (get_or codes j 0))) (get_or sums j 0)) (lt-ltb j (length codes) (omega arith))
            ∙ ap₂ (plus C.ring) (sum j h) (ap (times C.ring x) (get_or-row C.rows w i few j h))
            ∙ ap (λ (m : ℕ). total C.ring m (term C u j)) (sym (add-one i)),
      )

  pub summed_same : (i : ℕ) (sums : List ℕ) → RingRules C.ring → get_or u i 0 ≡ 0 → Summed C u few i sums → Summed C u few (i + 1) sums
  summed_same i sums rules z (all, sum) = (
    all,
    λ j h.
        sum j h
        ∙ sym (plus-zero C.ring rules (total C.ring i (term C u j)) (total_below C.ring rules i (term C u j)))
        ∙ ap (plus C.ring (total C.ring i (term C u j)))
        (sym (ap (λ x. times C.ring x (get_or C.rows (i * (C.n - C.k) + j) 0)) z ∙ zero-times C.ring rules (get_or C.rows (i * (C.n - C.k) + j) 0)))
        ∙ ap (λ (m : ℕ). total C.ring m (term C u j)) (sym (add-one i)),
  )
