-- Blocks cut from bytes one after another.
use Rattle.std.proofs.Common.{◌≡◌, ℕ, ◌+◌, ◌*◌, ◌/◌, ◌%◌, ◌<◌, ◌≤◌, min, eqb, List, ◌++◌, length, take, drop, sym, ap, ◌∙◌, ⊎_elim, arith, length-drop, length-append, add-mul}
use native.Mathlib.Nat.{le-div_iff_mul-le}
use Rattle.std.proofs.Math.Seq.{take-append_seam, drop-append_seam}
use Rattle.std.proofs.lemmas.Bool.{cases_eq, cases_lt, cond-true, cond-false, eq-eqb, ne_eqb}
use Rattle.std.proofs.lemmas.Nat.{mul-le, div-add-mod'}
use Rattle.std.proofs.lemmas.List.{take_all, drop_all, drop-drop, nil_from_length, append-nil}
use Rattle.mending.specs.Input.{piece, pieces}

module _ (n : ℕ) (bytes : List ℕ) (some : 0 < n) where
  -- the number of blocks, where the last is whole and where it is shorter
  even : length bytes % n ≡ 0 → pieces n bytes ≡ length bytes / n
  even e = ap (λ (c : ℕ). length bytes / n + c) (cond-true (eqb (length bytes % n) 0) 0 1 (eq-eqb _ _ e)) ∙ omega arith

  odd : (length bytes % n ≡ 0 → ⊥) → pieces n bytes ≡ length bytes / n + 1
  odd ne = ap (λ (c : ℕ). length bytes / n + c) (cond-false (eqb (length bytes % n) 0) 0 1 (ne_eqb _ _ ne))

  -- a block that begins before the end is one of them
  pub piece_within : (i : ℕ) → i * n < length bytes → i < pieces n bytes
  piece_within i h =
      let q = length bytes / n in
      let whole = div-add-mod' (length bytes) n in
      let low : i ≤ q = (le-div_iff_mul-le some).1 (omega arith) in
      ⊎_elim
      (λ e. ⊎_elim
      (λ l. omega (arith, even e))
      (λ l. absurd (omega (arith, mul-le q n i n l (omega arith))))
      (cases_lt i q))
      (λ ne. omega (arith, odd ne))
      (cases_eq (length bytes % n) 0)

  -- and none begins at the end or past it
  pub pieces_past : (i : ℕ) → length bytes ≤ i * n → i ≤ pieces n bytes → i ≡ pieces n bytes
  pieces_past i h l =
      let q = length bytes / n in
      let whole = div-add-mod' (length bytes) n in
      ⊎_elim
      (λ e. ⊎_elim
      (λ k. absurd (omega (arith, mul-le (i + 1) n q n (omega arith) (omega arith), add-mul i 1 n)))
      (λ k. omega (arith, even e))
      (cases_lt i q))
      (λ ne. ⊎_elim
      (λ k. absurd (omega (arith, mul-le i n q n (omega arith) (omega arith))))
      (λ k. omega (arith, odd ne))
      (cases_lt i (q + 1)))
      (cases_eq (length bytes % n) 0)

  module _ (i : ℕ) (rest block after : List ℕ) (is : rest ≡ drop (i * n) bytes) (cut : rest ≡ block ++ after) (size : length block ≡ min n (length rest)) where
    -- the next block, and what is left after it
    pub piece_is : block ≡ piece n bytes i
    piece_is =
        ⊎_elim
        (λ l. let z : length after ≡ 0 = omega (arith, ap length cut, length-append block after) in
        sym (ap (take n) (sym is) ∙ take_all n rest (omega arith) ∙ cut ∙ ap (λ (ys : List ℕ). block ++ ys) (nil_from_length after z) ∙ append-nil block))
        (λ l. sym (ap (take n) (sym is ∙ cut) ∙ ap (λ (m : ℕ). take m (block ++ after)) (let z : n ≡ length block = omega arith in z) ∙ take-append_seam block after))
        (cases_lt (length rest) n)

    pub rest_is : after ≡ drop ((i + 1) * n) bytes
    rest_is =
        ⊎_elim
        (λ l. let z : length after ≡ 0 = omega (arith, ap length cut, length-append block after) in
        nil_from_length after z ∙ sym (drop_all ((i + 1) * n) bytes (omega (arith, ap length is, length-drop (i * n) bytes, add-mul i 1 n))))
        (λ l. sym (drop-append_seam block after) ∙ ap (λ (m : ℕ). drop m (block ++ after)) (let z : length block ≡ n = omega arith in z) ∙ ap (drop n) (sym cut ∙ is) ∙ drop-drop n (i * n) bytes ∙ ap (λ (m : ℕ). drop m bytes) (omega (arith, add-mul i 1 n)))
        (cases_lt (length rest) n)
