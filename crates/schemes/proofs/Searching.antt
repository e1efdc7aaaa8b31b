-- The weight of the codeword of a message that is one symbol longer than its head.
use Rattle.std.proofs.Common.{◌≡◌, ℕ, zero, suc, ◌+◌, ◌-◌, ◌*◌, ◌/◌, ◌^◌, ◌<◌, ◌≤◌, Bool, true, false, leb, Some, None, Option, MatchOption, add-mul, zero-mul, pow-suc, subst, ⊎_elim, List, [], ◌∷◌, ◌++◌, map, length, length-append, get_or, sym, refl, ap, ◌∙◌, arith}
use Rattle.std.specs.List.{range_with_len}
use Rattle.std.proofs.lemmas.Bool.{cases_eq, cases_lt}
use Rattle.std.proofs.lemmas.Nat.{mul-le, div-mul-add}
use Rattle.std.proofs.lemmas.List.{get_or-append_right}
use Rattle.std.proofs.lemmas.List.FromFn.{get_or-map-range_with_len}
use Rattle.symbols.specs.Ring.{total, added}
use Rattle.codes.specs.Code.{Code, check, term, codeword, weight, message}
use Rattle.codes.specs.Offenders.{light}
use Rattle.codes.specs.Search.{least}
use Rattle.codes.proofs.Found.{least-some, none-least, finds_first}
use Rattle.codes.proofs.Messages.{message_last}
use Rattle.codes.proofs.Places.{weight_parts, weight_agree, distance-mono}
use Rattle.schemes.specs.Lent.{row, begun}
use Rattle.schemes.proofs.Summing.{Summed, summed_more, begun_more}

module _ (C : Code) (order : C.k ≤ C.n) (head : List ℕ) (last : ℕ) (long : length head + 1 ≡ C.k) where
  -- the message
  abbrev pub u : List ℕ
  u = head ++ (last ∷ [])

  -- how many of the message's symbols are not 0
  abbrev pub whole : ℕ
  whole = weight (length head) head + weight 1 (last ∷ [])

  -- its check symbols, from those of the head
  pub ended : (few : ℕ) (sums new : List ℕ) → C.n ≤ 64 → few ≤ C.n - C.k → length C.rows ≡ C.k * (C.n - C.k) → length sums ≡ 64
      → ((j : ℕ) → j < few → get_or sums j 0 ≡ begun C head j) → new ≡ added C.ring last (row C.rows (C.n - C.k) (C.k - 1) few) sums
      → (j : ℕ) → j < few → get_or new j 0 ≡ check C u j
  ended few sums new short low size all sum is j h =
      let at : get_or u (C.k - 1) 0 ≡ last = get_or-append_right head (last ∷ []) (length head) (C.k - 1) 0 refl (omega arith) ∙ ap (λ i. get_or (last ∷ []) i 0) (let e : C.k - 1 - length head ≡ 0 = omega arith in e) in
      let before : Summed C u few (C.k - 1) sums = (all, λ i l. sum i l ∙ sym (begun_more C head last i) ∙ ap (λ (m : ℕ). total C.ring m (term C u i)) (let e : length head ≡ C.k - 1 = omega arith in e)) in
      (summed_more C u few (C.k - 1) sums new short low (omega arith) size (is ∙ ap (λ x. added C.ring x (row C.rows (C.n - C.k) (C.k - 1) few) sums) (sym at)) before).1 j h
      ∙ ap (λ (m : ℕ). total C.ring m (term C u j)) (let e : C.k - 1 + 1 ≡ C.k = omega arith in e)

  parts : weight C.n (codeword C u) ≡ whole + weight (C.n - C.k) (map (check C u) (range_with_len 0 (C.n - C.k)))
  parts =
      ap (λ (m : ℕ). weight m (codeword C u)) (omega (arith, length-append head (last ∷ [])))
      ∙ weight_parts u (map (check C u) (range_with_len 0 (C.n - C.k))) (C.n - C.k)
      ∙ ap (λ (x : ℕ). x + weight (C.n - C.k) (map (check C u) (range_with_len 0 (C.n - C.k)))) (ap (λ (m : ℕ). weight m u) (length-append head (last ∷ [])) ∙ weight_parts head (last ∷ []) 1)

  -- no fewer of its symbols are not 0 than of the message and some check symbols
  pub heavier : (few : ℕ) (checks : List ℕ) → few ≤ C.n - C.k → ((j : ℕ) → j < few → get_or checks j 0 ≡ check C u j) → whole + weight few checks ≤ weight C.n (codeword C u)
  heavier few checks low at =
      omega (
        arith,
        parts,
        distance-mono few (C.n - C.k) (map (check C u) (range_with_len 0 (C.n - C.k))) [] low,
        weight_agree few checks (map (check C u) (range_with_len 0 (C.n - C.k))) (λ j h. at j h ∙ sym (get_or-map-range_with_len (check C u) 0 (C.n - C.k) j j 0 (omega arith) (omega arith))),
      )

  -- of the message and all check symbols as many
  pub weighed : (checks : List ℕ) → ((j : ℕ) → j < C.n - C.k → get_or checks j 0 ≡ check C u j) → whole + weight (C.n - C.k) checks ≡ weight C.n (codeword C u)
  weighed checks at =
      omega (
        arith,
        parts,
        weight_agree (C.n - C.k) checks (map (check C u) (range_with_len 0 (C.n - C.k))) (λ j h. at j h ∙ sym (get_or-map-range_with_len (check C u) 0 (C.n - C.k) j j 0 h (omega arith))),
      )

-- the messages that begin with one head, by their numbers
heads : (q k : ℕ) → 0 < q → q ^ suc k / q ≡ q ^ k
heads q k pos =
    ap (λ (x : ℕ). x / q) (let e : q ^ suc k ≡ q ^ k * q + 0 = omega (arith, pow-suc q k) in e)
    ∙ div-mul-add (q ^ k) q 0 pos

pub all_heads : (q k : ℕ) → 0 < q → 0 < k → q ^ k / q * q ≡ q ^ k
all_heads q zero pos some = absurd (omega arith)
all_heads q (suc k) pos some = ap (λ (x : ℕ). x * q) (heads q k pos) ∙ sym (pow-suc q k)

-- the test of all messages by their numbers, and that of the last symbols after a head
abbrev pub by_number : Code → ℕ → ℕ → Bool
by_number C limit y = leb (weight C.n (codeword C (message C.ring.q C.k y))) limit

abbrev pub by_last : Code → ℕ → List ℕ → ℕ → Bool
by_last C limit head last = leb (weight C.n (codeword C (head ++ (last ∷ [])))) limit

module _ (C : Code) (limit lead first : ℕ) (head : List ℕ) (some : 0 < C.k) (low : 2 ≤ C.ring.q)
    (is : head ≡ message C.ring.q (C.k - 1) lead) (few : first ≤ 1) (zero-from : lead ≡ 0 → first ≡ 1) (from-zero : first ≡ 1 → lead ≡ 0) where
  same : (last : ℕ) → last < C.ring.q → by_last C limit head last ≡ by_number C limit (lead * C.ring.q + last)
  same last h =
      ap (λ m. leb (weight C.n (codeword C m)) limit)
      (ap (λ (l : List ℕ). l ++ (last ∷ [])) is ∙ sym (message_last C.ring.q (C.k - 1) lead last h)
      ∙ ap (λ (m : ℕ). message C.ring.q m (lead * C.ring.q + last)) (let e : suc (C.k - 1) ≡ C.k = omega arith in e))

  next : (lead + 1) * C.ring.q ≡ lead * C.ring.q + C.ring.q
  next = omega (arith, add-mul lead 1 C.ring.q)

  pub past_none : least (by_last C limit head) first (C.ring.q - first) ≡ None → ((y : ℕ) → 1 ≤ y → y < lead * C.ring.q → by_number C limit y ≡ false)
      → (y : ℕ) → 1 ≤ y → y < (lead + 1) * C.ring.q → by_number C limit y ≡ false
  past_none none before y a b =
      ⊎_elim
      (λ l. before y a l)
      (λ l.
      let last = y - lead * C.ring.q in
      let zeros : lead ≡ 0 → lead * C.ring.q ≡ 0 = λ e. ap (λ (x : ℕ). x * C.ring.q) e ∙ zero-mul C.ring.q in
      let from : first ≤ last = ⊎_elim (λ e. omega (arith, e, zeros (from-zero e))) (λ ne. omega arith) (cases_eq first 1) in
      ap (by_number C limit) (let e : y ≡ lead * C.ring.q + last = omega arith in e) ∙ sym (same last (omega (arith, next)))
      ∙ none-least (by_last C limit head) first (C.ring.q - first) none last from (omega (arith, next)))
      (cases_lt y (lead * C.ring.q))

  pub found_last : (last : ℕ) → least (by_last C limit head) first (C.ring.q - first) ≡ Some last → (first ≤ last) × (last < C.ring.q) × (by_last C limit head last ≡ true) × ((y : ℕ) → first ≤ y → y < last → by_last C limit head y ≡ false)
  found_last last e =
      let f = subst (λ (r : Option ℕ). MatchOption r ((y : ℕ) → first ≤ y → y < first + (C.ring.q - first) → by_last C limit head y ≡ false) (λ x. (first ≤ x) × (x < first + (C.ring.q - first)) × (by_last C limit head x ≡ true) × ((y : ℕ) → first ≤ y → y < x → by_last C limit head y ≡ false))) e (finds_first (by_last C limit head) first (C.ring.q - first)) in
      (f.0, omega (arith, f.1), f.2, f.3)

  pub found_below : (last : ℕ) → lead < C.ring.q ^ C.k / C.ring.q → least (by_last C limit head) first (C.ring.q - first) ≡ Some last → lead * C.ring.q + last < C.ring.q ^ C.k
  found_below last h e =
      omega (arith, next, (found_last last e).1, mul-le (lead + 1) C.ring.q (C.ring.q ^ C.k / C.ring.q) C.ring.q (omega arith) (omega arith), all_heads C.ring.q C.k (omega arith) some)

  pub found : (last : ℕ) → lead < C.ring.q ^ C.k / C.ring.q → least (by_last C limit head) first (C.ring.q - first) ≡ Some last → ((y : ℕ) → 1 ≤ y → y < lead * C.ring.q → by_number C limit y ≡ false)
      → light C limit ≡ Some (lead * C.ring.q + last)
  found last h e before =
      let f = found_last last e in
      let zeros : lead ≡ 0 → lead * C.ring.q ≡ 0 = λ e. ap (λ (x : ℕ). x * C.ring.q) e ∙ zero-mul C.ring.q in
      let positive : 1 ≤ lead * C.ring.q + last = ⊎_elim (λ z. omega (arith, zero-from z, f.0)) (λ nz. omega (arith, mul-le 1 C.ring.q lead C.ring.q (omega arith) (omega arith))) (cases_eq lead 0) in
      least-some (by_number C limit) 1 (C.ring.q ^ C.k - 1) (lead * C.ring.q + last) positive (omega (arith, found_below last h e)) (sym (same last f.1) ∙ f.2)
      (λ y a b. ⊎_elim
      (λ l. before y a l)
      (λ l.
      let earlier = y - lead * C.ring.q in
      let from : first ≤ earlier = ⊎_elim (λ e. omega (arith, e, zeros (from-zero e))) (λ ne. omega arith) (cases_eq first 1) in
      ap (by_number C limit) (let e : y ≡ lead * C.ring.q + earlier = omega arith in e) ∙ sym (same earlier (omega (arith, f.1))) ∙ f.3 earlier from (omega arith))
      (cases_lt y (lead * C.ring.q)))
