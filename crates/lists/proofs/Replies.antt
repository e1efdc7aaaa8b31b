-- Replies of a list, and targets that are asked for at once.
use Rattle.std.proofs.Common.{◌≡◌, ℕ, ◌+◌, ◌*◌, ◌%◌, ◌<◌, ◌≤◌, min, cond, ltb, ◌≢◌, ◌⊎◌, List, ◌++◌, length, get_or, set, Some, None, sym, ap, ◌∙◌, ap₂, inl, inr, mul-add, mod-lt, arith, below_more, le-ltb, lt-ltb}
use native.Mathlib.Nat.{add-mod, add-mod-mod}
use Rattle.std.proofs.lemmas.List.{get_or-set_same, get_or-set_other}
use Rattle.std.proofs.Math.ListN.{get_or-append}
use Rattle.std.proofs.lemmas.Bool.Decides.{nat_tests}
use Rattle.lists.specs.Meaning.{Meaning, reply}

lower : (z x : ℕ) → (z < x) ⊎ (x ≤ z)
lower z x = search arith

module _ (M : Meaning) (i : ℕ) where
  pub reply_within : (p : ℕ) → i < M.count → p < M.places → reply M i p ≡ Some (M.target i p)
  reply_within p h l = ap₂ (λ x y. cond x (cond y (Some (M.target i p)) None) None) (lt-ltb _ _ h) (lt-ltb _ _ l)

  pub reply_no_number : (p : ℕ) → M.count ≤ i → reply M i p ≡ None
  reply_no_number p h = ap (λ x. cond x (cond (ltb p M.places) (Some (M.target i p)) None) None) (le-ltb _ _ h)

  pub reply_no_position : (p : ℕ) → M.places ≤ p → reply M i p ≡ None
  reply_no_position p h =
      elim (lower i M.count) [
        | inl l ↦ ap₂ (λ x y. cond x (cond y (Some (M.target i p)) None) None) (lt-ltb _ _ l) (le-ltb _ _ h)
        | inr l ↦ reply_no_number p l
      ]

  -- a reply that is there
  pub replied : (p x : ℕ) → Some x ≡ reply M i p → (i < M.count) × (p < M.places) × (x ≡ M.target i p)
  replied p x e = grind (arith, nat_tests)

  -- the targets of the first places
  abbrev pub Asked : ℕ → List ℕ → Type 0
  Asked p places = (r : ℕ) → r < p → (i < M.count) × (get_or places r 0 ≡ M.target i r)

  pub asked_more : (p to : ℕ) (places : List ℕ) → p < length places → i < M.count → to ≡ M.target i p → Asked p places → Asked (p + 1) (set places p to)
  asked_more p to places h l is all =
      below_more _ _
      (λ r b. let ne : r ≢ p = omega arith in (l, get_or-set_other places p r to 0 ne ∙ (all r b).1))
      (l, get_or-set_same places p to 0 h ∙ is)

  -- these targets, in the first of 64 places, tell what the list replies
  pub all_told : (n k : ℕ) (places rest : List ℕ) → n ≡ min M.places 64 → length places ≡ n → n ≤ k → Asked k places → (p : ℕ) → p < 64
      → cond (ltb p n) (cond (ltb p 64) (Some (get_or (places ++ rest) p 0)) None) None ≡ reply M i p
  all_told n k places rest e long end all p h =
      elim (lower p n) [
        | inl l ↦ ap₂ (λ x y. cond x (cond y (Some (get_or (places ++ rest) p 0)) None) None) (lt-ltb _ _ l) (lt-ltb _ _ h)
            ∙ ap Some (get_or-append places rest 0 p (omega arith) ∙ (all p (omega arith)).1) ∙ sym (reply_within p (all p (omega arith)).0 (omega arith))
        | inr l ↦ ap (λ x. cond x (cond (ltb p 64) (Some (get_or (places ++ rest) p 0)) None) None) (le-ltb _ _ l) ∙ sym (reply_no_position p (omega arith))
      ]

-- one multiple more of a power
pub multiple_more : (power p n : ℕ) → ((power * p) % n + (power * 1) % n) % n ≡ (power * (p + 1)) % n
multiple_more power p n = sym (add-mod (power * p) (power * 1) n) ∙ ap (λ x. x % n) (sym (mul-add power p 1))

-- a position further by a turn that is reduced
pub turned : (n s j p turn to : ℕ) → 0 < n → n ≤ 255 → turn ≡ (s * j) % n → to ≡ (p + turn) % n → to ≡ min ((p + s * j) % n) 255
turned n s j p turn to pos short is e =
    let low : (p + s * j) % n < n = mod-lt (p + s * j) pos in
    e ∙ ap (λ x. (p + x) % n) is ∙ add-mod-mod p (s * j) n ∙ omega arith
