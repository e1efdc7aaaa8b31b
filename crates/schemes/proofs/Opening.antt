-- The last places for which no mask is found yet, as the bits of a number.
use Rattle.std.proofs.Common.{◌≡◌, ℕ, suc, ◌+◌, ◌-◌, ◌*◌, ◌/◌, ◌%◌, ◌^◌, ◌<◌, ◌≤◌, min, ◌⊎◌, List, [], ◌∷◌, ◌++◌, length, get_or, take, sym, ap, ◌∙◌, subst, inl, inr, arith}
use native.Mathlib.Nat.{zero-div}
use lib.Bits.{bit_and}
use Rattle.std.proofs.lemmas.List.{take_more, length-take-le}
use Rattle.codes.specs.Sets.{Rising, SetOf, bits}
use Rattle.codes.specs.Steps.{Skipped}
use Rattle.codes.proofs.Bit.{bit-and, and_last, front_rising, ones_from}
use Rattle.codes.proofs.Visited.{skipped_rest, later_rising}

-- one of the first i masks has neither the place p nor a place of `head`
abbrev pub Free : List ℕ → ℕ → ℕ → ℕ → Type 0
Free masks head i p = (k : ℕ) × (k < i) × (bit_and (get_or masks k 0) head ≡ 0) × ((get_or masks k 0 / 2 ^ p) % 2 ≡ 0)

-- each place from `from` on that is no bit of `rest` is found
abbrev pub Open : List ℕ → ℕ → ℕ → ℕ → ℕ → Type 0
Open masks head from rest i = (p : ℕ) → from ≤ p → p < 64 → (rest / 2 ^ p) % 2 ≡ 0 → Free masks head i p

module _ (masks : List ℕ) (head from : ℕ) where
  pub open_none : Open masks head from ((2 ^ 64 - 1) * 2 ^ from % 2 ^ 64) 0
  open_none p l h z = absurd (omega (arith, ones_from from p l h))

  pub open_same : (rest i : ℕ) → Open masks head from rest i → Open masks head from rest (i + 1)
  open_same rest i inv p l h z = let f = inv p l h z in (f.0, omega arith, f.2, f.3)

  lesser : (a b : ℕ) → min a b ≡ 0 → (a ≡ 0) ⊎ (b ≡ 0)
  lesser a b e = search arith

  pub open_more : (rest i : ℕ) → bit_and (get_or masks i 0) head ≡ 0 → Open masks head from rest i → Open masks head from (bit_and rest (get_or masks i 0)) (i + 1)
  open_more rest i free inv p l h z =
      elim (lesser ((rest / 2 ^ p) % 2) ((get_or masks i 0 / 2 ^ p) % 2) (sym (bit-and rest (get_or masks i 0) p) ∙ z)) [
        | inl e ↦ open_same rest i inv p l h e
        | inr e ↦ (i, omega arith, free, e)
      ]

  pub open_all : (rest i m : ℕ) → rest ≡ 0 → i ≤ m → Open masks head from rest i → (p : ℕ) → from ≤ p → p < 64 → Free masks head m p
  open_all rest i m e few inv p l h =
      let f = inv p l h (ap (λ (y : ℕ). (y / 2 ^ p) % 2) e ∙ ap (λ (y : ℕ). y % 2) (zero-div (2 ^ p))) in
      (f.0, omega arith, f.2, f.3)

-- a set is its front and its last place
pub front_last : (set : List ℕ) (t : ℕ) → 0 < t → t ≤ length set → take t set ≡ take (t - 1) set ++ (get_or set (t - 1) 0 ∷ [])
front_last set t some long =
    ap (λ (k : ℕ). take k set) (let z : t ≡ t - 1 + 1 = omega arith in z) ∙ take_more set (t - 1) 0 (omega arith)

pub front_set : (n t : ℕ) (set : List ℕ) → 0 < t → t ≤ length set → SetOf n t (take t set) → SetOf n (t - 1) (take (t - 1) set) × (get_or set (t - 1) 0 < n)
front_set n t set some long s =
    let r = subst (Rising n 0) (front_last set t some long) s.1 in
    ((length_of, front_rising n 0 (take (t - 1) set) (get_or set (t - 1) 0) r), last n 0 (take (t - 1) set) (get_or set (t - 1) 0) r)
  where
    length_of : length (take (t - 1) set) ≡ t - 1
    length_of = length-take-le (t - 1) set (omega arith)

    last : (n f : ℕ) (xs : List ℕ) (p : ℕ) → Rising n f (xs ++ (p ∷ [])) → p < n
    last n f [] p h = h.1
    last n f (x ∷ xs) p h = last n (suc x) xs p h.2

-- all sets with the same front are missed
pub skipped_free : (masks : List ℕ) (m n t : ℕ) (set end : List ℕ) → 0 < t → t ≤ length set → n ≤ 64 → 0 < n → SetOf n t (take t set)
    → ((p : ℕ) → get_or set (t - 1) 0 ≤ p → p < 64 → Free masks (bits (take (t - 1) set)) m p)
    → end ≡ take (t - 1) set ++ ((n - 1) ∷ []) → Skipped masks m n t (take t set) end
skipped_free masks m n t set end some long few pos s free is =
    let xs = take (t - 1) set in
    let p = get_or set (t - 1) 0 in
    let e = front_last set t some long in
    let q = subst (SetOf n t) e s in
    let below = (front_set n t set some long s).1 in
    subst (λ (l : List ℕ). Skipped masks m n t l end) (sym e)
    (subst (Skipped masks m n t (xs ++ (p ∷ []))) (sym is)
    (skipped_rest masks m n t xs p (n - 1) q (omega arith) (omega arith)
    (λ y l h. let f = free y l (omega arith) in (f.0, f.1, and_last n 0 (get_or masks f.0 0) y xs (later_rising n 0 xs p y q.1 l h) f.2 f.3))))
