-- A search through all sets of t of n places, in dictionary order, for one that has not the property P.
use Rattle.std.proofs.Common.{◌≡◌, ℕ, suc, ◌-◌, ◌^◌, ◌<◌, ◌≤◌, ◌⊎◌, List, [], ◌∷◌, ◌++◌, length, sym, refl, ap, ◌∙◌, subst, inl, inr, arith}
use Rattle.codes.specs.Sets.{Rising, SetOf, Before}
use Rattle.codes.specs.Steps.{run, Last, Next, Missed, Skipped}
use Rattle.codes.proofs.Order.{value, next_between, last_top, run_first, next_length, next_places, next_before, value_before, value_below, run_length, run_places}

pub first_set : (n t : ℕ) → t ≤ n → SetOf n t (run 0 t)
first_set n t h = (run_length 0 t, run_places n 0 0 t (omega arith) (omega arith))

pub next_set : (n t : ℕ) (xs ys : List ℕ) → Next n xs ys → SetOf n t xs → SetOf n t ys
next_set n t xs ys s p = (next_length n xs ys s ∙ p.0, next_places n 0 xs ys s p.1)

pub falls : (n t : ℕ) (xs ys : List ℕ) → n ≤ 64 → Next n xs ys → SetOf n t xs → 64 ^ t - value ys < 64 ^ t - value xs
falls n t xs ys h s p =
    let q = next_set n t xs ys s p in
    let v = value_before n 0 xs ys h (p.0 ∙ sym q.0) p.1 (next_before n xs ys s) in
    let b : value ys < 64 ^ t = subst (λ (k : ℕ). value ys < 64 ^ k) q.0 (value_below n 0 ys h q.1) in
    omega arith

module _ (n t : ℕ) (P : List ℕ → Type 0) where
  -- every set before xs has P
  abbrev pub Seen : List ℕ → Type 0
  Seen xs = (ys : List ℕ) → SetOf n t ys → Before ys xs → P ys

  pub seen_none : Seen (run 0 t)
  seen_none ys s b = absurd (run_first n 0 t ys s.0 s.1 b)

  pub seen_more : (xs ys : List ℕ) → Next n xs ys → SetOf n t xs → P xs → Seen xs → Seen ys
  seen_more xs ys s p h seen zs z b =
      elim (next_between n 0 xs ys zs s (z.0 ∙ sym p.0) z.1 b) [ inl c ↦ seen zs z c | inr e ↦ subst P (sym e) h ]

  pub seen_all : (xs : List ℕ) → Last n xs → SetOf n t xs → P xs → Seen xs → (zs : List ℕ) → SetOf n t zs → P zs
  seen_all xs l p h seen zs z =
      elim (last_top n 0 xs zs l (z.0 ∙ sym p.0) z.1) [ inl c ↦ seen zs z c | inr e ↦ subst P (sym e) h ]

-- the sets that begin as xs does, and have another last place
pub later_rising : (n f : ℕ) (xs : List ℕ) (p z : ℕ) → Rising n f (xs ++ (p ∷ [])) → p ≤ z → z < n → Rising n f (xs ++ (z ∷ []))
later_rising n f [] p z h l b = (omega arith, b, tt)
later_rising n f (x ∷ xs) p z h l b = (h.0, h.1, later_rising n (suc x) xs p z h.2 l b)

length_front : (xs : List ℕ) (p : ℕ) → length (xs ++ (p ∷ [])) ≡ suc (length xs)
length_front [] p = refl
length_front (x ∷ xs) p = ap suc (length_front xs p)

lower : (z x : ℕ) → (z < x) ⊎ (x ≤ z)
lower z x = search arith

-- what comes before the set with the last place z comes before that with the last place p, or begins as it does and lies between
between_last : (n f : ℕ) (xs ys : List ℕ) (p z : ℕ) → length ys ≡ suc (length xs) → Rising n f ys → Before ys (xs ++ (z ∷ []))
    → Before ys (xs ++ (p ∷ [])) ⊎ ((y : ℕ) × (ys ≡ xs ++ (y ∷ [])) × (p ≤ y) × (y < z))
between_last n f [] [] p z e r b = absurd b
between_last n f [] (y ∷ []) p z e r (inl b) = elim (lower y p) [ inl l ↦ inl (inl l) | inr l ↦ inr (y, refl, l, b) ]
between_last n f [] (y ∷ []) p z e r (inr b) = absurd b.1
between_last n f [] (y ∷ (w ∷ ys)) p z e r b = absurd (omega arith)
between_last n f (x ∷ xs) [] p z e r b = absurd b
between_last n f (x ∷ xs) (y ∷ ys) p z e r (inl b) = inl (inl b)
between_last n f (x ∷ xs) (y ∷ ys) p z e r (inr b) =
    elim (between_last n (suc y) xs ys p z (omega arith) r.2 b.1) [
      | inl c ↦ inl (inr (b.0, c))
      | inr c ↦ inr (c.0, pair y x ys (xs ++ (c.0 ∷ [])) b.0 c.1, c.2, c.3)
    ]
  where
    pair : (y x : ℕ) (ys zs : List ℕ) → y ≡ x → ys ≡ zs → y ∷ ys ≡ x ∷ zs
    pair y x ys zs e h = cc

module _ (n t : ℕ) (P : List ℕ → Type 0) where
  -- every set up to the last place z of those that begin as xs does has P
  pub seen_later : (xs : List ℕ) (p z : ℕ) → SetOf n t (xs ++ (p ∷ [])) → p ≤ z → z < n
      → Seen n t P (xs ++ (p ∷ [])) → ((y : ℕ) → p ≤ y → y < n → P (xs ++ (y ∷ []))) → Seen n t P (xs ++ (z ∷ []))
  seen_later xs p z set l b seen all ys s before =
      elim (between_last n 0 xs ys p z (s.0 ∙ sym set.0 ∙ length_front xs p) s.1 before) [
        | inl c ↦ seen ys s c
        | inr c ↦ subst P (sym c.1) (all c.0 c.2 (omega arith))
      ]

pub later_set : (n t : ℕ) (xs : List ℕ) (p z : ℕ) → SetOf n t (xs ++ (p ∷ [])) → p ≤ z → z < n → SetOf n t (xs ++ (z ∷ []))
later_set n t xs p z set l b = (length_front xs z ∙ sym (length_front xs p) ∙ set.0, later_rising n 0 xs p z set.1 l b)

-- from a set to a later one that begins as it does
pub skipped_rest : (masks : List ℕ) (m n t : ℕ) (xs : List ℕ) (p z : ℕ) → SetOf n t (xs ++ (p ∷ [])) → p ≤ z → z < n
    → ((y : ℕ) → p ≤ y → y < n → Missed masks m (xs ++ (y ∷ []))) → Skipped masks m n t (xs ++ (p ∷ [])) (xs ++ (z ∷ []))
skipped_rest masks m n t xs p z set l b all =
    record {
      set = later_set n t xs p z set l b;
      later = later_last xs p z l;
      seen = λ here before. (all z l b, seen_later n t (Missed masks m) xs p z set l b before all);
    }
  where
    later_last : (xs : List ℕ) (p z : ℕ) → p ≤ z → (xs ++ (p ∷ []) ≡ xs ++ (z ∷ [])) ⊎ Before (xs ++ (p ∷ [])) (xs ++ (z ∷ []))
    later_last [] p z l = elim (lower p z) [ inl h ↦ inr (inl h) | inr h ↦ inl (ap (λ (x : ℕ). x ∷ []) (omega arith)) ]
    later_last (x ∷ xs) p z l = elim (later_last xs p z l) [ inl e ↦ inl (ap (λ (ys : List ℕ). x ∷ ys) e) | inr h ↦ inr (inr (refl, h)) ]

-- the measure of a search falls from a set to the next of a later one
pub falls_later : (n t : ℕ) (xs zs ys : List ℕ) → n ≤ 64 → (xs ≡ zs) ⊎ Before xs zs → Next n zs ys → SetOf n t xs → SetOf n t zs → 64 ^ t - value ys < 64 ^ t - value xs
falls_later n t xs zs ys h (inl e) s p q = subst (λ (l : List ℕ). 64 ^ t - value ys < 64 ^ t - value l) (sym e) (falls n t zs ys h s q)
falls_later n t xs zs ys h (inr b) s p q =
    let v = value_before n 0 xs zs h (p.0 ∙ sym q.0) p.1 b in
    let f = falls n t zs ys h s q in
    omega arith
