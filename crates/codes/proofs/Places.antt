-- Distances and permutations of places.
use Rattle.std.proofs.Common.{◌≡◌, ℕ, zero, suc, ◌+◌, ◌-◌, ◌<◌, ◌≤◌, Bool, true, false, cond, eqb, List, [], ◌∷◌, ◌++◌, length, get_or, sym, refl, ap, ◌∙◌, ap₂, ⊎_elim, not-suc-le-zero, arith}
use Rattle.std.specs.List.{AllByRecursion}
use Rattle.std.proofs.lemmas.List.{ext_get_or, get_or_append_left, get_or-append_right}
use Rattle.std.proofs.lemmas.List.FromFn.{length-map-range_with_len, get_or-map-range_with_len}
use Rattle.std.proofs.lemmas.Bool.{true≢false, cases_eq, eq-eqb, ne_eqb, eqb-true, cond-true, cond-false, cases_Bool, cases_lt}
use Rattle.std.proofs.lemmas.Bool.Decides.{nat_tests}
use Rattle.codes.specs.Code.{distance, weight, Permutation, source, moved, returned}
use Rattle.codes.specs.Sets.{Rising}

-- 0 where two symbols agree, else 1
abbrev mark : ℕ → ℕ → ℕ
mark a b = cond (eqb a b) 0 1

mark_triangle : (a b c : ℕ) → mark a c ≤ mark a b + mark b c
mark_triangle a b c = grind (arith, nat_tests)

mark_sym : (a b : ℕ) → mark a b ≡ mark b a
mark_sym a b = grind (arith, nat_tests)

one_more : (b : Bool) (x : ℕ) → cond b x (suc x) ≡ cond b 0 1 + x
one_more true x = omega arith
one_more false x = omega arith

distance-suc : (p : ℕ) (v w : List ℕ) → distance (suc p) v w ≡ mark (get_or v p 0) (get_or w p 0) + distance p v w
distance-suc p v w = one_more (eqb (get_or v p 0) (get_or w p 0)) (distance p v w)

-- one place more
pub distance_same : (p : ℕ) (v w : List ℕ) → get_or v p 0 ≡ get_or w p 0 → distance (suc p) v w ≡ distance p v w
distance_same p v w e = cond-true (eqb (get_or v p 0) (get_or w p 0)) _ _ (eq-eqb _ _ e)

pub distance_other : (p : ℕ) (v w : List ℕ) → (get_or v p 0 ≡ get_or w p 0 → ⊥) → distance (suc p) v w ≡ suc (distance p v w)
distance_other p v w ne = cond-false (eqb (get_or v p 0) (get_or w p 0)) _ _ (ne_eqb _ _ ne)

pub distance_step : (p : ℕ) (v w : List ℕ) → distance (suc p) v w ≤ suc (distance p v w)
distance_step p v w = ⊎_elim (λ e. omega (arith, distance_same p v w e)) (λ ne. omega (arith, distance_other p v w ne)) (cases_eq (get_or v p 0) (get_or w p 0))

pub triangle : (n : ℕ) (u v w : List ℕ) → distance n u w ≤ distance n u v + distance n v w
triangle zero u v w = omega arith
triangle (suc p) u v w =
    omega (arith, triangle p u v w, mark_triangle (get_or u p 0) (get_or v p 0) (get_or w p 0), distance-suc p u w, distance-suc p u v, distance-suc p v w)

pub distance-sym : (n : ℕ) (v w : List ℕ) → distance n v w ≡ distance n w v
distance-sym zero v w = refl
distance-sym (suc p) v w = omega (arith, distance-sym p v w, mark_sym (get_or v p 0) (get_or w p 0), distance-suc p v w, distance-suc p w v)

pub distance-le : (n : ℕ) (v w : List ℕ) → distance n v w ≤ n
distance-le zero v w = omega arith
distance-le (suc n) v w = omega (arith, distance-le n v w, distance_step n v w)

-- words that agree everywhere are at distance 0, and words at distance 0 agree everywhere
pub distance-zero : (n : ℕ) (v w : List ℕ) → ((p : ℕ) → p < n → get_or v p 0 ≡ get_or w p 0) → distance n v w ≡ 0
distance-zero zero v w same = refl
distance-zero (suc n) v w same = distance_same n v w (same n (omega arith)) ∙ distance-zero n v w (λ p h. same p (omega arith))

pub zero-distance : (n : ℕ) (v w : List ℕ) → distance n v w ≡ 0 → (p : ℕ) → p < n → get_or v p 0 ≡ get_or w p 0
zero-distance zero v w none p h = absurd (not-suc-le-zero h)
zero-distance (suc n) v w none p h =
    ⊎_elim
    (λ e. ⊎_elim
    (λ l. zero-distance n v w (omega (arith, distance_same n v w e)) p l)
    (λ g. let q : p ≡ n = omega arith in rw q e)
    (cases_lt p n))
    (λ ne. absurd (omega (arith, distance_other n v w ne)))
    (cases_eq (get_or v n 0) (get_or w n 0))

pub zero_same : (n : ℕ) (v w : List ℕ) → length v ≡ n → length w ≡ n → distance n v w ≡ 0 → v ≡ w
zero_same n v w lv lw none = ext_get_or 0 v w (lv ∙ sym lw) (λ p h. zero-distance n v w none p (omega arith))

-- more places, no smaller distance
pub distance-mono : (a b : ℕ) (v w : List ℕ) → a ≤ b → distance a v w ≤ distance b v w
distance-mono a zero v w h = ap_le (omega arith)
  where
    ap_le : a ≡ 0 → distance a v w ≤ 0
    ap_le e = rw e (omega arith)
distance-mono a (suc b) v w h =
    ⊎_elim
    (λ e. rw e (omega arith))
    (λ ne. let ih = distance-mono a b v w (omega arith) in omega (arith, distance-suc b v w))
    (cases_eq a (suc b))

-- words that agree weigh the same
pub weight_agree : (n : ℕ) (v w : List ℕ) → ((p : ℕ) → p < n → get_or v p 0 ≡ get_or w p 0) → weight n v ≡ weight n w
weight_agree zero v w same = refl
weight_agree (suc n) v w same =
    omega (arith, distance-suc n v [], distance-suc n w [], weight_agree n v w (λ p h. same p (omega arith)), ap (λ x. mark x 0) (same n (omega arith)))

-- two words differ in no fewer places than m places of theirs do, from k on
pub distance_inner : (k m : ℕ) (v w x y : List ℕ) → ((j : ℕ) → j < m → get_or x j 0 ≡ get_or v (k + j) 0) → ((j : ℕ) → j < m → get_or y j 0 ≡ get_or w (k + j) 0) → distance m x y ≤ distance (k + m) v w
distance_inner k zero v w x y left right = omega arith
distance_inner k (suc m) v w x y left right =
    let shift : distance (k + suc m) v w ≡ distance (suc (k + m)) v w = ap (λ n. distance n v w) (let e : k + suc m ≡ suc (k + m) = omega arith in e) in
    omega (
      arith,
      distance_inner k m v w x y (λ j h. left j (omega arith)) (λ j h. right j (omega arith)),
      distance-suc m x y,
      distance-suc (k + m) v w,
      shift,
      ap₂ mark (left m (omega arith)) (right m (omega arith)),
    )

-- the weight of a word is that of its two parts
pub weight_parts : (a b : List ℕ) (m : ℕ) → weight (length a + m) (a ++ b) ≡ weight (length a) a + weight m b
weight_parts a b zero =
    ap (λ (n : ℕ). weight n (a ++ b)) (let e : length a + 0 ≡ length a = omega arith in e)
    ∙ weight_agree (length a) (a ++ b) a (λ p h. get_or_append_left a b 0 p h)
    ∙ omega arith
weight_parts a b (suc m) =
    ap (λ (n : ℕ). weight n (a ++ b)) (let e : length a + suc m ≡ suc (length a + m) = omega arith in e)
    ∙ omega (
      arith,
      distance-suc (length a + m) (a ++ b) [],
      distance-suc m b [],
      weight_parts a b m,
      ap (λ x. mark x 0) (get_or-append_right a b (length a) (length a + m) 0 refl (omega arith)),
      ap (λ i. mark (get_or b i 0) 0) (let e : length a + m - length a ≡ m = omega arith in e),
    )

-- the places from f on, of d, where two words differ
abbrev pub differing : ℕ → ℕ → List ℕ → List ℕ → List ℕ
differing f zero v w = []
differing f (suc d) v w = cond (eqb (get_or v f 0) (get_or w f 0)) (differing (suc f) d v w) (f ∷ differing (suc f) d v w)

length-cond : (b : Bool) (x : ℕ) (xs : List ℕ) → length (cond b xs (x ∷ xs)) ≡ cond b 0 1 + length xs
length-cond true x xs = omega arith
length-cond false x xs = omega arith

differing_more : (f d : ℕ) (v w : List ℕ) → length (differing f d v w) + distance f v w ≡ distance (f + d) v w
differing_more f zero v w = let e = ap (λ n. distance n v w) (let z : f ≡ f + 0 = omega arith in z) in omega arith
differing_more f (suc d) v w =
    let shift : distance (suc f + d) v w ≡ distance (f + suc d) v w = ap (λ n. distance n v w) (let e : suc f + d ≡ f + suc d = omega arith in e) in
    omega (arith, length-cond (eqb (get_or v f 0) (get_or w f 0)) f (differing (suc f) d v w), differing_more (suc f) d v w, distance-suc f v w, shift)

pub length-differing : (n : ℕ) (v w : List ℕ) → length (differing 0 n v w) ≡ distance n v w
length-differing n v w = omega (arith, differing_more 0 n v w, ap (λ m. distance m v w) (let e : 0 + n ≡ n = omega arith in e))

rising_cond : (b : Bool) (n f : ℕ) (ps : List ℕ) → f < n → Rising n (suc f) ps → Rising n f (cond b ps (f ∷ ps))
rising_cond true n f [] h r = tt
rising_cond true n f (p ∷ ps) h r = (omega arith, r.1, r.2)
rising_cond false n f ps h r = (omega arith, h, r)

pub differing_rising : (n f d : ℕ) (v w : List ℕ) → f + d ≡ n → Rising n f (differing f d v w)
differing_rising n f zero v w e = tt
differing_rising n f (suc d) v w e =
    rising_cond (eqb (get_or v f 0) (get_or w f 0)) n f (differing (suc f) d v w) (omega arith) (differing_rising n (suc f) d v w (omega arith))

all_of_cond : (P : ℕ → Type 0) (b : Bool) (x : ℕ) (xs : List ℕ) → AllByRecursion P (cond b xs (x ∷ xs)) → AllByRecursion P xs × (b ≡ false → P x)
all_of_cond P true x xs h = (h, λ e. absurd (true≢false e))
all_of_cond P false x xs h = (h.1, λ e. h.0)

-- at a place where a fact of all the differing places fails, the words agree
pub agree : (P : ℕ → Type 0) (f d : ℕ) (v w : List ℕ) → AllByRecursion P (differing f d v w) → (p : ℕ) → f ≤ p → p < f + d → (P p → ⊥) → get_or v p 0 ≡ get_or w p 0
agree P f zero v w all p l h no-P = absurd (omega arith)
agree P f (suc d) v w all p l h no-P =
    let parts = all_of_cond P (eqb (get_or v f 0) (get_or w f 0)) f (differing (suc f) d v w) all in
    ⊎_elim
    (λ e. ⊎_elim (λ t. rw e (eqb-true _ _ t)) (λ x. absurd (no-P (rw e (parts.1 x)))) (cases_Bool (eqb (get_or v f 0) (get_or w f 0))))
    (λ ne. agree P (suc f) d v w parts.0 p (omega arith) (omega arith) no-P)
    (cases_eq p f)

-- where σ has different values below n, the source of σ p is p
pub source_of : (n : ℕ) (σ : ℕ → ℕ) → ((p r : ℕ) → p < n → r < n → σ p ≡ σ r → p ≡ r) → (p : ℕ) → p < n → source n σ (σ p) ≡ p
source_of zero σ inj p h = absurd (not-suc-le-zero h)
source_of (suc n) σ inj p h =
    ⊎_elim
    (λ e. cond-true (eqb (σ n) (σ p)) n _ (eq-eqb (σ n) (σ p) (ap σ (sym e))) ∙ sym e)
    (λ ne. cond-false (eqb (σ n) (σ p)) n _ (ne_eqb (σ n) (σ p) (λ e. ne (sym (inj n p (omega arith) h e))))
    ∙ source_of n σ (λ a b x y e. inj a b (omega arith) (omega arith) e) p (omega arith))
    (cases_eq p n)

-- σ with its value n, if it has it below n, replaced by σ n
abbrev without : ℕ → (ℕ → ℕ) → ℕ → ℕ
without n σ p = cond (eqb (σ p) n) (σ n) (σ p)

at_top : (n : ℕ) (σ : ℕ → ℕ) (p : ℕ) → σ p ≡ n → without n σ p ≡ σ n
at_top n σ p e = cond-true (eqb (σ p) n) _ _ (eq-eqb _ _ e)

off_top : (n : ℕ) (σ : ℕ → ℕ) (p : ℕ) → (σ p ≡ n → ⊥) → without n σ p ≡ σ p
off_top n σ p e = cond-false (eqb (σ p) n) _ _ (ne_eqb _ _ e)

without_permutes : (n : ℕ) (σ : ℕ → ℕ) → Permutation (suc n) σ → Permutation n (without n σ)
without_permutes n σ perm = (below, apart)
  where
    below : (p : ℕ) → p < n → without n σ p < n
    below p l =
        ⊎_elim
        (λ e. let d : σ n ≡ n → ⊥ = λ q. (let x : p ≡ n = perm.1 p n (omega arith) (omega arith) (e ∙ sym q) in omega arith) in
        omega (arith, at_top n σ p e, perm.0 n (omega arith)))
        (λ ne. omega (arith, off_top n σ p ne, perm.0 p (omega arith)))
        (cases_eq (σ p) n)

    apart : (p r : ℕ) → p < n → r < n → without n σ p ≡ without n σ r → p ≡ r
    apart p r l m e =
        ⊎_elim
        (λ x. ⊎_elim
        (λ y. perm.1 p r (omega arith) (omega arith) (x ∙ sym y))
        (λ y. let z : n ≡ r = perm.1 n r (omega arith) (omega arith) (sym (at_top n σ p x) ∙ e ∙ off_top n σ r y) in omega arith)
        (cases_eq (σ r) n))
        (λ x. ⊎_elim
        (λ y. let z : p ≡ n = perm.1 p n (omega arith) (omega arith) (sym (off_top n σ p x) ∙ e ∙ at_top n σ r y) in omega arith)
        (λ y. perm.1 p r (omega arith) (omega arith) (sym (off_top n σ p x) ∙ e ∙ off_top n σ r y))
        (cases_eq (σ r) n))
        (cases_eq (σ p) n)

onto_more : (n : ℕ) (σ : ℕ → ℕ) → Permutation (suc n) σ → ((s : ℕ) → s < n → (p : ℕ) × (p < n) × (without n σ p ≡ s)) → (s : ℕ) → s < suc n → (p : ℕ) × (p < suc n) × (σ p ≡ s)
onto_more n σ perm smaller s h = ⊎_elim (λ e. (n, omega arith, sym e)) (λ ne. ⊎_elim (top ne) (lower ne) (cases_eq s n)) (cases_eq s (σ n))
  where
    -- σ n < n = s, so what comes from σ n under `without` comes from n under σ
    top : (s ≡ σ n → ⊥) → s ≡ n → (p : ℕ) × (p < suc n) × (σ p ≡ s)
    top ne e =
        let from = smaller (σ n) (omega (arith, perm.0 n (omega arith))) in
        (from.0, omega arith, ⊎_elim (λ x. x ∙ sym e) (λ x. absurd (let z : from.0 ≡ n = perm.1 from.0 n (omega arith) (omega arith) (sym (off_top n σ from.0 x) ∙ from.2) in omega arith)) (cases_eq (σ from.0) n))

    lower : (s ≡ σ n → ⊥) → (s ≡ n → ⊥) → (p : ℕ) × (p < suc n) × (σ p ≡ s)
    lower ne ne' =
        let from = smaller s (omega arith) in
        (from.0, omega arith, ⊎_elim (λ x. absurd (ne (sym from.2 ∙ at_top n σ from.0 x))) (λ x. sym (off_top n σ from.0 x) ∙ from.2) (cases_eq (σ from.0) n))

-- n different values below n are all the numbers below n
pub onto : (n : ℕ) (σ : ℕ → ℕ) → Permutation n σ → (s : ℕ) → s < n → (p : ℕ) × (p < n) × (σ p ≡ s)
onto zero σ perm s h = absurd (not-suc-le-zero h)
onto (suc n) σ perm s h = onto_more n σ perm (onto n (without n σ) (without_permutes n σ perm)) s h

module _ (n : ℕ) (σ : ℕ → ℕ) (perm : Permutation n σ) where
  pub moved_at : (v : List ℕ) (p : ℕ) → p < n → get_or (moved n σ v) (σ p) 0 ≡ get_or v p 0
  moved_at v p h =
      get_or-map-range_with_len (λ s. get_or v (source n σ s) 0) 0 n (σ p) (σ p) 0 (perm.0 p h) (omega arith) ∙ ap (λ r. get_or v r 0) (source_of n σ perm.1 p h)

  pub returned_moved : (v : List ℕ) → length v ≡ n → returned n σ (moved n σ v) ≡ v
  returned_moved v long =
      ext_get_or 0 _ v (length-map-range_with_len _ 0 n ∙ sym long)
      (λ p h. let l : p < n = rw (length-map-range_with_len (λ r. get_or (moved n σ v) (σ r) 0) 0 n) at h in
      get_or-map-range_with_len (λ r. get_or (moved n σ v) (σ r) 0) 0 n p p 0 l (omega arith) ∙ moved_at v p l)

  -- a word is moved v where its symbol at σ p is v's symbol at p
  pub moved_only : (v w : List ℕ) → length w ≡ n → ((p : ℕ) → p < n → get_or w (σ p) 0 ≡ get_or v p 0) → w ≡ moved n σ v
  moved_only v w long at =
      ext_get_or 0 w _ (long ∙ sym (length-map-range_with_len _ 0 n))
      (λ s h. let from = onto n σ perm s (omega arith) in
      rw (← from.2) (at from.0 from.1 ∙ sym (moved_at v from.0 from.1)))

-- Sums over the places below n, and that a permutation of the places does not change them.
abbrev sum : ℕ → (ℕ → ℕ) → ℕ
sum zero f = 0
sum (suc p) f = f p + sum p f

sum_same : (n : ℕ) (f g : ℕ → ℕ) → ((p : ℕ) → p < n → f p ≡ g p) → sum n f ≡ sum n g
sum_same zero f g same = refl
sum_same (suc n) f g same = omega (arith, same n (omega arith), sum_same n f g (λ p h. same p (omega arith)))

-- terms that differ at one place only
sum_other : (n r : ℕ) (f g : ℕ → ℕ) → r < n → ((p : ℕ) → p < n → (p ≡ r → ⊥) → f p ≡ g p) → sum n f + g r ≡ sum n g + f r
sum_other zero r f g h same = absurd (not-suc-le-zero h)
sum_other (suc n) r f g h same =
    ⊎_elim
    (λ e. let rest = sum_same n f g (λ p l. same p (omega arith) (λ q. omega arith)) in omega (arith, ap f e, ap g e))
    (λ ne. omega (arith, same n (omega arith) (λ q. ne (sym q)), sum_other n r f g (omega arith) (λ p l. same p (omega arith))))
    (cases_eq r n)

sum_without : (n : ℕ) (σ f : ℕ → ℕ) → Permutation (suc n) σ → sum n (λ p. f (σ p)) + f (σ n) ≡ sum n (λ p. f (without n σ p)) + f n
sum_without n σ f perm =
    ⊎_elim
    (λ e. let rest = sum_same n (λ p. f (σ p)) (λ p. f (without n σ p)) (λ p l. ap f (sym (off_top n σ p (λ q. let z = perm.1 p n (omega arith) (omega arith) (q ∙ sym e) in omega arith)))) in omega (arith, ap f e))
    (λ ne.
    let from = onto (suc n) σ perm n (omega arith) in
    let r = from.0 in
    let low : r < n = ⊎_elim (λ l. l) (λ l. absurd (ne (let z : r ≡ n = omega arith in ap σ (sym z) ∙ from.2))) (cases_lt r n) in
    let other = sum_other n r (λ p. f (σ p)) (λ p. f (without n σ p)) low (λ p l d. ap f (sym (off_top n σ p (λ q. d (perm.1 p r (omega arith) (omega arith) (q ∙ sym from.2)))))) in
    omega (arith, ap f (at_top n σ r from.2), ap f from.2))
    (cases_eq (σ n) n)

sum_permuted : (n : ℕ) (σ f : ℕ → ℕ) → Permutation n σ → sum n (λ p. f (σ p)) ≡ sum n f
sum_permuted zero σ f perm = refl
sum_permuted (suc n) σ f perm = omega (arith, sum_without n σ f perm, sum_permuted n (without n σ) f (without_permutes n σ perm))

distance-sum : (n : ℕ) (v w : List ℕ) → distance n v w ≡ sum n (λ p. mark (get_or v p 0) (get_or w p 0))
distance-sum zero v w = refl
distance-sum (suc n) v w = omega (arith, distance-suc n v w, distance-sum n v w)

-- a word brought back is as far from v as it was from v moved
pub distance_returned : (n : ℕ) (σ : ℕ → ℕ) → Permutation n σ → (v w : List ℕ) → distance n v (returned n σ w) ≡ distance n (moved n σ v) w
distance_returned n σ perm v w =
    distance-sum n v (returned n σ w)
    ∙ sum_same n _ (λ p. mark (get_or (moved n σ v) (σ p) 0) (get_or w (σ p) 0))
    (λ p h. ap₂ mark (sym (moved_at n σ perm v p h)) (get_or-map-range_with_len (λ r. get_or w (σ r) 0) 0 n p p 0 h (omega arith)))
    ∙ sum_permuted n σ (λ s. mark (get_or (moved n σ v) s 0) (get_or w s 0)) perm
    ∙ sym (distance-sum n (moved n σ v) w)
