-- A trial that finds no offender has found what it tests, and the other way round.
use Rattle.std.proofs.Common.{◌≡◌, ℕ, zero, suc, ◌+◌, ◌-◌, ◌*◌, ◌^◌, ◌<◌, ◌≤◌, Bool, true, false, not, ◌||◌, eqb, leb, List, [], ◌∷◌, length, get_or, take, is_some, Some, None, Option, sym, refl, ap, ◌∙◌, subst, ⊎_elim, arith}
use Rattle.std.proofs.lemmas.Bool.{true≢false, cases_eq, cases_lt, cases_Bool, eq-eqb, ne_eqb, eqb-true, eqb-false, cond-true, cond-false}
use Rattle.std.proofs.lemmas.Bool.Decides.{nat_tests}
use Rattle.std.proofs.lemmas.List.FromFn.{length-map-range_with_len}
use Rattle.std.proofs.lemmas.List.{length-take-le, get_or-take}
use Rattle.symbols.specs.Ring.{RingRules}
use Rattle.codes.specs.Code.{Code, codeword, Codeword, Symbols, distance, weight, is_codeword, message, unit, Permutation, moved, Clears}
use Rattle.codes.specs.Search.{least}
use Rattle.codes.specs.Sets.{Rising, clears, cleared, uncleared, FirstFailing}
use Rattle.codes.specs.Offenders.{clashes, bad_place, bad_entry, light, unkept_unit, unkept}
use Rattle.codes.proofs.Words.{length-codeword}
use Rattle.codes.proofs.Places.{onto, moved_at, zero_same, distance-zero}
use Rattle.codes.proofs.Decoding.{codeword_of_itself}
use Rattle.codes.proofs.Linear.{codeword_below, unit_symbols}
use Rattle.codes.proofs.Found.{least-none, none-least, least_with-none, none-least_with, only_first}
use Rattle.codes.proofs.Messages.{number, below_from, message_symbols, message-number, number_below, zeros_number, number_zeros}
use Rattle.codes.proofs.Enumerated.{enumerates}

or_false : (a b : Bool) → (a || b) ≡ false → (a ≡ false) × (b ≡ false)
or_false true b e = absurd (true≢false e)
or_false false b e = (refl, e)

some-none : {A : Type 0} (o : Option A) → is_some o ≡ false → o ≡ None
some-none None e = refl
some-none (Some x) e = absurd (true≢false e)

leb_false : (a b : ℕ) → leb a b ≡ false → b < a
leb_false a b e = grind (arith, nat_tests)

le-leb : (a b : ℕ) → a ≤ b → leb a b ≡ true
le-leb a b h = grind (arith, nat_tests)

gt_leb : (a b : ℕ) → b < a → leb a b ≡ false
gt_leb a b h = grind (arith, nat_tests)

-- no position clashes: a permutation
pub permutes_from : (n : ℕ) (σ : ℕ → ℕ) → bad_place n σ ≡ None → Permutation n σ
permutes_from n σ none = (λ p h. leb_false n (σ p) (parts p h).0, apart)
  where
    parts : (p : ℕ) → p < n → (leb n (σ p) ≡ false) × (is_some (least (λ s. eqb (σ s) (σ p)) 0 p) ≡ false)
    parts p h = or_false (leb n (σ p)) _ (none-least (clashes n σ) 0 n none p (omega arith) (omega arith))

    earlier : (s p : ℕ) → s < p → p < n → σ s ≡ σ p → ⊥
    earlier s p l h e =
        eqb-false (σ s) (σ p) (none-least (λ s. eqb (σ s) (σ p)) 0 p (some-none _ (parts p h).1) s (omega arith) (omega arith)) e

    apart : (p r : ℕ) → p < n → r < n → σ p ≡ σ r → p ≡ r
    apart p r hp hr e =
        ⊎_elim (λ q. q) (λ ne. ⊎_elim (λ l. absurd (earlier p r l hr e)) (λ l. absurd (earlier r p (omega arith) hp (sym e))) (cases_lt p r)) (cases_eq p r)

-- a permutation has no position that clashes
pub clash_none : (n : ℕ) (σ : ℕ → ℕ) → Permutation n σ → bad_place n σ ≡ None
clash_none n σ perm =
    least-none (clashes n σ) 0 n
    (λ p l h. ap (λ b. b || is_some (least (λ s. eqb (σ s) (σ p)) 0 p)) (gt_leb n (σ p) (perm.0 p (omega arith)))
    ∙ ap is_some (least-none (λ s. eqb (σ s) (σ p)) 0 p (λ s a b. ne_eqb (σ s) (σ p) (λ e. let q = perm.1 s p (omega arith) (omega arith) e in omega arith))))

pub all_permute : (n m : ℕ) (target : ℕ → ℕ → ℕ) → bad_entry n m target ≡ None → (i : ℕ) → i < m → Permutation n (target i)
all_permute n m target none i h = permutes_from n (target i) (none-least_with (λ i. bad_place n (target i)) 0 m none i (omega arith) (omega arith))

-- for words of n symbols below q, the test says whether one is a codeword
module _ (C : Code) (fits : C.k ≤ C.n) (w : List ℕ) (word : Symbols C.ring.q C.n w) where
  own : length (take C.k w) ≡ C.k
  own = length-take-le C.k w (omega (arith, word.0))

  pub codeword_by_test : is_codeword C w ≡ true → Codeword C w
  codeword_by_test t = (
    take C.k w,
    (own, λ p h. rw (get_or-take C.k w p 0 h) (word.1 p (omega arith))),
    zero_same C.n w (codeword C (take C.k w)) word.0 (length-codeword C (take C.k w) own fits) (eqb-true _ 0 t),
  )

  pub test_by_codeword : Codeword C w → is_codeword C w ≡ true
  test_by_codeword c = eq-eqb _ 0 (ap (distance C.n w) (codeword_of_itself C w c) ∙ distance-zero C.n w w (λ p h. refl))

module _ (C : Code) (t m : ℕ) (target : ℕ → ℕ → ℕ) (rules : RingRules C.ring) (some : 0 < C.k) (fits : C.k ≤ C.n) (permutes : (i : ℕ) → i < m → Permutation C.n (target i)) where
  pos : 0 < C.ring.q
  pos = omega (arith, rules.low)

  pub heavy_from : light C (2 * t) ≡ None → (u : List ℕ) → Symbols C.ring.q C.k u → weight C.n (codeword C u) ≤ 2 * t → (p : ℕ) → p < C.k → get_or u p 0 ≡ 0
  heavy_from none u su few p h =
      let q = C.ring.q in
      let b = below_from q u (λ r l. su.1 r (omega (arith, su.0))) in
      let x = number q u in
      let small : x < q ^ C.k = subst (λ k. number q u < q ^ k) su.0 (number_below q u b) in
      let same : message q C.k x ≡ u = ap (λ k. message q k x) (sym su.0) ∙ message-number q u b in
      ⊎_elim
      (λ z. zeros_number q u z pos p (omega (arith, su.0)))
      (λ nz. absurd (true≢false (
      sym (le-leb (weight C.n (codeword C (message q C.k x))) (2 * t) (subst (λ y. weight C.n (codeword C y) ≤ 2 * t) (sym same) few))
      ∙ none-least _ 1 (q ^ C.k - 1) none x (omega arith) (omega arith))))
      (cases_eq x 0)

  pub light_none : ((u : List ℕ) → Symbols C.ring.q C.k u → weight C.n (codeword C u) ≤ 2 * t → (p : ℕ) → p < C.k → get_or u p 0 ≡ 0) → light C (2 * t) ≡ None
  light_none heavy =
      let q = C.ring.q in
      least-none _ 1 (q ^ C.k - 1)
      (λ x l h. ⊎_elim
      (gt_leb (weight C.n (codeword C (message q C.k x))) (2 * t))
      (λ few. absurd (
      let z : x ≡ 0 = number_zeros q C.k x pos (omega arith) (heavy (message q C.k x) (message_symbols q C.k x pos) few) in
      omega arith))
      (cases_lt (2 * t) (weight C.n (codeword C (message q C.k x)))))

  -- a codeword that is moved is a word of n symbols below q
  pub moved_symbols : (σ : ℕ → ℕ) → Permutation C.n σ → (u : List ℕ) → Symbols C.ring.q C.k u → Symbols C.ring.q C.n (moved C.n σ (codeword C u))
  moved_symbols σ perm u su = (
    length-map-range_with_len _ 0 C.n,
    (λ s h. let from = onto C.n σ perm s h in
        rw (← from.2) (rw (moved_at C.n σ perm (codeword C u) from.0 from.1) (codeword_below C rules fits u su from.0 from.1))),
  )

  unit_word : (i j : ℕ) → i < m → Symbols C.ring.q C.n (moved C.n (target i) (codeword C (unit C.k j)))
  unit_word i j h = moved_symbols (target i) (permutes i h) (unit C.k j) (unit_symbols C t m target rules some fits permutes j)

  not_false : (b : Bool) → not b ≡ false → b ≡ true
  not_false true e = refl
  not_false false e = absurd (true≢false e)

  pub keeps_from : unkept C m target ≡ None → (i j : ℕ) → i < m → j < C.k → Codeword C (moved C.n (target i) (codeword C (unit C.k j)))
  keeps_from none i j h l =
      codeword_by_test C fits _ (unit_word i j h)
      (not_false _ (none-least (λ j. not (is_codeword C (moved C.n (target i) (codeword C (unit C.k j))))) 0 C.k
      (none-least_with (λ i. unkept_unit C (target i)) 0 m none i (omega arith) (omega arith)) j (omega arith) (omega arith)))

  pub unkept_none : ((i j : ℕ) → i < m → j < C.k → Codeword C (moved C.n (target i) (codeword C (unit C.k j)))) → unkept C m target ≡ None
  unkept_none keeps =
      least_with-none _ 0 m
      (λ i a h. least-none _ 0 C.k
      (λ j b l. ap not (test_by_codeword C fits _ (unit_word i j (omega arith)) (keeps i j (omega arith) (omega arith)))))

-- the test whether a set is cleared
pub clears_by_test : (k : ℕ) (σ : ℕ → ℕ) (ps : List ℕ) → clears k σ ps ≡ true → Clears k σ ps
clears_by_test k σ [] e = tt
clears_by_test k σ (p ∷ ps) e =
    ⊎_elim
    (λ t. (grind (arith, nat_tests), clears_by_test k σ ps (sym (cond-true (leb k (σ p)) _ _ t) ∙ e)))
    (λ f. absurd (true≢false (sym e ∙ cond-false (leb k (σ p)) _ _ f)))
    (cases_Bool (leb k (σ p)))

pub test_by_clears : (k : ℕ) (σ : ℕ → ℕ) (ps : List ℕ) → Clears k σ ps → clears k σ ps ≡ true
test_by_clears k σ [] c = refl
test_by_clears k σ (p ∷ ps) c = cond-true (leb k (σ p)) _ _ (le-leb k (σ p) c.0) ∙ test_by_clears k σ ps c.1

pub cleared_by_test : (k : ℕ) (target : ℕ → ℕ → ℕ) (a m : ℕ) (ps : List ℕ) → cleared k target a m ps ≡ true → (i : ℕ) × (a ≤ i) × (i < a + m) × Clears k (target i) ps
cleared_by_test k target a zero ps e = absurd (true≢false (sym e))
cleared_by_test k target a (suc m) ps e =
    ⊎_elim
    (λ t. (a, omega arith, omega arith, clears_by_test k (target a) ps t))
    (λ f.
    let (i, l, h, c) = cleared_by_test k target (suc a) m ps (sym (cond-false (clears k (target a) ps) _ _ f) ∙ e) in
    (i, omega arith, omega arith, c))
    (cases_Bool (clears k (target a) ps))

pub test_by_cleared : (k : ℕ) (target : ℕ → ℕ → ℕ) (a m i : ℕ) (ps : List ℕ) → a ≤ i → i < a + m → Clears k (target i) ps → cleared k target a m ps ≡ true
test_by_cleared k target a zero i ps l h c = absurd (omega arith)
test_by_cleared k target a (suc m) i ps l h c =
    ⊎_elim
    (λ t. cond-true (clears k (target a) ps) _ _ t)
    (λ f. ⊎_elim
    (λ e. absurd (true≢false (sym (test_by_clears k (target a) ps (subst (λ x. Clears k (target x) ps) (sym e) c)) ∙ f)))
    (λ ne. cond-false (clears k (target a) ps) _ _ f ∙ test_by_cleared k target (suc a) m i ps (omega arith) (omega arith) c)
    (cases_eq a i))
    (cases_Bool (clears k (target a) ps))

pub cleared_from : (n k t m : ℕ) (target : ℕ → ℕ → ℕ) → uncleared n k t m target ≡ None → (ps : List ℕ) → length ps ≡ t → Rising n 0 ps → (i : ℕ) × (i < m) × Clears k (target i) ps
cleared_from n k t m target none ps long set =
    let all = subst (FirstFailing (cleared k target 0 m) n 0 t) none (enumerates (cleared k target 0 m) n t) in
    let (i, l, h, c) = cleared_by_test k target 0 m ps (all ps long set) in
    (i, omega arith, c)

pub cleared_none : (n k t m : ℕ) (target : ℕ → ℕ → ℕ) → ((ps : List ℕ) → length ps ≡ t → Rising n 0 ps → (i : ℕ) × (i < m) × Clears k (target i) ps) → uncleared n k t m target ≡ None
cleared_none n k t m target all =
    only_first (cleared k target 0 m) n 0 t _ None (enumerates (cleared k target 0 m) n t)
    (λ ps long set. let (i, h, c) = all ps long set in test_by_cleared k target 0 m i ps (omega arith) (omega arith) c)
