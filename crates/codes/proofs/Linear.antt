-- Codewords are linear in the message: the tests of a trial, on unit messages and on weights, serve all codewords.
use Rattle.std.proofs.Common.{◌≡◌, ℕ, zero, suc, ◌+◌, ◌-◌, ◌*◌, ◌<◌, ◌≤◌, cond, eqb, List, [], map, length, get_or, take, sym, refl, ap, ◌∙◌, subst, ap₂, ⊎_elim, arith}
use Rattle.std.specs.List.{range_with_len}
use Rattle.std.proofs.lemmas.List.{ext_get_or, length-take-le, get_or-take}
use Rattle.std.proofs.lemmas.List.FromFn.{length-map-range_with_len, get_or-map-range_with_len}
use Rattle.std.proofs.lemmas.Bool.{cases_eq, cases_lt, eq-eqb, ne_eqb, cond-true, cond-false}
use Rattle.symbols.specs.Ring.{Ring, RingRules, plus, minus, times, total}
use Rattle.symbols.proofs.Sums.{total_below, total_same, total_pick, total-zero, total_swap, total-plus, times-total, total-times, times_assoc, times-one, times_zero, zero-times, times_below, plus_times, plus_below, plus_assoc, plus-minus, plus-zero, plus_comm, zero-plus, plus_cancel}
use Rattle.codes.specs.Code.{Code, term, check, codeword, Codeword, Symbols, distance, Permutation, moved, unit, weight, Clears, candidate}
use Rattle.codes.specs.Sets.{Rising}
use Rattle.codes.specs.Serviceable.{Serviceable}
use Rattle.codes.proofs.Words.{length-codeword, codeword-message, codeword-check}
use Rattle.codes.proofs.Places.{onto, moved_at, distance_same, distance_other, distance_step, distance-le}
use Rattle.codes.proofs.Wider.{widen}

-- a word that is 0 wherever two words agree weighs at most their distance
lighter : (n : ℕ) (w c d : List ℕ) → ((p : ℕ) → p < n → get_or c p 0 ≡ get_or d p 0 → get_or w p 0 ≡ 0) → weight n w ≤ distance n c d
lighter zero w c d zero_at = omega arith
lighter (suc n) w c d zero_at =
    let ih = lighter n w c d (λ p h. zero_at p (omega arith)) in
    ⊎_elim
    (λ e. omega (arith, distance_same n w [] (zero_at n (omega arith) e), distance_same n c d e))
    (λ ne. omega (arith, distance_other n c d ne, distance_step n w []))
    (cases_eq (get_or c n 0) (get_or d n 0))

module _ (C : Code) (rules : RingRules C.ring) (fits : C.k ≤ C.n) where
  -- a place is an information place or k + j
  pub places : (P : ℕ → Type 0) → ((p : ℕ) → p < C.k → P p) → ((j : ℕ) → j < C.n - C.k → P (C.k + j)) → (p : ℕ) → p < C.n → P p
  places P low high p h =
      ⊎_elim (low p) (λ le. let e : C.k + (p - C.k) ≡ p = omega arith in subst P e (high (p - C.k) (omega arith))) (cases_lt p C.k)

  pub codeword_below : (u : List ℕ) → Symbols C.ring.q C.k u → (p : ℕ) → p < C.n → get_or (codeword C u) p 0 < C.ring.q
  codeword_below u (long, below) =
      places (λ p. get_or (codeword C u) p 0 < C.ring.q) (λ p h. rw (codeword-message C u long p h) (below p h))
      (λ j h. rw (codeword-check C u long j h) (total_below C.ring rules C.k (term C u j)))

  pub unit_at : (i p : ℕ) → p < C.k → get_or (unit C.k i) p 0 ≡ cond (eqb p i) 1 0
  unit_at i p h = get_or-map-range_with_len (λ l. cond (eqb l i) 1 0) 0 C.k p p 0 h (omega arith)

  pub unit_one : (i : ℕ) → i < C.k → get_or (unit C.k i) i 0 ≡ 1
  unit_one i h = unit_at i i h ∙ cond-true (eqb i i) 1 0 (eq-eqb i i refl)

  pub unit_zero : (i p : ℕ) → p < C.k → (p ≡ i → ⊥) → get_or (unit C.k i) p 0 ≡ 0
  unit_zero i p h ne = unit_at i p h ∙ cond-false (eqb p i) 1 0 (ne_eqb p i ne)

  pub unit_long : (i : ℕ) → length (unit C.k i) ≡ C.k
  unit_long i = length-map-range_with_len (λ p. cond (eqb p i) 1 0) 0 C.k

  -- symbol p of the codeword of u is the sum of u_i times symbol p of the codeword of unit i
  pub combination : (u : List ℕ) → Symbols C.ring.q C.k u → (p : ℕ) → p < C.n
      → get_or (codeword C u) p 0 ≡ total C.ring C.k (λ i. times C.ring (get_or u i 0) (get_or (codeword C (unit C.k i)) p 0))
  combination u (long, below) =
      places (λ p. get_or (codeword C u) p 0 ≡ total C.ring C.k (λ i. times C.ring (get_or u i 0) (get_or (codeword C (unit C.k i)) p 0)))
      (λ p h.
      let R = C.ring in
      let f : ℕ → ℕ = λ i. times R (get_or u i 0) (get_or (codeword C (unit C.k i)) p 0) in
      let here : f p ≡ get_or u p 0 = ap (times R (get_or u p 0)) (codeword-message C (unit C.k p) (unit_long p) p h ∙ unit_one p h) ∙ times-one R rules _ (below p h) in
      codeword-message C u long p h ∙ sym here
      ∙ sym (total_pick R rules C.k p f h
      (λ l m ne. ap (times R (get_or u l 0)) (codeword-message C (unit C.k l) (unit_long l) p h ∙ unit_zero l p h (λ e. ne (sym e))) ∙ times_zero R rules _)
      (times_below R rules _ _)))
      (λ j h.
      let R = C.ring in
      let row : ℕ → ℕ = λ i. get_or C.rows (i * (C.n - C.k) + j) 0 in
      codeword-check C u long j h
      ∙ total_same R C.k (term C u j) _
      (λ i l.
      ap (λ x. times R x (row i)) (sym (times-one R rules (get_or u i 0) (below i l)))
      ∙ times_assoc R rules (get_or u i 0) 1 (row i)
      ∙ ap (times R (get_or u i 0))
      (ap (λ x. times R x (row i)) (sym (unit_one i l))
      ∙ sym (total_pick R rules C.k i (term C (unit C.k i) j) l
      (λ r m ne. ap (λ x. times R x (row r)) (unit_zero i r m ne) ∙ zero-times R rules (row r))
      (times_below R rules _ _))
      ∙ sym (codeword-check C (unit C.k i) (unit_long i) j h))))

  -- a word whose check symbols are those of its first k symbols is a codeword
  pub codeword_from_checks : (w : List ℕ) → Symbols C.ring.q C.n w
      → ((j : ℕ) → j < C.n - C.k → get_or w (C.k + j) 0 ≡ check C (take C.k w) j) → Codeword C w
  codeword_from_checks w (long, below) checks =
      let u = take C.k w in
      let short : length u ≡ C.k = length-take-le C.k w (omega arith) in (
        u,
        (short, λ p h. rw (get_or-take C.k w p 0 h) (below p (omega arith))),
        ext_get_or 0 w (codeword C u) (long ∙ sym (length-codeword C u short fits))
            (λ p h. places (λ r. get_or w r 0 ≡ get_or (codeword C u) r 0)
            (λ r l. sym (codeword-message C u short r l ∙ get_or-take C.k w r 0 l))
            (λ j l. checks j l ∙ sym (codeword-check C u short j l))
            p (omega arith)),
      )

  -- a codeword's check symbol from its own first symbols
  pub check_of : (c : List ℕ) → Codeword C c → (j : ℕ) → j < C.n - C.k → get_or c (C.k + j) 0 ≡ total C.ring C.k (λ l. times C.ring (get_or c l 0) (get_or C.rows (l * (C.n - C.k) + j) 0))
  check_of c (u, (long, below), e) j h =
      ap (λ w. get_or w (C.k + j) 0) e ∙ codeword-check C u long j h
      ∙ total_same C.ring C.k _ _
      (λ l m. ap (λ x. times C.ring x (get_or C.rows (l * (C.n - C.k) + j) 0)) (sym (ap (λ w. get_or w l 0) e ∙ codeword-message C u long l m)))

  -- a permutation that takes the codewords of unit messages to codewords takes all codewords to codewords
  pub keeps_all : (σ : ℕ → ℕ) → Permutation C.n σ → ((i : ℕ) → i < C.k → Codeword C (moved C.n σ (codeword C (unit C.k i))))
      → (c : List ℕ) → Codeword C c → Codeword C (moved C.n σ c)
  keeps_all σ perm units c (u, (long, below), e) =
      codeword_from_checks w (length-map-range_with_len _ 0 C.n, w_below)
      (λ j h.
      at (C.k + j) (omega arith)
      ∙ total_same R k _ _ (λ i l. ap (times R (get_or u i 0)) (check_of (M i) (units i l) j h) ∙ times-total R rules k (get_or u i 0) _
      ∙ total_same R k _ _ (λ l' m. sym (times_assoc R rules (get_or u i 0) (get_or (M i) l' 0) (row j l'))))
      ∙ total_swap R rules k k (λ i l. times R (times R (get_or u i 0) (get_or (M i) l 0)) (row j l))
      ∙ total_same R k _ _ (λ l m. sym (total-times R rules k (λ i. times R (get_or u i 0) (get_or (M i) l 0)) (row j l))
      ∙ ap (λ x. times R x (row j l)) (sym (get_or-take k w l 0 m ∙ at l (omega arith)))))
    where
      R : Ring
      R = C.ring

      k : ℕ
      k = C.k

      w : List ℕ
      w = moved C.n σ c

      M : ℕ → List ℕ
      M i = moved C.n σ (codeword C (unit C.k i))

      row : ℕ → ℕ → ℕ
      row j l = get_or C.rows (l * (C.n - C.k) + j) 0

      -- symbol s of the moved word, as a combination of the moved unit codewords
      at : (s : ℕ) → s < C.n → get_or (moved C.n σ c) s 0 ≡ total C.ring C.k (λ i. times C.ring (get_or u i 0) (get_or (moved C.n σ (codeword C (unit C.k i))) s 0))
      at s h =
          let from = onto C.n σ perm s h in
          let p = from.0 in
          rw (← from.2)
          (moved_at C.n σ perm c p from.1 ∙ ap (λ x. get_or x p 0) e ∙ combination u (long, below) p from.1
          ∙ total_same C.ring C.k _ _ (λ i l. ap (times C.ring (get_or u i 0)) (sym (moved_at C.n σ perm (codeword C (unit C.k i)) p from.1))))

      w_below : (s : ℕ) → s < C.n → get_or (moved C.n σ c) s 0 < C.ring.q
      w_below s h = rw (at s h) (total_below C.ring rules C.k _)

  -- symbol by symbol, the codeword of e plus that of v is that of u where e plus v is u
  pub codeword-plus : (e v u : List ℕ) → length e ≡ C.k → length v ≡ C.k → length u ≡ C.k → ((i : ℕ) → i < C.k → plus C.ring (get_or e i 0) (get_or v i 0) ≡ get_or u i 0)
      → (p : ℕ) → p < C.n → plus C.ring (get_or (codeword C e) p 0) (get_or (codeword C v) p 0) ≡ get_or (codeword C u) p 0
  codeword-plus e v u le lv lu sums =
      let R = C.ring in
      places (λ p. plus R (get_or (codeword C e) p 0) (get_or (codeword C v) p 0) ≡ get_or (codeword C u) p 0)
      (λ p h. ap₂ (plus R) (codeword-message C e le p h) (codeword-message C v lv p h) ∙ sums p h ∙ sym (codeword-message C u lu p h))
      (λ j h.
      ap₂ (plus R) (codeword-check C e le j h) (codeword-check C v lv j h)
      ∙ sym (total-plus R rules C.k (term C e j) (term C v j))
      ∙ total_same R C.k _ (term C u j)
      (λ i l. sym (plus_times R rules (get_or e i 0) (get_or v i 0) _) ∙ ap (λ x. times R x (get_or C.rows (i * (C.n - C.k) + j) 0)) (sums i l))
      ∙ sym (codeword-check C u lu j h))

  -- codewords of messages that differ are as far apart as a non-zero message's codeword is heavy
  pub apart_from_heavy : (limit : ℕ)
      → ((u : List ℕ) → Symbols C.ring.q C.k u → weight C.n (codeword C u) ≤ limit → (p : ℕ) → p < C.k → get_or u p 0 ≡ 0)
      → (c d : List ℕ) → Codeword C c → Codeword C d → distance C.n c d ≤ limit → c ≡ d
  apart_from_heavy limit heavy c d (u, (lu, bu), eu) (v, (lv, bv), ev) near =
      eu ∙ ap (codeword C) same ∙ sym ev
    where
      e : List ℕ
      e = map (λ i. plus C.ring (get_or u i 0) (minus C.ring (get_or v i 0))) (range_with_len 0 C.k)

      e_at : (i : ℕ) → i < C.k → get_or e i 0 ≡ plus C.ring (get_or u i 0) (minus C.ring (get_or v i 0))
      e_at i h = get_or-map-range_with_len (λ i. plus C.ring (get_or u i 0) (minus C.ring (get_or v i 0))) 0 C.k i i 0 h (omega arith)

      le : length e ≡ C.k
      le = length-map-range_with_len _ 0 C.k

      be : (i : ℕ) → i < C.k → get_or e i 0 < C.ring.q
      be i h = rw (e_at i h) (plus_below C.ring rules _ _)

      sums : (i : ℕ) → i < C.k → plus C.ring (get_or e i 0) (get_or v i 0) ≡ get_or u i 0
      sums i h =
          ap (λ x. plus C.ring x (get_or v i 0)) (e_at i h) ∙ plus_assoc C.ring rules (get_or u i 0) (minus C.ring (get_or v i 0)) (get_or v i 0)
          ∙ ap (plus C.ring (get_or u i 0)) (plus_comm C.ring rules (minus C.ring (get_or v i 0)) (get_or v i 0) ∙ plus-minus C.ring rules (get_or v i 0))
          ∙ plus-zero C.ring rules (get_or u i 0) (bu i h)

      -- where c and d agree, the codeword of e is 0
      zero_at : (p : ℕ) → p < C.n → get_or c p 0 ≡ get_or d p 0 → get_or (codeword C e) p 0 ≡ 0
      zero_at p h same_at =
          plus_cancel C.ring rules (get_or (codeword C e) p 0) 0 (get_or (codeword C v) p 0) (codeword_below e (le, be) p h) (omega (arith, rules.low))
          (codeword-plus e v u le lv lu sums p h ∙ sym (ap (λ w. get_or w p 0) eu) ∙ same_at ∙ ap (λ w. get_or w p 0) ev
          ∙ sym (zero-plus C.ring rules _ (codeword_below v (lv, bv) p h)))

      zeros : (p : ℕ) → p < C.k → get_or e p 0 ≡ 0
      zeros = heavy e (le, be) (omega (arith, lighter C.n (codeword C e) c d zero_at))

      same : u ≡ v
      same =
          ext_get_or 0 u v (lu ∙ sym lv)
          (λ p h. let l : p < C.k = omega arith in
          sym (sums p l) ∙ ap (λ x. plus C.ring x (get_or v p 0)) (zeros p l) ∙ zero-plus C.ring rules (get_or v p 0) (bv p l))

-- the word of an attempt has n symbols below q
pub candidate_symbols : (C : Code) → RingRules C.ring → C.k ≤ C.n → (σ : ℕ → ℕ) → Permutation C.n σ → (v : List ℕ) → Symbols C.ring.q C.n v
    → Symbols C.ring.q C.n (candidate C σ v)
candidate_symbols C rules fits σ perm v (long, below) = (
  length-map-range_with_len _ 0 C.n,
  (λ p h. rw (get_or-map-range_with_len (λ r. get_or (codeword C u) (σ r) 0) 0 C.n p p 0 h (omega arith)) (codeword_below C rules fits u (short, u_below) (σ p) (perm.0 p h))),
)
  where
    u : List ℕ
    u = take C.k (moved C.n σ v)

    short : length u ≡ C.k
    short = length-take-le C.k (moved C.n σ v) (rw length-map-range_with_len fits)

    u_below : (s : ℕ) → s < C.k → get_or (take C.k (moved C.n σ v)) s 0 < C.ring.q
    u_below s h =
        let from = onto C.n σ perm s (omega arith) in
        rw (get_or-take C.k (moved C.n σ v) s 0 h, ← from.2, moved_at C.n σ perm v from.0 from.1) (below from.0 from.1)

-- What a trial tests: no light codeword but that of zeros, the codewords of unit messages kept, the sets of exactly t places cleared.
pub record Tested (C : Code) (t m : ℕ) (target : ℕ → ℕ → ℕ) : Type 0 where
  pub heavy : (u : List ℕ) → Symbols C.ring.q C.k u → weight C.n (codeword C u) ≤ 2 * t → (p : ℕ) → p < C.k → get_or u p 0 ≡ 0
  pub keeps_units : (i j : ℕ) → i < m → j < C.k → Codeword C (moved C.n (target i) (codeword C (unit C.k j)))
  pub clears_sets : (places : List ℕ) → length places ≡ t → Rising C.n 0 places → (i : ℕ) × (i < m) × Clears C.k (target i) places

module _ (C : Code) (t m : ℕ) (target : ℕ → ℕ → ℕ) (rules : RingRules C.ring) (some : 0 < C.k) (fits : C.k ≤ C.n) (permutes : (i : ℕ) → i < m → Permutation C.n (target i)) where
  unit_below : (i p : ℕ) → p < C.k → get_or (unit C.k i) p 0 < C.ring.q
  unit_below i p h =
      ⊎_elim (λ e. rw (e, unit_one C rules fits i (rw e at h)) rules.low) (λ ne. rw (unit_zero C rules fits i p h ne) (omega (arith, rules.low))) (cases_eq p i)

  pub unit_symbols : (i : ℕ) → Symbols C.ring.q C.k (unit C.k i)
  unit_symbols i = (unit_long C rules fits i, unit_below i)

  -- t errors can be corrected only in at least t places
  pub room : ((u : List ℕ) → Symbols C.ring.q C.k u → weight C.n (codeword C u) ≤ 2 * t → (p : ℕ) → p < C.k → get_or u p 0 ≡ 0) → t ≤ C.n
  room heavy =
      ⊎_elim
      (λ l. omega arith)
      (λ l. absurd (
      let one = unit_one C rules fits 0 some in
      let none = heavy (unit C.k 0) (unit_symbols 0) (omega (arith, distance-le C.n (codeword C (unit C.k 0)) [])) 0 some in
      omega arith))
      (cases_lt t C.n)

  -- what passes the tests serves
  pub serviceable : Tested C t m target → Serviceable C t m target
  serviceable tested = record {
    apart = λ c d hc hd ne.
        ⊎_elim
        (λ l. l)
        (λ l. absurd (ne (apart_from_heavy C rules fits (2 * t) tested.heavy c d hc hd l)))
        (cases_lt (2 * t) (distance C.n c d));
    keeps = λ i h c. keeps_all C rules fits (target i) (permutes i h) (λ j l. tested.keeps_units i j h l) c;
    clears = λ places few set.
        let wide = widen C.n 0 C.n t places (omega arith) set few (room tested.heavy) in
        let (i, h, clear) = tested.clears_sets wide.wide wide.long wide.rises in
        (i, h, wide.holds (λ p. C.k ≤ target i p) clear);
  }

  -- the message of zeros and its codeword
  abbrev nought : ℕ → ℕ
  nought p = 0

  zeros_at : (p : ℕ) → p < C.k → get_or (map nought (range_with_len 0 C.k)) p 0 ≡ 0
  zeros_at p h = get_or-map-range_with_len nought 0 C.k p p 0 h (omega arith)

  zeros_long : length (map nought (range_with_len 0 C.k)) ≡ C.k
  zeros_long = length-map-range_with_len nought 0 C.k

  zero-codeword : (p : ℕ) → p < C.n → get_or (codeword C (map nought (range_with_len 0 C.k))) p 0 ≡ 0
  zero-codeword =
      places C rules fits (λ p. get_or (codeword C (map nought (range_with_len 0 C.k))) p 0 ≡ 0)
      (λ p h. codeword-message C (map nought (range_with_len 0 C.k)) zeros_long p h ∙ zeros_at p h)
      (λ j h. codeword-check C (map nought (range_with_len 0 C.k)) zeros_long j h
      ∙ total_same C.ring C.k _ nought (λ i l. ap (λ x. times C.ring x (get_or C.rows (i * (C.n - C.k) + j) 0)) (zeros_at i l) ∙ zero-times C.ring rules _)
      ∙ total-zero C.ring rules C.k)

  same_weight : (n : ℕ) (w z : List ℕ) → ((p : ℕ) → p < n → get_or z p 0 ≡ 0) → distance n w z ≡ weight n w
  same_weight zero w z none = refl
  same_weight (suc n) w z none =
      let ih = same_weight n w z (λ p h. none p (omega arith)) in
      ⊎_elim
      (λ e. distance_same n w z (e ∙ sym (none n (omega arith))) ∙ ih ∙ sym (distance_same n w [] e))
      (λ ne. distance_other n w z (λ e. ne (e ∙ none n (omega arith))) ∙ ap suc ih ∙ sym (distance_other n w [] ne))
      (cases_eq (get_or w n 0) 0)

  -- what serves passes the tests
  pub tested_from : Serviceable C t m target → Tested C t m target
  tested_from serves = record {
    heavy = λ u su light p h.
        ⊎_elim
        (λ z. z)
        (λ (nz : get_or u p 0 ≡ 0 → ⊥). absurd (
        let zs = map nought (range_with_len 0 C.k) in
        let hz : Codeword C (codeword C zs) = (zs, (zeros_long, λ r l. rw (zeros_at r l) (omega (arith, rules.low))), refl) in
        let hu : Codeword C (codeword C u) = (u, su, refl) in
        let ne : codeword C u ≡ codeword C zs → ⊥ =
        λ e. nz (sym (codeword-message C u su.0 p h) ∙ ap (λ w. get_or w p 0) e ∙ zero-codeword p (omega arith)) in
        let far = serves.apart (codeword C u) (codeword C zs) hu hz ne in
        omega (arith, same_weight C.n (codeword C u) (codeword C zs) zero-codeword)))
        (cases_eq (get_or u p 0) 0);
    keeps_units = λ i j h l. serves.keeps i h (codeword C (unit C.k j)) (unit C.k j, unit_symbols j, refl);
    clears_sets = λ places long set. serves.clears places (omega arith) set;
  }
