-- What refusals 13 to 16 say, and the three things that a call of correct can do.
use Rattle.std.proofs.Common.{◌≡◌, ℕ, ◌-◌, ◌*◌, ◌<◌, ◌≤◌, Bool, true, false, cond, not, ◌&&◌, ltb, leb, List, length, get_or, is_some, Some, None, Err, Option, sym, refl, arith}
use Rattle.std.specs.Option.{option_map, option_or}
use Rattle.std.proofs.lemmas.Bool.{true≢false, and_from, eq-eqb, and_parts, lt-ltb, le-ltb, eqb-true, cond-true, cond-false}
use Rattle.std.proofs.lemmas.Bool.Decides.{nat_tests}
use Rattle.faults.specs.Refusal.{Refusal, refuse}
use Rattle.codes.specs.Code.{Symbols}
use Rattle.codes.proofs.Found.{none-least, least-none}
use Rattle.promises.specs.Scheme.{Scheme, Handed, Counts}
use Rattle.promises.specs.Trial.{excess}
use Rattle.promises.specs.Calls.{Correcting, fits, sized, objection, reason, Finds, Loses, Corrects, refuses, finds, loses}
use Rattle.promises.specs.Promise.{formed}

-- what follows where refusals 13 to 15 say nothing
opened : (a b : Bool) (o : Option Refusal) (r s : Refusal) → cond a (cond b o (Some s)) (Some r) ≡ None → (a ≡ true) × (b ≡ true) × (o ≡ None)
opened true true o r s e = (refl, refl, e)
opened true false o r s e = absurd (grind arith)
opened false b o r s e = absurd (grind arith)

placed : (o : Option ℕ) → option_map (λ (p : ℕ). refuse 15 p 0) o ≡ None → o ≡ None
placed None e = refl
placed (Some p) e = absurd (grind arith)

leb_false : (a b : ℕ) → leb a b ≡ false → b < a
leb_false a b e = grind (arith, nat_tests)

gt_leb : (a b : ℕ) → b < a → leb a b ≡ false
gt_leb a b h = grind (arith, nat_tests)

below_from : (q : ℕ) (xs : List ℕ) → excess q xs ≡ None → (j : ℕ) → j < length xs → get_or xs j 0 < q
below_from q xs e j h = leb_false q _ (none-least (λ p. leb q (get_or xs p 0)) 0 (length xs) e j (omega arith) (omega arith))

pub accepted : (S : Scheme) (h : Handed) (size : ℕ) (input output : List ℕ) → objection S h size input output ≡ None
    → (fits S h ≡ true) × Symbols S.q size input
accepted S h size input output e =
    let (a, b, c) = opened (fits S h) (sized S size input output) (option_map (λ (p : ℕ). refuse 15 p 0) (excess S.q input)) (refuse 13 0 0) (refuse 14 0 0) e in
    let long : length input ≡ size = eqb-true _ _ (and_parts _ _ b).0 in
    (a, (long, λ p l. below_from S.q input (placed _ c) p (omega arith)))

-- a block is well formed where refusals 13 to 16 say nothing, and only there
formed_is : (o : Option Refusal) (b : Bool) (s : Refusal) → option_or o (cond b None (Some s)) ≡ None → (o ≡ None) × ((not (is_some o) && b) ≡ true)
formed_is None true s e = (refl, refl)
formed_is None false s e = absurd (grind arith)
formed_is (Some r) b s e = absurd (grind arith)

unformed : (o : Option Refusal) (b : Bool) (s r : Refusal) → option_or o (cond b None (Some s)) ≡ Some r → (not (is_some o) && b) ≡ false
unformed None true s r e = absurd (grind arith)
unformed None false s r e = refl
unformed (Some p) b s r e = refl

pub formed_at : (S : Scheme) (came : ℕ) (x : Correcting) → reason S came x ≡ None → (objection S x.handed S.n x.block x.before ≡ None) × (formed S came x ≡ true)
formed_at S came x = formed_is (objection S x.handed S.n x.block x.before) (ltb came 1000000) (refuse 16 0 0)

pub unformed_at : (S : Scheme) (came : ℕ) (x : Correcting) (r : Refusal) → reason S came x ≡ Some r → formed S came x ≡ false
unformed_at S came x = unformed (objection S x.handed S.n x.block x.before) (ltb came 1000000) (refuse 16 0 0)

-- where they say nothing, sizes are the scheme's
pub measured : (S : Scheme) (h : Handed) (size : ℕ) (input output : List ℕ) → objection S h size input output ≡ None
    → (h.ring.q ≡ S.q) × (h.list.places ≡ S.n) × (h.list.count ≡ S.m) × (length h.rows ≡ S.k * (S.n - S.k)) × (length output ≡ S.n)
measured S h size input output e =
    let (a, b, c) = opened (fits S h) (sized S size input output) (option_map (λ (p : ℕ). refuse 15 p 0) (excess S.q input)) (refuse 13 0 0) (refuse 14 0 0) e in
    let (x, y) = and_parts _ _ a in
    let (z, w) = and_parts _ _ y in
    let (u, v) = and_parts _ _ w in
    (eqb-true _ _ x, eqb-true _ _ z, eqb-true _ _ u, eqb-true _ _ v, eqb-true _ _ (and_parts _ _ b).1)

reason_some : (o p : Option Refusal) (r : Refusal) → o ≡ Some r → option_or o p ≡ Some r
reason_some None p r e = absurd (grind arith)
reason_some (Some s) p r e = e

reason_none : (o p q : Option Refusal) → o ≡ None → p ≡ q → option_or o p ≡ q
reason_none None p q e f = f
reason_none (Some s) p q e f = absurd (grind arith)

module _ (S : Scheme) (c : Counts) (x : Correcting) where
  pub step_objects : (r : Refusal) → objection S x.handed S.n x.block x.before ≡ Some r → x.answer ≡ Err r → x.after ≡ x.before → Corrects S c x c
  step_objects r o a w = refuses r (reason_some _ _ r o) (record { answers = a; word = w; tally = refl })

  pub step_full : objection S x.handed S.n x.block x.before ≡ None → 1000000 ≤ c.blocks → x.answer ≡ Err (refuse 16 0 0) → x.after ≡ x.before → Corrects S c x c
  step_full o h a w =
      refuses (refuse 16 0 0) (reason_none _ _ (Some (refuse 16 0 0)) o (cond-false (ltb c.blocks 1000000) None (Some (refuse 16 0 0)) (le-ltb c.blocks 1000000 h)))
      (record { answers = a; word = w; tally = refl })

  clear : objection S x.handed S.n x.block x.before ≡ None → c.blocks < 1000000 → reason S c.blocks x ≡ None
  clear o h = reason_none _ _ None o (cond-true (ltb c.blocks 1000000) None (Some (refuse 16 0 0)) (lt-ltb c.blocks 1000000 h))

  pub step_finds : (after : Counts) (i : ℕ) → objection S x.handed S.n x.block x.before ≡ None → c.blocks < 1000000 → Finds S c x after i → Corrects S c x after
  step_finds after i o h f = finds (clear o h) i f

  pub step_loses : (after : Counts) → objection S x.handed S.n x.block x.before ≡ None → c.blocks < 1000000 → Loses S c x after → Corrects S c x after
  step_loses after o h f = loses (clear o h) f

-- symbols below q in words of the right sizes: nothing is objected
excess_of : (q : ℕ) (xs : List ℕ) → ((j : ℕ) → j < length xs → get_or xs j 0 < q) → excess q xs ≡ None
excess_of q xs below = least-none (λ p. leb q (get_or xs p 0)) 0 (length xs) (λ j l h. gt_leb q _ (below j (omega arith)))

nothing_said : (a b : Bool) (o : Option ℕ) (r s : Refusal) → a ≡ true → b ≡ true → o ≡ None → cond a (cond b (option_map (λ (p : ℕ). refuse 15 p 0) o) (Some s)) (Some r) ≡ None
nothing_said true true None r s e f g = refl
nothing_said true true (Some p) r s e f g = absurd (grind arith)
nothing_said true false o r s e f g = absurd (true≢false (sym f))
nothing_said false b o r s e f g = absurd (true≢false (sym e))

pub fits_from : (S : Scheme) (h : Handed) → h.ring.q ≡ S.q → h.list.places ≡ S.n → h.list.count ≡ S.m → length h.rows ≡ S.k * (S.n - S.k) → fits S h ≡ true
fits_from S h a b c d = and_from _ _ (eq-eqb _ _ a) (and_from _ _ (eq-eqb _ _ b) (and_from _ _ (eq-eqb _ _ c) (eq-eqb _ _ d)))

pub nothing_objected : (S : Scheme) (h : Handed) (size : ℕ) (input output : List ℕ) → fits S h ≡ true → Symbols S.q size input → length output ≡ S.n
    → objection S h size input output ≡ None
nothing_objected S h size input output fit (long, below) room =
    nothing_said (fits S h) (sized S size input output) (excess S.q input) (refuse 13 0 0) (refuse 14 0 0) fit
    (and_from _ _ (eq-eqb _ _ long) (eq-eqb _ _ room)) (excess_of S.q input (λ j h. below j (omega arith)))

-- so the block is well formed where there is room in the tally
pub well_from : (S : Scheme) (came : ℕ) (x : Correcting) → fits S x.handed ≡ true → Symbols S.q S.n x.block → length x.before ≡ S.n → came < 1000000 → formed S came x ≡ true
well_from S came x fit block room h =
    (formed_at S came x
    (reason_none _ _ None (nothing_objected S x.handed S.n x.block x.before fit block room) (cond-true (ltb came 1000000) None (Some (refuse 16 0 0)) (lt-ltb came 1000000 h)))).1
