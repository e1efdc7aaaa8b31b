-- Words that are taken by a permutation, and the positions that show that there is none.
use Rattle.std.proofs.Common.{◌≡◌, ℕ, ◌<◌, ◌≤◌, Bool, true, false, eqb, List, length, get_or, take, replicate, is_some, Some, sym, refl, ap, ◌∙◌, arith}
use lib.ListN.{get_or-replicate}
use Rattle.std.proofs.lemmas.List.{get_or-take, length-take-le}
use Rattle.std.proofs.lemmas.Bool.{true≢false, eq-eqb, ne_eqb}
use Rattle.lists.specs.Told.{told}
use Rattle.codes.specs.Code.{Permutation}
use Rattle.codes.specs.Offenders.{clashes, bad_place}
use Rattle.codes.proofs.Places.{moved_only}
use Rattle.codes.proofs.Found.{least-some, least-none}
use Rattle.schemes.specs.Takes.{Taken, Takes}
use Rattle.schemes.proofs.Bounds.{le-leb, gt_leb, or_left, or_right, or_neither}

-- after the first p positions, which have different targets below n: the targets that came
pub record Come (n : ℕ) (σ : ℕ → ℕ) (p : ℕ) (came : List Bool) : Type 0 where
  pub long : length came ≡ 64
  pub below : (r : ℕ) → r < p → σ r < n
  pub comes : (r : ℕ) → r < p → get_or came (σ r) false ≡ true
  pub back : (s : ℕ) → s < 64 → get_or came s false ≡ true → (r : ℕ) × (r < p) × (σ r ≡ s)
  pub once : (a b : ℕ) → a < p → b < p → σ a ≡ σ b → a ≡ b

-- and the word so far
pub record Moving (n : ℕ) (σ : ℕ → ℕ) (p : ℕ) (came : List Bool) (v word : List ℕ) : Type 0 where
  pub come : Come n σ p came
  pub long : length word ≡ 64
  pub moves : (r : ℕ) → r < p → get_or word (σ r) 0 ≡ get_or v r 0

module _ (n : ℕ) (σ : ℕ → ℕ) (few : n ≤ 64) where
  pub come_none : Come n σ 0 (replicate 64 false)
  come_none = record {
    long = refl;
    below = λ r h. absurd (omega arith);
    comes = λ r h. absurd (omega arith);
    back = λ s h e. absurd (true≢false (sym e ∙ get_or-replicate 64 s false false h));
    once = λ a b h _ _. absurd (omega arith);
  }

  -- no earlier position clashes
  clear : (p : ℕ) (came : List Bool) → Come n σ p came → (r : ℕ) → r < p → clashes n σ r ≡ false
  clear p came c r h =
      or_neither _ _ (gt_leb n (σ r) (c.below r h))
      (ap is_some (least-none (λ s. eqb (σ s) (σ r)) 0 r (λ y _ l. ne_eqb _ _ (λ e. let z = c.once y r (omega arith) h e in omega arith))))

  bad_at : (p : ℕ) (came : List Bool) → p < n → clashes n σ p ≡ true → Come n σ p came → bad_place n σ ≡ Some p
  bad_at p came h here c = least-some (clashes n σ) 0 n p (omega arith) (omega arith) here (λ y _ l. clear p came c y l)

  -- a target of n or more, and one that came before
  pub bad_high : (p to : ℕ) (came : List Bool) → p < n → to ≡ σ p → n ≤ to → Come n σ p came → bad_place n σ ≡ Some p
  bad_high p to came h is high c = bad_at p came h (or_left _ _ (le-leb n (σ p) (omega arith))) c

  pub bad_twice : (p to : ℕ) (came : List Bool) → p < n → to ≡ σ p → to < n → get_or came to false ≡ true → Come n σ p came → bad_place n σ ≡ Some p
  bad_twice p to came h is low taken c =
      let old = c.back to (omega arith) taken in
      bad_at p came h
      (or_right _ _ (ap is_some
      (least-some (λ s. eqb (σ s) (σ p)) 0 p old.0 (omega arith) (omega arith) (eq-eqb _ _ (old.2 ∙ is))
      (λ y _ l. ne_eqb _ _ (λ e. let z = c.once y old.0 (omega arith) (omega arith) (e ∙ sym is ∙ sym old.2) in omega arith))))) c

  pub moving_none : (v : List ℕ) → Moving n σ 0 (replicate 64 false) v (replicate 64 0)
  moving_none v = record { come = come_none; long = refl; moves = λ r h. absurd (omega arith) }

  pub moving_all : (came : List Bool) (v : List ℕ) (x : Taken) → ((p : ℕ) → p < n → told x.targets p ≡ Some (σ p)) → Moving n σ n came v x.word → Takes n σ v x
  moving_all came v x goes m =
      let perm : Permutation n σ = (m.come.below, m.come.once) in
      record {
        permutes = perm;
        goes = goes;
        moves = moved_only n σ perm v (take n x.word) (length-take-le n x.word (omega (arith, m.long)))
            (λ p h. get_or-take n x.word (σ p) 0 (m.come.below p h) ∙ m.moves p h);
      }
