-- What a trial finds none of, and that it finds nothing exactly where code and list serve.
use Rattle.std.proofs.Common.{◌≡◌, ℕ, ◌-◌, ◌*◌, ◌<◌, ◌≤◌, Bool, true, false, cond, ◌&&◌, eqb, length, Some, None, Option, sym, refl, ap, ◌∙◌}
use Rattle.std.specs.Option.{option_map, option_or}
use Rattle.std.proofs.lemmas.Bool.{true≢false, eqb-true}
use Rattle.symbols.specs.Ring.{RingRules}
use Rattle.codes.specs.Code.{Permutation}
use Rattle.codes.proofs.Found.{none-some}
use Rattle.codes.proofs.Linear.{serviceable, tested_from, room}
use Rattle.codes.proofs.Offending.{all_permute, heavy_from, light_none, keeps_from, unkept_none, cleared_from, cleared_none}
use Rattle.promises.specs.Scheme.{Plan, Handed, draft_code}
use Rattle.promises.specs.Trial.{mismatch, bad_row, bad_list, no_permutation, light_message, not_kept, unfit, fails, Serves}

pub mapped_none : {A B : Type 0} (f : A → B) (o : Option A) → option_map f o ≡ None → o ≡ None
mapped_none f None e = refl
mapped_none f (Some x) e = absurd (none-some (f x) (sym e))

pub first_none : {A : Type 0} (a b : Option A) → option_or a b ≡ None → a ≡ None
first_none None b e = refl
first_none (Some x) b e = absurd (none-some x (sym e))

pub second_none : {A : Type 0} (a b : Option A) → option_or a b ≡ None → b ≡ None
second_none None b e = e
second_none (Some x) b e = absurd (none-some x (sym e))

pub both_none : {A : Type 0} (a b : Option A) → a ≡ None → b ≡ None → option_or a b ≡ None
both_none a b e f = ap (λ o. option_or o b) e ∙ f

cond-none : {A : Type 0} (b : Bool) (x : A) → cond b None (Some x) ≡ None → b ≡ true
cond-none true x e = refl
cond-none false x e = absurd (none-some x (sym e))

and_parts : (a b : Bool) → (a && b) ≡ true → (a ≡ true) × (b ≡ true)
and_parts true b e = (refl, e)
and_parts false b e = absurd (true≢false (sym e))

-- what is fit to be tried
module _ (D : Plan) (h : Handed) (fit : unfit D h ≡ None) where
  rest₁ : option_or (bad_row D h) (option_or (bad_list D h) (no_permutation D h)) ≡ None
  rest₁ = second_none (mismatch D h) _ fit

  rest₂ : option_or (bad_list D h) (no_permutation D h) ≡ None
  rest₂ = second_none (bad_row D h) _ rest₁

  same : (eqb h.ring.q D.q ≡ true) × (eqb (length h.rows) (D.k * (D.n - D.k)) ≡ true)
  same = and_parts _ _ (cond-none _ _ (first_none (mismatch D h) _ fit))

  pub fit_order : h.ring.q ≡ D.q
  fit_order = eqb-true _ _ same.0

  pub fit_size : length h.rows ≡ D.k * (D.n - D.k)
  fit_size = eqb-true _ _ same.1

  pub fit_long : h.list.places ≡ D.n
  fit_long = eqb-true _ _ (and_parts _ _ (cond-none _ _ (first_none (bad_list D h) _ rest₂))).0

  pub fit_permutes : (i : ℕ) → i < h.list.count → Permutation D.n (h.list.target i)
  fit_permutes = all_permute D.n h.list.count h.list.target (mapped_none _ _ (second_none (bad_list D h) _ rest₂))

  module _ (rules : RingRules h.ring) (some : 0 < D.k) (fits : D.k ≤ D.n) where
    pub enough_places : light_message D h ≡ None → D.t ≤ D.n
    enough_places none =
        room (draft_code D h) D.t h.list.count h.list.target rules some fits fit_permutes
        (heavy_from (draft_code D h) D.t h.list.count h.list.target rules some fits fit_permutes (mapped_none _ _ none))

    pub passes_serves : fails D h ≡ None → Serves D h
    passes_serves none =
        let C = draft_code D h in
        let later = second_none (light_message D h) _ none in
        serviceable C D.t h.list.count h.list.target rules some fits fit_permutes
        (record {
          heavy = heavy_from C D.t h.list.count h.list.target rules some fits fit_permutes (mapped_none _ _ (first_none (light_message D h) _ none));
          keeps_units = keeps_from C D.t h.list.count h.list.target rules some fits fit_permutes (mapped_none _ _ (first_none (not_kept D h) _ later));
          clears_sets = cleared_from D.n D.k D.t h.list.count h.list.target (mapped_none _ _ (second_none (not_kept D h) _ later));
        })

    pub serves_passes : Serves D h → fails D h ≡ None
    serves_passes serves =
        let C = draft_code D h in
        let tested = tested_from C D.t h.list.count h.list.target rules some fits fit_permutes serves in
        both_none _ _ (ap (option_map _) (light_none C D.t h.list.count h.list.target rules some fits fit_permutes tested.heavy))
        (both_none _ _ (ap (option_map _) (unkept_none C D.t h.list.count h.list.target rules some fits fit_permutes tested.keeps_units))
        (ap (option_map _) (cleared_none D.n D.k D.t h.list.count h.list.target tested.clears_sets)))
