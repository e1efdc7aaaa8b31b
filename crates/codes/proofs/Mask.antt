-- A mask grows by one bit.
use Rattle.std.proofs.Common.{◌≡◌, ℕ, suc, ◌+◌, ◌-◌, ◌*◌, ◌/◌, ◌%◌, ◌^◌, ◌<◌, Bool, true, false, cond, ◌⊎◌, sym, ap, ◌∙◌, subst, inl, inr, mul_comm, pow-suc, add-one, arith, pow_pos, pow-add}
use native.Mathlib.Nat.{add-mul-div_left, add-mul-mod_self_left, div-eq_of_lt}
use lib.Bits.{bit_or, or_shifted_r}
use Rattle.std.proofs.lemmas.Nat.{one_shl, shr_high}

lower : (z x : ℕ) → z < x + 1 → (z < x) ⊎ (z ≡ x)
lower z x h = search arith

-- the first p bits of the mask are those of the test
abbrev pub Grown : ℕ → ℕ → (ℕ → Bool) → Type 0
Grown p mask f = (mask < 2 ^ p) × ((j : ℕ) → j < p → (mask / 2 ^ j) % 2 ≡ cond (f j) 1 0)

power_step : (p : ℕ) → 2 ^ (p + 1) ≡ 2 ^ p * 2
power_step p = ap (λ (k : ℕ). 2 ^ k) (add-one p) ∙ pow-suc 2 p

-- a bit below p does not see 2 ^ p
low_bit : (p j m : ℕ) → j < p → ((1 * 2 ^ p + m) / 2 ^ j) % 2 ≡ (m / 2 ^ j) % 2
low_bit p j m h =
    let d = p - j - 1 in
    let e : 1 * 2 ^ p + m ≡ m + 2 ^ j * (2 * 2 ^ d) =
    (let q : 2 ^ p ≡ 2 ^ j * 2 ^ (suc d) = ap (λ (k : ℕ). 2 ^ k) (omega arith) ∙ pow-add 2 j (suc d) in
    let s : 2 ^ j * 2 ^ (suc d) ≡ 2 ^ j * (2 * 2 ^ d) = ap (λ (y : ℕ). 2 ^ j * y) (pow-suc 2 d ∙ mul_comm (2 ^ d) 2) in
    omega arith) in
    ap (λ (y : ℕ). (y / 2 ^ j) % 2) e ∙ ap (λ (y : ℕ). y % 2) (add-mul-div_left m (2 * 2 ^ d) (pow_pos j)) ∙ add-mul-mod_self_left (m / 2 ^ j) 2 (2 ^ d)

pub grown_set : (p m : ℕ) (f : ℕ → Bool) → p < 64 → Grown p m f → f p ≡ true → Grown (p + 1) (bit_or m ((1 * 2 ^ p) % 2 ^ 64)) f
grown_set p m f h g t =
    let e : bit_or m ((1 * 2 ^ p) % 2 ^ 64) ≡ 1 * 2 ^ p + m = ap (λ (y : ℕ). bit_or m y) (one_shl p 64 h ∙ omega arith) ∙ or_shifted_r 1 p m g.0 in
    subst (λ (y : ℕ). Grown (p + 1) y f) (sym e) (
      omega (arith, power_step p, g.0),
      (λ j b. elim (lower j p b) [
        | inl l ↦ low_bit p j m l ∙ g.1 j l
        | inr q ↦ subst (λ (i : ℕ). ((1 * 2 ^ p + m) / 2 ^ i) % 2 ≡ cond (f i) 1 0) (sym q)
            (ap (λ (y : ℕ). y % 2) (shr_high 1 p m g.0) ∙ ap (λ (c : Bool). cond c 1 0) (sym t))
      ]),
    )

pub grown_clear : (p m : ℕ) (f : ℕ → Bool) → Grown p m f → f p ≡ false → Grown (p + 1) m f
grown_clear p m f g t = (
  omega (arith, power_step p, g.0),
  (λ j b. elim (lower j p b) [
    | inl l ↦ g.1 j l
    | inr q ↦ subst (λ (i : ℕ). (m / 2 ^ i) % 2 ≡ cond (f i) 1 0) (sym q)
        (ap (λ (y : ℕ). y % 2) (div-eq_of_lt g.0) ∙ ap (λ (c : Bool). cond c 1 0) (sym t))
  ]),
)
