-- Messages and the numbers that they stand for.
use Rattle.std.proofs.Common.{◌≡◌, ℕ, zero, suc, ◌+◌, ◌-◌, ◌*◌, ◌/◌, ◌%◌, ◌^◌, ◌<◌, ◌≤◌, List, [], ◌∷◌, ◌++◌, length, get_or, take, drop, set, sym, refl, ap, ◌∙◌, ap₂, ⊎_elim, mod-lt, mod-eq_of_lt, mul_assoc, suc-mul, mul_comm, pow-suc, arith}
use native.Mathlib.Nat.{pow-zero, div-div-eq-div-mul, div-add-mod, add-mul-div_left, add-mul-mod_self_left}
use Rattle.std.proofs.lemmas.List.{drop-set, length-take-le}
use Rattle.std.proofs.Math.Nat.{div-one}
use Rattle.std.proofs.lemmas.Nat.{mul-le, div-mul-add, div_below}
use Rattle.std.proofs.lemmas.Bool.{cases_eq}
use Rattle.codes.specs.Code.{message, Symbols}

-- symbols below q
abbrev pub Below : ℕ → List ℕ → Type 0
Below q [] = Unit {0}
Below q (u ∷ us) = (u < q) × Below q us

-- a message read as a number in base q, its first symbol leading
abbrev pub number : ℕ → List ℕ → ℕ
number q [] = 0
number q (u ∷ us) = u * q ^ length us + number q us

pub pos_pow : (q n : ℕ) → 0 < q → 0 < q ^ n
pos_pow q zero h = omega (arith, pow-zero q)
pos_pow q (suc n) h = omega (arith, pow-suc q n, mul-le 1 1 (q ^ n) q (pos_pow q n h) h)

take-set-lt : (k : ℕ) (xs : List ℕ) (i v : ℕ) → i < k → take k (set xs i v) ≡ set (take k xs) i v
take-set-lt zero xs i v h = absurd (omega arith)
take-set-lt (suc k) [] i v h = refl
take-set-lt (suc k) (x ∷ xs) zero v h = refl
take-set-lt (suc k) (x ∷ xs) (suc i) v h = ap (λ (ys : List ℕ). x ∷ ys) (take-set-lt k xs i v (omega arith))

-- one digit more, from the last on
pub message_more : (q k i x rest : ℕ) (xs : List ℕ) → 0 < i → i ≤ k → k ≤ length xs → rest ≡ x / q ^ (k - i) → drop i (take k xs) ≡ message q (k - i) x → (rest / q ≡ x / q ^ (k - (i - 1))) × (drop (i - 1) (take k (set xs (i - 1) (rest % q))) ≡ message q (k - (i - 1)) x)
message_more q k i x rest xs h l b e d =
    let up : k - (i - 1) ≡ suc (k - i) = omega arith in (
      ap (λ (y : ℕ). y / q) e ∙ div-div-eq-div-mul x (q ^ (k - i)) q ∙ ap (λ (y : ℕ). x / y) (sym (pow-suc q (k - i)) ∙ ap (λ (j : ℕ). q ^ j) (sym up)),
      ap (drop (i - 1)) (take-set-lt k xs (i - 1) (rest % q) (omega arith))
          ∙ drop-set (take k xs) (i - 1) (rest % q) (omega (arith, length-take-le k xs b))
          ∙ ap (λ (j : ℕ). rest % q ∷ drop j (take k xs)) (omega arith)
          ∙ ap (λ (ys : List ℕ). rest % q ∷ ys) d
          ∙ ap (λ (y : ℕ). y % q ∷ message q (k - i) x) e
          ∙ sym (ap (λ (j : ℕ). message q j x) up),
    )

-- each message is the message of its number
pub number_below : (q : ℕ) (us : List ℕ) → Below q us → number q us < q ^ length us
number_below q [] b = omega (arith, pow-zero q)
number_below q (u ∷ us) b =
    let r = number_below q us b.1 in
    omega (arith, pow-suc q (length us), mul-le (suc u) (q ^ length us) q (q ^ length us) b.0 (omega arith), suc-mul u (q ^ length us), mul_comm (q ^ length us) q)

-- higher message do not reach the lower ones
message_high : (q n u v : ℕ) → 0 < q → message q n (u * q ^ n + v) ≡ message q n v
message_high q zero u v h = refl
message_high q (suc n) u v h =
    let pos : 0 < q ^ n = pos_pow q n h in
    let e : u * q ^ suc n + v ≡ v + q ^ n * (q * u) = omega (arith, ap (λ (y : ℕ). u * y) (pow-suc q n), mul_comm u (q ^ n * q), mul_assoc (q ^ n) q u) in
    let e' : u * q ^ suc n + v ≡ (u * q) * q ^ n + v = omega (arith, ap (λ (y : ℕ). u * y) (pow-suc q n ∙ mul_comm (q ^ n) q), mul_assoc u q (q ^ n)) in
    let head : ((u * q ^ suc n + v) / q ^ n) % q ≡ (v / q ^ n) % q =
    ap (λ (y : ℕ). (y / q ^ n) % q) e ∙ ap (λ (y : ℕ). y % q) (add-mul-div_left v (q * u) pos) ∙ add-mul-mod_self_left (v / q ^ n) q u in
    let tail : message q n (u * q ^ suc n + v) ≡ message q n v = ap (message q n) e' ∙ message_high q n (u * q) v h in
    cc

pub message-number : (q : ℕ) (us : List ℕ) → Below q us → message q (length us) (number q us) ≡ us
message-number q [] b = refl
message-number q (u ∷ us) b =
    let v = number_below q us b.1 in
    let head : ((u * q ^ length us + number q us) / q ^ length us) % q ≡ u = ap (λ (y : ℕ). y % q) (div-mul-add u (q ^ length us) (number q us) v) ∙ mod-eq_of_lt b.0 in
    let tail : message q (length us) (u * q ^ length us + number q us) ≡ us = message_high q (length us) u (number q us) (omega arith) ∙ message-number q us b.1 in
    cc

-- a message of one symbol more: its last symbol, and what its number is before that
pub message_last : (q k lead last : ℕ) → last < q → message q (suc k) (lead * q + last) ≡ message q k lead ++ (last ∷ [])
message_last q zero lead last h =
    ap (λ (y : ℕ). y ∷ [])
    (ap (λ (y : ℕ). ((lead * q + last) / y) % q) (pow-zero q) ∙ ap (λ (y : ℕ). y % q) (div-one (lead * q + last))
    ∙ ap (λ (y : ℕ). y % q) (let e : lead * q + last ≡ last + q * lead = omega (arith, mul_comm lead q) in e)
    ∙ add-mul-mod_self_left last q lead ∙ mod-eq_of_lt h)
message_last q (suc k) lead last h =
    let front : (lead * q + last) / q ^ suc k ≡ lead / q ^ k =
    ap (λ (y : ℕ). (lead * q + last) / y) (pow-suc q k ∙ mul_comm (q ^ k) q)
    ∙ sym (div-div-eq-div-mul (lead * q + last) q (q ^ k))
    ∙ ap (λ (y : ℕ). y / q ^ k) (div-mul-add lead q last h) in
    ap₂ (λ (y : ℕ) (ys : List ℕ). y % q ∷ ys) front (message_last q k lead last h)

pub message_below : (q k x : ℕ) → 0 < q → Below q (message q k x)
message_below q zero x h = tt
message_below q (suc k) x h = (mod-lt (x / q ^ k) h, message_below q k x h)

pub message-length : (q k x : ℕ) → length (message q k x) ≡ k
message-length q zero x = refl
message-length q (suc k) x = ap suc (message-length q k x)

pub below_from : (q : ℕ) (us : List ℕ) → ((p : ℕ) → p < length us → get_or us p 0 < q) → Below q us
below_from q [] h = tt
below_from q (u ∷ us) h = (h 0 (omega arith), below_from q us (λ p l. h (suc p) (omega arith)))

pub below_at : (q : ℕ) (us : List ℕ) → Below q us → (p : ℕ) → p < length us → get_or us p 0 < q
below_at q [] b p h = absurd (omega arith)
below_at q (u ∷ us) b zero h = b.0
below_at q (u ∷ us) b (suc p) h = below_at q us b.1 p (omega arith)

pub message_symbols : (q k x : ℕ) → 0 < q → Symbols q k (message q k x)
message_symbols q k x h = (message-length q k x, λ p l. below_at q (message q k x) (message_below q k x h) p (omega (arith, message-length q k x)))

-- a message of zeros has the number 0
pub zeros_number : (q : ℕ) (us : List ℕ) → number q us ≡ 0 → 0 < q → (p : ℕ) → p < length us → get_or us p 0 ≡ 0
zeros_number q [] e h p l = absurd (omega arith)
zeros_number q (u ∷ us) e h zero l =
    ⊎_elim (λ z. z) (λ nz. absurd (omega (arith, pos_pow q (length us) h, mul-le 1 (q ^ length us) u (q ^ length us) (omega arith) (omega arith)))) (cases_eq u 0)
zeros_number q (u ∷ us) e h (suc p) l = zeros_number q us (omega arith) h p (omega arith)

pub number_zeros : (q k x : ℕ) → 0 < q → x < q ^ k → ((p : ℕ) → p < k → get_or (message q k x) p 0 ≡ 0) → x ≡ 0
number_zeros q zero x h b z = omega (arith, pow-zero q)
number_zeros q (suc k) x h b z =
    let pos : 0 < q ^ k = pos_pow q k h in
    let few : x / q ^ k < q = div_below x (q ^ k) q pos (omega (arith, pow-suc q k, mul_comm (q ^ k) q)) in
    let top : x / q ^ k ≡ 0 = sym (mod-eq_of_lt few) ∙ z 0 (omega arith) in
    number_zeros q k x h (omega (arith, div-add-mod x (q ^ k), mod-lt x pos, ap (λ y. q ^ k * y) top)) (λ p l. z (suc p) (omega arith))
