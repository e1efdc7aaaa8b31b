-- A row's multiples added to sums: the loops, the sum of residues as the code forms it, and the remainder without a division.
use Rattle.std.proofs.Common.{◌≡◌, ℕ, ◌+◌, ◌-◌, ◌*◌, ◌/◌, ◌%◌, ◌<◌, ◌≤◌, min, cond, eqb, ltb, List, length, get_or, sym, ap, ◌∙◌, mod-lt, mul_assoc, mul_comm, add-mul, mul-add, arith, eqb→eq}
use native.Mathlib.Nat.{div-add-mod, div-eq_of_lt-le, mod-add-mod, add-mod-mod}
use lib.Bits.{bit_and, bit_xor, and_step, xor_add_and}
use Rattle.std.proofs.lemmas.Nat.{mul-le, mul-mod_second}
use Rattle.std.proofs.lemmas.List.FromFn.{fill_by_all}
use Rattle.std.proofs.lemmas.Bool.Decides.{nat_tests}
use Rattle.symbols.specs.Ring.{Ring, plus, times, added, residues}
use Rattle.symbols.specs.Tests.{at₂}

-- sums that are new at the places that the row has, and the old ones elsewhere
pub added_by : (R : Ring) (f : ℕ) (row old sums : List ℕ) → length sums ≡ length old
    → ((j : ℕ) → j < length old → j < length row → get_or sums j 0 ≡ plus R (get_or old j 0) (times R f (get_or row j 0)))
    → ((j : ℕ) → length row ≤ j → get_or sums j 0 ≡ get_or old j 0) → sums ≡ added R f row old
added_by R f row old sums long new stays =
    fill_by_all (λ j. cond (ltb j (length row)) (plus R (get_or old j 0) (times R f (get_or row j 0))) (get_or old j 0)) sums (length old) 0 long
    (λ j h. let one = new j h in let two = stays j in grind (arith, nat_tests))

-- the sum of residues, from one remainder
pub sum_is : (b s f r : ℕ) → (s + f % b * r) % b ≡ plus (residues b) s (times (residues b) f r)
sum_is b s f r =
    sym (mod-add-mod s b _ ∙ add-mod-mod s _ b ∙ ap (λ x. (s + x) % b) (mul-mod_second (f % b) r b) ∙ add-mod-mod s _ b)

-- the sum of residues modulo 2, by bits
least : (x y : ℕ) → x < 2 → y < 2 → min x y ≡ x * y
least x y hx hy = eqb→eq _ _ (at₂ 2 (λ x y. eqb (min x y) (x * y)) tt x y hx hy)

pub bits_are : (s f r : ℕ) → bit_xor s (bit_and f r) % 2 ≡ plus (residues 2) s (times (residues 2) f r)
bits_are s f r =
    omega (arith, xor_add_and s (bit_and f r), and_step f r, least (f % 2) (r % 2) (omega arith) (omega arith))

-- the quotient of x by b, from the least whole number above 65536 / b
quotient_is : (x b i : ℕ) → 2 ≤ b → b ≤ 16 → x ≤ 4080 → i ≡ 65536 / b + 1 → x * i / 65536 ≡ x / b
quotient_is x b i l h s e =
    let a = x / b in
    let c = x % b in
    let below : c < b = mod-lt x (omega arith) in
    let over = b - 65536 % b in
    let whole : b * i ≡ 65536 + over =
    omega (arith, ap (λ n. b * n) e, mul-add b (65536 / b) 1, div-add-mod 65536 b, mod-lt 65536 {m = b} (omega arith)) in
    let parts : x * i ≡ a * 65536 + a * over + c * i =
    ap (λ n. n * i) (sym (div-add-mod x b)) ∙ add-mul (b * a) c i
    ∙ ap (λ n. n + c * i) (ap (λ n. n * i) (mul_comm b a) ∙ mul_assoc a b i ∙ ap (λ n. a * n) whole ∙ mul-add a 65536 over) in
    let rest : a * over + c * i < 65536 =
    omega (
      arith,
      mul-le a over a b (omega arith) (omega arith),
      mul_comm a b,
      div-add-mod x b,
      mul-le (c + 1) i b i (omega arith) (omega arith),
      add-mul c 1 i,
      mul-le b i 16 i (omega arith) (omega arith),
    ) in
    div-eq_of_lt-le 65536 (omega arith) (omega arith)

-- the new sum as the code forms it: what is left of x when the quotient's multiple of b is taken away
pub remainder_of : (b f d i s r : ℕ) → 2 ≤ b → b ≤ 16 → d ≡ f % b → i ≡ 65536 / b + 1 → s < 256 → r < 256
    → (let x = s + d * r in let y = plus (residues b) s (times (residues b) f r) in (b * (x * i / 65536) + y ≡ x) × (y < b))
remainder_of b f d i s r l h reduced e hs hr =
    let x = s + d * r in
    let low : d < b = omega (arith, mod-lt f {m = b} (omega arith)) in
    let small : x ≤ 4080 = omega (arith, mul-le d r 15 255 (omega arith) (omega arith)) in
    let is : plus (residues b) s (times (residues b) f r) ≡ x % b = rw reduced (sym (sum_is b s f r)) in (
      ap (λ n. b * n + plus (residues b) s (times (residues b) f r)) (quotient_is x b i l h small e) ∙ ap (λ n. b * (x / b) + n) is ∙ div-add-mod x b,
      mod-lt _ (omega arith),
    )
