-- Tables, shifts and multipliers keep the bounds of a list.
use Rattle.std.specs.Prelude.{ℕ, zero, suc, ◌*◌, ◌/◌, ◌%◌, ◌^◌, ◌<◌, List}
use Rattle.std.proofs.Common.{mod-lt, mul-zero, arith}
use Rattle.lists.specs.Meaning.{Meaning, Bounds, table, shifts, multiplied}

pub table_bounds : (n : ℕ) (bytes : List ℕ) → Bounds (table n bytes)
table_bounds n bytes = record { short = omega arith; few = omega arith; targets = λ i p _ _. omega arith }

pub shifts_bounds : (n s c : ℕ) → Bounds (shifts n s c)
shifts_bounds n s c = record { short = omega arith; few = omega arith; targets = λ j p _ _. omega arith }

-- A product that is not 0 has no factor 0.
positive : (r m x : ℕ) → x < r * m → 0 < m
positive r zero x h = omega (arith, mul-zero r)
positive r (suc m) x h = omega arith

pub multiplied_bounds : (g r : ℕ) (M : Meaning) → Bounds M → Bounds (multiplied g r M)
multiplied_bounds g r M b =
    record {
      short = b.short;
      few = omega arith;
      targets =
          λ x p hx hp.
          let j = x % M.count in
          let q = g ^ (x / M.count) * p in
          b.targets j (q % M.places) (mod-lt x (positive r M.count x (omega arith))) (mod-lt q (omega arith));
    }
