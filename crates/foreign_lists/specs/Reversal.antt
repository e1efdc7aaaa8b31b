-- What the list of two means: number 0 leaves each place, number 1 counts the places from the other end.
use Rattle.std.specs.Prelude.{ℕ, ◌-◌, min, cond, ◌==◌}
use Rattle.std.proofs.Common.{arith}
use Rattle.lists.specs.Meaning.{Meaning, Bounds}

-- The minima change nothing for the bytes that there are.
abbrev pub reversed : ℕ → Meaning
reversed n =
    record {
      places = min n 255;
      count = 2;
      target = λ i p. min (cond (i == 0) p (n - 1 - p)) 255;
    }

pub reversed_bounds : (n : ℕ) → Bounds (reversed n)
reversed_bounds n = record { short = omega arith; few = omega arith; targets = λ i p _ _. omega arith }
