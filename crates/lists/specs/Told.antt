-- What the targets of one permutation, asked for at once, tell.
use Rattle.std.specs.Prelude.{ℕ, cond, Some, None, Option, nat_lt, slice_index}
use Rattle.lists.specs.declared.Targets.{Targets}

-- the target of position p, absent past the length and from position 64 on
abbrev pub told : Targets → ℕ → Option ℕ
told t p = cond (nat_lt p t.n) (cond (nat_lt p 64) (Some (slice_index t.places p)) None) None
