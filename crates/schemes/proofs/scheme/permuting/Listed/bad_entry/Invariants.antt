use Rattle.std.proofs.Common.{◌≡◌, ℕ, ◌<◌, None}
use Rattle.codes.specs.Offenders.{bad_place}
use Rattle.schemes.proofs.scheme.permuting.Listed.bad_entry.Given as goal

abbrev pub invariant-loop-i : goal.invariant-loop-i
invariant-loop-i g l = (r : ℕ) → r < l.i → bad_place l.self.n ((g.L.Permutations.meaning l.self.list.now).target r) ≡ None
