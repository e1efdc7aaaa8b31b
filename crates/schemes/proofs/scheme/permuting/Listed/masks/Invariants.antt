use Rattle.std.proofs.Common.{◌≡◌, ℕ, ◌<◌, length, slice_index}
use Rattle.codes.specs.Steps.{MaskOf}
use Rattle.schemes.proofs.scheme.permuting.Listed.masks.Given as goal

abbrev pub invariant-loop-i : goal.invariant-loop-i
invariant-loop-i g l =
    (length l.mask-items ≡ length l.initial.mask-items)
    × ((j : ℕ) → j < l.i → MaskOf l.self.n l.k ((g.L.Permutations.meaning l.self.list.now).target j) (slice_index l.mask-items j))
