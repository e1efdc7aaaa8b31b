use Rattle.std.proofs.Common.{◌≡◌, ℕ, ◌+◌, ◌<◌, length, slice_index}
use Rattle.schemes.proofs.scheme.marking.run_from.Given as goal

abbrev pub invariant-loop-l : goal.invariant-loop-l
invariant-loop-l l = (length l.place-items ≡ length l.initial.place-items) × ((k : ℕ) → k < l.l → slice_index l.place-items k ≡ l.first + k)
