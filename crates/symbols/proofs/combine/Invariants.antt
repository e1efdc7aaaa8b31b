use Rattle.std.proofs.Common.{◌≡◌, ℕ, ◌<◌, ◌≤◌, slice_index}
use Rattle.symbols.proofs.combine.Given as goal

abbrev pub invariant-loop-j : goal.invariant-loop-j
invariant-loop-j g l = record {
  combined : (k : ℕ) → k < l.j → goal.F-post g l.add (slice_index l.initial.sum-items k) (slice_index l.row k) (slice_index l.sum-items k);
  left : (k : ℕ) → l.j ≤ k → slice_index l.sum-items k ≡ slice_index l.initial.sum-items k;
}
