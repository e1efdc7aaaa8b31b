use Rattle.std.proofs.Common.{◌≡◌, length, ◌*◌, ◌/◌, ◌%◌, ◌^◌}
use Rattle.lists.specs.Meaning.{multiplied}
use Rattle.lists.proofs.Replies.{Asked}
use Rattle.lists.proofs.MultiplierPermutations.targets.Given as goal

abbrev pub invariant-loop-place : goal.invariant-loop-place
invariant-loop-place g l = record {
  long : length l.place-items ≡ l.told;
  asked : Asked (multiplied l.self.g l.self.r (g.L.Permutations.meaning l.self.below)) l.x l.place-index l.place-items;
  multiple : l.at ≡ (l.self.g ^ (l.x / l.m) * l.place-index) % l.n;
}
