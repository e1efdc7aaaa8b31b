use Rattle.std.proofs.Common.{◌≡◌, length}
use Rattle.lists.proofs.Replies.{Asked}
use Rattle.lists.proofs.Permutations.targets.Given as goal

abbrev pub invariant-loop-p : goal.invariant-loop-p
invariant-loop-p g l = record {
  long : length l.place-items ≡ l.n;
  asked : Asked (g.Self.Permutations.meaning l.self) l.i l.p l.place-items;
}
