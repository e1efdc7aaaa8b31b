use Rattle.std.proofs.Common.{◌≡◌, length}
use Rattle.lists.specs.Meaning.{shifts}
use Rattle.lists.proofs.Replies.{Asked}
use Rattle.lists.proofs.ShiftsPermutations.targets.Given as goal

abbrev pub invariant-loop-p : goal.invariant-loop-p
invariant-loop-p l = record {
  long : length l.place-items ≡ l.told;
  asked : Asked (shifts l.self.n l.self.step l.self.number) l.j l.p l.place-items;
}
