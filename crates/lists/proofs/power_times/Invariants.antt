use Rattle.std.proofs.Common.{◌≡◌, ◌*◌, ◌%◌, ◌^◌, ◌<◌}
use Rattle.lists.proofs.power_times.Given as goal

abbrev pub invariant-loop-rest : goal.invariant-loop-rest
invariant-loop-rest l =
    (l.square < l.n)
    × (l.product < l.n)
    × ((l.square ^ l.rest * l.product) % l.n ≡ (l.g ^ l.i * l.p) % l.n)

abbrev pub decreases-loop-rest : goal.decreases-loop-rest
decreases-loop-rest l = l.rest
