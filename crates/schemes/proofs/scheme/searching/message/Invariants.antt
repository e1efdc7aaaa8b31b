use Rattle.std.proofs.Common.{◌≡◌, ◌-◌, ◌/◌, ◌^◌, ◌≤◌, length, take, drop}
use Rattle.codes.specs.Code.{message}
use Rattle.schemes.proofs.scheme.searching.message.Given as goal

abbrev pub invariant-loop-i : goal.invariant-loop-i
invariant-loop-i l =
    (length l.symbols ≡ 16)
    × (l.i ≤ l.k)
    × (l.rest ≡ l.x / l.q ^ (l.k - l.i))
    × (drop l.i (take l.k l.symbols) ≡ message l.q (l.k - l.i) l.x)
