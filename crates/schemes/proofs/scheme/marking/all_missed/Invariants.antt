use Rattle.schemes.proofs.Opening.{Open}
use Rattle.schemes.proofs.scheme.marking.all_missed.Given as goal

abbrev pub invariant-loop-mask : goal.invariant-loop-mask
invariant-loop-mask l = Open l.masks l.head l.from l.rest l.mask-index
