use Rattle.std.proofs.Common.{take, arith}
use Rattle.codes.proofs.Bit.{bits_more}
use Rattle.schemes.proofs.scheme.marking.number_of.Goals as goal

pub loop-place-preserved : goal.loop-place-preserved
loop-place-preserved c =
    let xs = take c.args.t c.args.set in
    bits_more c.args.n c.loop-place.place-index xs (omega arith) (omega arith) c.requires.1.1.1 c.loop-place.sum c.loop-place.invariant
