use Rattle.std.proofs.Common.{◌∙◌, arith, length-set}
use Rattle.codes.proofs.Messages.{message_more}
use Rattle.schemes.proofs.scheme.searching.message.Goals as goal

pub loop-i-preserved : goal.loop-i-preserved
loop-i-preserved c =
    let v = c.loop-i.invariant in
    let d = message_more c.args.q c.args.k c.loop-i.i c.args.x c.loop-i.rest c.loop-i.symbols (omega arith) (omega arith) (omega arith) v.2 v.3 in
    (length-set _ _ _ ∙ v.0, omega arith, d.0, d.1)
