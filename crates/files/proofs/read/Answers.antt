use Rattle.std.proofs.Common.{arith}
use Rattle.files.specs.Held.{contents}
use Rattle.files.proofs.Around.{parts_are}
use Rattle.files.proofs.read.Goals as goal

pub returns : goal.returns
returns c =
    let s = c.split_parts.ensures in
    parts_are c.args.file.now (contents c.split_parts.result) (omega (arith, c.type_inv.file 12)) s.accepted s.fields s.tail s.fit
