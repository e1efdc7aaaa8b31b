use Rattle.std.proofs.Common.{rules}
use Rattle.files.specs.Held.{contents}
use Rattle.files.proofs.Around.{written}
use Rattle.files.proofs.write.Goals as goal

pub returns : goal.returns
returns c =
    (search rules, written (contents c.args.scheme.now) _ (search rules) (search rules) c.write_parts.ensures)
