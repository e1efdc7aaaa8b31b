use Rattle.std.proofs.Common.{rules}
use Rattle.symbols.proofs.Rows.{added_by}
use Rattle.symbols.proofs.Kind.add_multiple.Goals as goal

pub returns : goal.returns
returns g c =
    added_by (g.Self.Kind.ring c.args.self.now) c.args.factor c.args.row.now c.args.sums.now c.combine.new.sums
    c.combine.ensures.long (λ j h r. let e = c.combine.ensures.combined j h r in search rules) c.combine.ensures.stays
