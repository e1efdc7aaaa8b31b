use Rattle.std.proofs.Common.{◌≡◌, get_or, rules}
use Rattle.symbols.specs.Ring.{residues}
use Rattle.symbols.proofs.Rows.{added_by, bits_are}
use Rattle.symbols.proofs.ResiduesKind.add_multiple.Goals as goal

pub returns-then-self-eq2 : goal.returns-then-self-eq2
returns-then-self-eq2 c =
    added_by (residues c.args.self.now.b) c.args.factor c.args.row.now c.args.sums.now c.combine.new.sums
    c.combine.ensures.long
    (λ j h r.
    let e = c.combine.ensures.combined j h r in
    let two : c.args.self.now.b ≡ 2 = c.if-self-eq2.true in
    let bits = bits_are (get_or c.args.sums.now j 0) c.args.factor (get_or c.args.row.now j 0) in
    rw two (search rules)) c.combine.ensures.stays

pub returns-else-self-eq2 : goal.returns-else-self-eq2
returns-else-self-eq2 c =
    added_by (residues c.args.self.now.b) c.args.factor c.args.row.now c.args.sums.now c.combine-else-self-eq2.new.sums
    c.combine-else-self-eq2.ensures.long
    (λ j h r. let e = c.combine-else-self-eq2.ensures.combined j h r in search rules) c.combine-else-self-eq2.ensures.stays
