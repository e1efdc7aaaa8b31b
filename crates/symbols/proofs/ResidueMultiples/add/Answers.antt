use Rattle.std.proofs.Common.{◌≡◌, ℕ, ◌+◌, ◌*◌, ◌/◌, ◌<◌, arith}
use Rattle.symbols.specs.Ring.{plus, times, residues}
use Rattle.symbols.specs.declared.ResidueMultiples.{ResidueMultiples}
use Rattle.symbols.proofs.Rows.{remainder_of}
use Rattle.symbols.proofs.ResidueMultiples.add.Goals as goal

left : (m : ResidueMultiples) (s r : ℕ) → s < 256 → r < 256
    → (let R = residues m.kind.b in let y = plus R s (times R m.factor r) in let x = s + m.reduced * r in (m.kind.b * (x * m.reciprocal / 65536) + y ≡ x) × (y < m.kind.b))
left m s r = remainder_of m.kind.b m.factor m.reduced m.reciprocal s r m.kind.low m.kind.high m.reduced_is m.reciprocal_is

pub overflow_sub-result : goal.overflow_sub-result
overflow_sub-result c = omega (arith, left c.args.self.now c.args.sum c.args.code (omega arith) (omega arith))

pub overflow_cast-result-2 : goal.overflow_cast-result-2
overflow_cast-result-2 c = omega (arith, left c.args.self.now c.args.sum c.args.code (omega arith) (omega arith))

pub returns : goal.returns
returns c = omega (arith, left c.args.self.now c.args.sum c.args.code (omega arith) (omega arith))
