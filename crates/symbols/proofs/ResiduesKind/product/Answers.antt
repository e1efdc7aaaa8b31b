use Rattle.std.proofs.Common.{◌%◌, ◌<◌, mod-lt, arith, rules}
use Rattle.std.proofs.lemmas.Nat.{mul-lt}
use Rattle.symbols.proofs.ResiduesKind.product.Goals as goal

pub overflow_mul-result : goal.overflow_mul-result
overflow_mul-result c =
    let s = c.args.self.now in
    let x : c.args.a % s.b < s.b = mod-lt c.args.a (omega arith) in
    let y : c.args.b % s.b < s.b = mod-lt c.args.b (omega arith) in
    let h = mul-lt (c.args.a % s.b) (c.args.b % s.b) 16 16 (omega arith) (omega arith) in
    search rules
