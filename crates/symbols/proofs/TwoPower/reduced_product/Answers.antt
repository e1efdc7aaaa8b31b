use Rattle.std.proofs.Common.{arith, rules}
use Rattle.symbols.specs.Families.{part_fits, product_is}
use Rattle.symbols.proofs.TwoPower.reduced_product.Goals as goal

pub overflow_mul-whole-2 : goal.overflow_mul-whole-2
overflow_mul-whole-2 c =
    let h = part_fits c.args.self.now.w c.args.x c.args.y 2 c.args.self.now.high (omega arith) (omega arith) in
    search rules

pub overflow_mul-whole-3 : goal.overflow_mul-whole-3
overflow_mul-whole-3 c =
    let h = part_fits c.args.self.now.w c.args.x c.args.y 4 c.args.self.now.high (omega arith) (omega arith) in
    search rules

pub overflow_mul-whole-4 : goal.overflow_mul-whole-4
overflow_mul-whole-4 c =
    let h = part_fits c.args.self.now.w c.args.x c.args.y 8 c.args.self.now.high (omega arith) (omega arith) in
    search rules

pub returns : goal.returns
returns c = product_is c.args.self.now.w c.args.x c.args.y c.args.self.now.low c.args.self.now.high (omega arith) (omega arith)
