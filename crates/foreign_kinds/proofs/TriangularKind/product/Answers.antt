use Rattle.std.proofs.Common.{arith}
use Rattle.foreign_kinds.specs.Products.{product_is}
use Rattle.foreign_kinds.proofs.TriangularKind.product.Goals as goal

pub returns : goal.returns
returns c = product_is c.args.a c.args.b (omega arith) (omega arith)
