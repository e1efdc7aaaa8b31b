use Rattle.symbols.proofs.Packing.{sum_is}
use Rattle.symbols.proofs.PolynomialMultiples.add.Goals as goal

pub returns : goal.returns
returns c =
    let m = c.args.self.now in
    rw (c.reduced.ensures.value, c.reduced-2.ensures.value)
    (sum_is m.kind.w m.factor c.args.sum c.args.code m.packed m.kind.low m.kind.high m.right)
