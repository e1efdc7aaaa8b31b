use Rattle.symbols.proofs.Packing.{code_small}
use Rattle.std.proofs.Common.{arith}
use Rattle.std.proofs.lemmas.Nat.{one_shl}
use Rattle.symbols.proofs.TwoPower.reduced.Goals as goal

pub returns-clause-small : goal.returns-clause-small
returns-clause-small c = rw (one_shl c.args.self.now.w 8 (omega (arith, c.args.self.now.high))) (code_small c.args.self.now.w c.args.a c.args.self.now.high)
