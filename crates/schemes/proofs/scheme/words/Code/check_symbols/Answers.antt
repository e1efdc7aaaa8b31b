use Rattle.std.proofs.Common.{◌+◌, List, sym, subst, arith}
use Rattle.codes.specs.Code.{Code}
use Rattle.schemes.specs.Lent.{code_lent}
use Rattle.schemes.proofs.Summing.{Summed, summed_none, summed_more, summed_same}
use Rattle.schemes.proofs.scheme.words.Code.check_symbols.Goals as goal
use Rattle.schemes.proofs.scheme.words.Code.check_symbols.Goals.{then-symbol-ne0, else-symbol-ne0}

pub loop-i-init : goal.loop-i-init
loop-i-init g c = summed_none (code_lent g.K.Kind.ring c.args.self.now) c.args.message.now c.args.few (omega arith)

pub loop-i-preserved : goal.loop-i-preserved
loop-i-preserved g c =
    let C : Code = code_lent g.K.Kind.ring c.args.self.now in
    let u = c.args.message.now in
    elim c.if-symbol-ne0.branch [
      | then-symbol-ne0 w ↦
          subst (λ (x : List _). Summed C u c.args.few (c.loop-i.i + 1) x) (sym w.sums-is)
          (summed_more C u c.args.few c.loop-i.i c.loop-i.sums _ c.args.self.now.few (omega arith) (omega arith) c.args.self.now.size w.add_row.ensures c.loop-i.invariant)
      | else-symbol-ne0 w ↦
          subst (λ (x : List _). Summed C u c.args.few (c.loop-i.i + 1) x) (sym w.sums-is)
          (summed_same C u c.args.few c.loop-i.i c.loop-i.sums (g.met.K.Kind.rules c.args.self.now.kind.now) w.if-symbol-ne0.false c.loop-i.invariant)
    ]
