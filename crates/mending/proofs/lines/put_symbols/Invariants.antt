use Rattle.std.proofs.Common.{◌≡◌, ◌++◌, map, take, vec_items}
use Rattle.mending.specs.Lines.{digit}
use Rattle.mending.proofs.lines.put_symbols.Given as goal

abbrev pub invariant-loop-symbol : goal.invariant-loop-symbol
invariant-loop-symbol l = vec_items l.text ≡ vec_items l.initial.text ++ map digit (take l.symbol-index l.symbols)
