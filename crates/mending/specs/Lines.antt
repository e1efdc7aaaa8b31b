-- The lines that mend prints.
use Rattle.std.specs.Prelude.{ℕ, ◌+◌, ◌%◌, cond, List, ◌++◌, map, Ok, Err, codes, decimal, Result, ◌==◌, nat_lt}
use Rattle.faults.specs.Refusal.{Refusal}
use Rattle.promises.specs.Scheme.{Counts}
use Rattle.promises.specs.Calls.{Correcting}

-- a symbol as a digit from 0 to f (of a byte from 16 on, which is no symbol, its remainder)
abbrev pub digit : ℕ → ℕ
digit s = cond (nat_lt (s % 16) 10) (48 + s % 16) (87 + s % 16)

-- what stands after a block's number: the corrected symbols, the symbols as received if the block is lost, or the refusal
abbrev pub fate : List ℕ → Result (ℕ × ℕ) Refusal → List ℕ → List ℕ
fate block (Ok (d, i)) word =
    cond (d == 0) (codes " clean 0 " ++ map digit word) (codes " mended " ++ (decimal d ++ (codes " " ++ map digit word)))
fate block (Err r) word = cond (r.number == 17) (codes " lost - " ++ map digit block) (codes " refused " ++ decimal r.number)

-- the line of block number i, by the call of correct on it
abbrev pub line : ℕ → Correcting → List ℕ
line i x = decimal i ++ (fate x.block x.answer x.after ++ codes "\n")

-- the last line: the tally
abbrev pub total : Counts → List ℕ
total c =
    codes "total "
    ++ (decimal c.blocks ++ (codes " " ++ (decimal c.clean ++ (codes " " ++ (decimal c.mended ++ (codes " " ++ (decimal c.lost ++ (codes " " ++ (decimal c.symbols ++ codes "\n")))))))))

-- the only line where no scheme goes live
abbrev pub refused_line : Refusal → List ℕ
refused_line r =
    (codes "refused " ++ (decimal r.number ++ (codes " " ++ (decimal r.first ++ (codes " " ++ decimal r.second)))))
    ++ codes "\n"
