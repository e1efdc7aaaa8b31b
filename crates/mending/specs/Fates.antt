-- What stands in a line between the number and the symbols.
use Rattle.std.specs.Prelude.{ℕ, List, ◌++◌, codes, decimal}
use Rattle.mending.specs.declared.fates.Fate.{Fate}
use Rattle.mending.specs.declared.fates.Fate.TheVariants.{Clean, Mended, Lost, Refused}

abbrev pub shown : Fate → List ℕ
shown Clean = codes "clean 0 "
shown (Mended d) = codes "mended " ++ (decimal d ++ codes " ")
shown Lost = codes "lost - "
shown (Refused n) = codes "refused " ++ decimal n
