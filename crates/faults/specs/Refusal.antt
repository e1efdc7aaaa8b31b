-- What each fault says: the number of the refusal, its first and its second place. A place that a refusal does not name is 0.
use Rattle.std.specs.Prelude.{ℕ, List, ◌++◌, codes, decimal}
use Rattle.faults.specs.declared.Fault.{Fault}
use Rattle.faults.specs.declared.Fault.TheVariants.{KindRange, TableShape, CodeSize, ErrorCount, MessageCount, TrialMismatch, RowCode, ListShape, NoPermutation, LightCodeword, NotKept, Uncleared, SchemeMismatch, WordLength, SymbolRange, TallyFull, Lost, FileShort, FileMark, FileVersion, FileField, FileLength}

pub record Refusal : Type 0 where
  pub number : ℕ
  pub first : ℕ
  pub second : ℕ

abbrev pub refuse : ℕ → ℕ → ℕ → Refusal
refuse number first second = record { number = number; first = first; second = second }

abbrev pub refusal : Fault → Refusal
refusal KindRange = refuse 1 0 0
refusal TableShape = refuse 2 0 0
refusal CodeSize = refuse 3 0 0
refusal ErrorCount = refuse 4 0 0
refusal MessageCount = refuse 5 0 0
refusal TrialMismatch = refuse 6 0 0
refusal (RowCode index) = refuse 7 index 0
refusal ListShape = refuse 8 0 0
refusal (NoPermutation number position) = refuse 9 number position
refusal (LightCodeword message) = refuse 10 message 0
refusal (NotKept number unit) = refuse 11 number unit
refusal (Uncleared places) = refuse 12 places 0
refusal SchemeMismatch = refuse 13 0 0
refusal WordLength = refuse 14 0 0
refusal (SymbolRange index) = refuse 15 index 0
refusal TallyFull = refuse 16 0 0
refusal Lost = refuse 17 0 0
refusal FileShort = refuse 18 0 0
refusal FileMark = refuse 19 0 0
refusal FileVersion = refuse 20 0 0
refusal (FileField byte) = refuse 21 byte 0
refusal FileLength = refuse 22 0 0

-- the text of a refusal, as `refused 12 1 0`
abbrev pub shown_as : Fault → List ℕ
shown_as f =
    codes "refused "
    ++ (decimal (refusal f).number ++ (codes " " ++ (decimal (refusal f).first ++ (codes " " ++ decimal (refusal f).second))))
