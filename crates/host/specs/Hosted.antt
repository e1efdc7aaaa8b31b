-- What one call of a host is answered, from the bytes of a scheme file, a block and an output.
use Rattle.std.specs.Prelude.{◌≡◌, ℕ, ◌+◌, ◌≤◌, ◌⊎◌, List, Some, None, Ok, Err, Result}
use Rattle.faults.specs.Refusal.{Refusal}
use Rattle.files.specs.Layout.{contents_of}
use Rattle.promises.specs.Scheme.{Scheme, scheme, Counts, none}
use Rattle.promises.specs.Calls.{Correcting, Corrects}
use Rattle.promises.specs.Promise.{Promise}
use Rattle.opening.specs.Opening.{scheme_refusal, handed_of, plan_of}

-- the live scheme of a file
abbrev pub scheme_in : List ℕ → Scheme
scheme_in file = scheme (plan_of (contents_of file)) (handed_of (contents_of file))

-- a call of correct that is handed the file's kind, rows and list
abbrev pub call_of : List ℕ → List ℕ → List ℕ → Result (ℕ × ℕ) Refusal → List ℕ → Correcting
call_of file block before answer after =
    record { handed = handed_of (contents_of file); block = block; before = before; answer = answer; after = after }

-- The file's scheme goes live and keeps its promise, and its first call of correct has this answer and leaves this output.
pub record Called (file block before : List ℕ) (answer : Result (ℕ × ℕ) Refusal) (after : List ℕ) : Type 0 where
  pub clear : scheme_refusal file ≡ None
  pub promised : Promise (scheme_in file) (handed_of (contents_of file))
  pub tally : Counts
  pub does : Corrects (scheme_in file) none (call_of file block before answer after) tally

-- Refusal r is the first on the way: of what comes before the block, or of the call of correct. The output stays.
pub record Stops (file block before : List ℕ) (r : Refusal) (after : List ℕ) : Type 0 where
  pub first : (scheme_refusal file ≡ Some r) ⊎ Called file block before (Err r) after
  pub stays : after ≡ before

-- There is none: some attempt corrects the block, at a distance d up to 5.
pub record Mends (file block before : List ℕ) (d : ℕ) (after : List ℕ) : Type 0 where
  pub attempt : ℕ
  pub call : Called file block before (Ok (d, attempt)) after
  pub near : d ≤ 5

-- A refusal is answered by 100 and its number, which is from 1 to 22.
pub record Says (r : Refusal) (answer : ℕ) : Type 0 where
  pub number : answer ≡ 100 + r.number
  pub least : 101 ≤ answer
  pub most : answer ≤ 122

-- The answer tells the first refusal, and the output stays;
-- or there is none, the answer is the distance, and the output becomes the corrected block.
abbrev pub HostAnswers : List ℕ → List ℕ → List ℕ → ℕ → List ℕ → Type 0
HostAnswers file block before answer after =
    ((r : Refusal) × Stops file block before r after × Says r answer) ⊎ Mends file block before answer after
