-- Reading and writing undo one another.
use Rattle.std.specs.Prelude.{◌≡◌, ℕ, ◌<◌, List, None, slice_index}
use Rattle.files.specs.Contents.{Contents}
use Rattle.files.specs.Layout.{bytes_of, contents_of}
use Rattle.files.specs.Limits.{file_refusal, contents_refusal}

-- every number of the list is a byte
abbrev pub Bytes : List ℕ → Type 0
Bytes file = (i : ℕ) → slice_index file i < 256

-- contents that are not refused make a file that is accepted and says the same
abbrev pub WrittenIsRead : Type 0
WrittenIsRead =
    (x : Contents) → contents_refusal x ≡ None → (file_refusal (bytes_of x) ≡ None) × (contents_of (bytes_of x) ≡ x)

-- an accepted file has contents that are not refused and make the same file
abbrev pub ReadIsWritten : Type 0
ReadIsWritten =
    (file : List ℕ) → Bytes file → file_refusal file ≡ None
    → (contents_refusal (contents_of file) ≡ None) × (bytes_of (contents_of file) ≡ file)

-- a file that has been written: its bytes are those of the contents, and a reader accepts it and finds them
pub record Written (x : Contents) (file : List ℕ) : Type 0 where
  pub bytes : file ≡ bytes_of x
  pub accepted : file_refusal file ≡ None
  pub again : contents_of file ≡ x
