-- How mend cuts its input: two bytes that give the length of the scheme file, the high one first, the file, and blocks of n bytes.
use Rattle.std.specs.Prelude.{ℕ, zero, suc, ◌+◌, ◌*◌, ◌/◌, ◌%◌, Bool, cond, not, ◌&&◌, List, [], ◌∷◌, length, take, drop, is_some, ◌==◌, nat_lt, slice_index}
use Rattle.promises.specs.Trial.{excess}

-- the length that the first two bytes give
abbrev pub file_size : List ℕ → ℕ
file_size input = slice_index input 0 * 256 + slice_index input 1

-- the scheme file: shorter if the input ends, empty if its length is missing
abbrev pub scheme_file : List ℕ → List ℕ
scheme_file input = cond (nat_lt (length input) 2) [] (take (file_size input) (drop 2 input))

-- the bytes after it
abbrev pub block_bytes : List ℕ → List ℕ
block_bytes input = drop (2 + file_size input) input

-- block number i, counted from 0; the last may be shorter
abbrev pub piece : ℕ → List ℕ → ℕ → List ℕ
piece n bytes i = take n (drop (i * n) bytes)

-- how many blocks there are: the whole ones, and a shorter last one if something is left
abbrev pub pieces : ℕ → List ℕ → ℕ
pieces n bytes = length bytes / n + cond (length bytes % n == 0) 0 1

-- a block of n symbols below q
abbrev pub whole : ℕ → ℕ → List ℕ → Bool
whole q n v = length v == n && not (is_some (excess q v))

-- of the first i blocks the well-formed ones, the newest first: whole ones, up to 1,000,000
abbrev pub well_formed : ℕ → ℕ → List ℕ → ℕ → List (List ℕ)
well_formed q n bytes zero = []
well_formed q n bytes (suc i) =
    cond (whole q n (piece n bytes i) && nat_lt (length (well_formed q n bytes i)) 1000000)
    (piece n bytes i ∷ well_formed q n bytes i)
    (well_formed q n bytes i)
