-- Where the bytes of a scheme file stand. Two-byte numbers have the high byte first.
use Rattle.std.specs.Prelude.{ℕ, ◌+◌, ◌-◌, ◌*◌, ◌/◌, ◌%◌, cond, List, [], ◌∷◌, ◌++◌, length, ◌==◌, slice_index}
use Rattle.std.specs.List.{between}
use Rattle.files.specs.Contents.{ListForm, table, shifts, multiplier, Contents, Fields, fields_of}

-- bytes 13 on, before the check rows
abbrev pub value_bytes : ListForm → List ℕ
value_bytes (table bytes) = []
value_bytes (shifts step) = step ∷ []
value_bytes (multiplier step factor powers) = step ∷ factor ∷ powers ∷ []

-- what follows the check rows
abbrev pub table_bytes : ListForm → List ℕ
table_bytes (table bytes) = bytes
table_bytes (shifts step) = []
table_bytes (multiplier step factor powers) = []

-- bytes 0 to 12: mark 50 44 53, version 1, fields
abbrev pub head_bytes : Fields → List ℕ
head_bytes f =
    0x50 ∷ 0x44 ∷ 0x53 ∷ 0 ∷ 1
    ∷ f.family ∷ f.base ∷ f.n ∷ f.k ∷ f.t ∷ f.form
    ∷ f.count / 256 ∷ f.count % 256 ∷ []

-- the whole file
abbrev pub bytes_of : Contents → List ℕ
bytes_of x = head_bytes (fields_of x) ++ (value_bytes x.list ++ (x.rows ++ table_bytes x.list))

-- the two-byte number at a place
abbrev pub two_bytes : List ℕ → ℕ → ℕ
two_bytes file at = slice_index file at * 256 + slice_index file (at + 1)

abbrev pub fields_at : List ℕ → Fields
fields_at file =
    record {
      family = slice_index file 5;
      base = slice_index file 6;
      n = slice_index file 7;
      k = slice_index file 8;
      t = slice_index file 9;
      form = slice_index file 10;
      count = two_bytes file 11;
    }

-- how many bytes a form has between the header and the check rows
abbrev pub value_size : ℕ → ℕ
value_size form = cond (form == 0) 0 (cond (form == 1) 1 3)

-- the check rows have n - k symbols for each of k information symbols
abbrev pub rows_size : Fields → ℕ
rows_size f = f.k * (f.n - f.k)

abbrev pub table_size : Fields → ℕ
table_size f = cond (f.form == 0) (f.count * f.n) 0

-- where the check rows begin and end
abbrev pub rows_start : Fields → ℕ
rows_start f = 13 + value_size f.form

abbrev pub rows_end : Fields → ℕ
rows_end f = rows_start f + rows_size f

abbrev pub file_length : Fields → ℕ
file_length f = rows_end f + table_size f

-- the list of a file, by the number of its form and by where its check rows end
abbrev pub list_from : ℕ → ℕ → List ℕ → ListForm
list_from form end file =
    cond (form == 0) (table (between end (length file) file))
    (cond (form == 1) (shifts (slice_index file 13)) (multiplier (slice_index file 13) (slice_index file 14) (slice_index file 15)))

abbrev pub list_at : List ℕ → ListForm
list_at file = list_from (slice_index file 10) (rows_end (fields_at file)) file

-- what a file says
abbrev pub contents_of : List ℕ → Contents
contents_of file =
    record {
      family = slice_index file 5;
      base = slice_index file 6;
      n = slice_index file 7;
      k = slice_index file 8;
      t = slice_index file 9;
      count = two_bytes file 11;
      rows = between (rows_start (fields_at file)) (rows_end (fields_at file)) file;
      list = list_at file;
    }
