-- Lengths of what is written.
use Rattle.std.proofs.Common.{◌≡◌, ◌+◌, true, ◌++◌, length, refl, arith}
use Rattle.std.proofs.lemmas.List.{length-append}
use Rattle.std.proofs.lemmas.Bool.Decides.{nat_tests}
use Rattle.files.specs.Contents.{ListForm, table, shifts, multiplier, Contents, form_number, fields_of}
use Rattle.files.specs.Layout.{value_bytes, table_bytes, bytes_of, value_size, rows_size, table_size, file_length}
use Rattle.files.specs.Limits.{parts_fit}

pub length_bytes : (x : Contents)
    → length (bytes_of x) ≡ 13 + (length (value_bytes x.list) + (length x.rows + length (table_bytes x.list)))
length_bytes x =
    omega
    (arith, length-append (value_bytes x.list) (x.rows ++ table_bytes x.list), length-append x.rows (table_bytes x.list))

pub value-size : (l : ListForm) → value_size (form_number l) ≡ length (value_bytes l)
value-size (table bytes) = refl
value-size (shifts step) = refl
value-size (multiplier step factor powers) = refl

pub rows_fit : (x : Contents) → parts_fit x ≡ true → length x.rows ≡ rows_size (fields_of x)
rows_fit x h = grind (arith, nat_tests)

pub table_fits : (x : Contents) → parts_fit x ≡ true → length (table_bytes x.list) ≡ table_size (fields_of x)
table_fits x h = grind (arith, nat_tests)

-- parts that fit make a file of the length that the fields give
pub fits_length : (x : Contents) → parts_fit x ≡ true → length (bytes_of x) ≡ file_length (fields_of x)
fits_length x h = omega (arith, length_bytes x, value-size x.list, rows_fit x h, table_fits x h)
