-- Which files and which contents are refused, and by which refusal.
use Rattle.std.specs.Prelude.{ℕ, Bool, cond, ◌&&◌, ◌||◌, List, length, Some, None, Option, ◌==◌, nat_le, nat_lt, slice_index}
use Rattle.faults.specs.Refusal.{Refusal, refuse}
use Rattle.files.specs.Contents.{Contents, Fields, fields_of}
use Rattle.files.specs.Layout.{two_bytes, fields_at, rows_size, table_size, file_length, table_bytes}

abbrev pub outside : ℕ → ℕ → ℕ → Bool
outside low high value = nat_lt value low || nat_lt high value

-- the greatest b of residues, the greatest w of two-powers
abbrev pub greatest_base : ℕ → ℕ
greatest_base family = cond (family == 0) 16 4

-- the first header byte whose field is outside its values
abbrev pub wrong_field : Fields → Option ℕ
wrong_field f =
    cond (outside 0 1 f.family) (Some 5)
    (cond (outside 2 (greatest_base f.family) f.base) (Some 6)
    (cond (outside 2 64 f.n) (Some 7)
    (cond (outside 1 16 f.k || nat_le f.n f.k) (Some 8)
    (cond (outside 1 5 f.t) (Some 9)
    (cond (outside 0 2 f.form) (Some 10)
    (cond (outside 1 512 f.count) (Some 11)
    None))))))

-- a refusal without a place, or else what comes after
abbrev pub refuse_unless : Bool → ℕ → Option Refusal → Option Refusal
refuse_unless b number next = cond b next (Some (refuse number 0 0))

-- a refusal of a header field, or else what comes after
abbrev pub refuse_field : Option ℕ → Option Refusal → Option Refusal
refuse_field (Some byte) next = Some (refuse 21 byte 0)
refuse_field None next = next

abbrev pub marked : List ℕ → Bool
marked file = slice_index file 0 == 0x50 && (slice_index file 1 == 0x44 && slice_index file 2 == 0x53)

-- the first refusal, if there is one, or else the second
abbrev pub or_else : Option Refusal → Option Refusal → Option Refusal
or_else (Some r) next = Some r
or_else None next = next

-- what a file's header is refused for
abbrev pub head_refusal : List ℕ → Option Refusal
head_refusal file =
    refuse_unless (nat_le 13 (length file)) 18
    (refuse_unless (marked file) 19
    (refuse_unless (two_bytes file 3 == 1) 20
    (refuse_field (wrong_field (fields_at file)) None)))

-- what a file is refused for; None: it is accepted
abbrev pub file_refusal : List ℕ → Option Refusal
file_refusal file =
    or_else (head_refusal file) (refuse_unless (length file == file_length (fields_at file)) 22 None)

-- check rows and table have the sizes that the fields give
abbrev pub parts_fit : Contents → Bool
parts_fit x =
    (length x.rows == rows_size (fields_of x)) && length (table_bytes x.list) == table_size (fields_of x)

-- what contents are refused for, whatever the output
abbrev pub contents_refusal : Contents → Option Refusal
contents_refusal x = refuse_field (wrong_field (fields_of x)) (refuse_unless (parts_fit x) 22 None)

-- what writing them to an output of `size` bytes is refused for
abbrev pub write_refusal : Contents → ℕ → Option Refusal
write_refusal x size =
    refuse_field (wrong_field (fields_of x))
    (refuse_unless (parts_fit x && size == file_length (fields_of x)) 22 None)
