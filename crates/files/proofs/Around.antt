-- The way from contents to a file and back, and from a file to contents and back.
use Rattle.std.proofs.Common.{zero, suc, ◌≡◌, ℕ, ◌+◌, ◌-◌, ◌*◌, ◌/◌, ◌%◌, ◌<◌, ◌≤◌, Bool, true, cond, ◌&&◌, eqb, leb, List, [], ◌∷◌, ◌++◌, length, get_or, take, drop, None, Option, sym, refl, ap, ◌∙◌, arith}
use Rattle.std.specs.List.{between}
use Rattle.std.proofs.lemmas.List.{append-nil, take-append-drop, take_at, drop_at, drop-drop, drop_more, take_rest}
use Rattle.std.proofs.lemmas.List.Edits.{length-between}
use Rattle.std.proofs.lemmas.Bool.{eqb-true, leb-true}
use Rattle.std.proofs.lemmas.Slice.{between_to_end}
use Rattle.std.proofs.lemmas.Bool.Decides.{nat_tests}
use Rattle.files.specs.Contents.{ListForm, table, shifts, multiplier, Contents, Fields, form_number, fields_of}
use Rattle.files.specs.Layout.{value_bytes, table_bytes, head_bytes, bytes_of, two_bytes, fields_at, value_size, rows_size, table_size, rows_start, rows_end, file_length, list_from, list_at, contents_of}
use Rattle.files.specs.Limits.{wrong_field, refuse_unless, refuse_field, marked, or_else, file_refusal, parts_fit, contents_refusal}
use Rattle.files.specs.Trips.{Bytes, Written}
use Rattle.files.proofs.Sizes.{length_bytes, rows_fit, fits_length}

-- what it takes to be accepted

-- where no check refuses, each has passed
all_stand : (long mark version : Bool) (within : Option ℕ) (whole : Bool)
    → or_else (refuse_unless long 18 (refuse_unless mark 19 (refuse_unless version 20 (refuse_field within None)))) (refuse_unless whole 22 None) ≡ None
    → (long ≡ true) × (mark ≡ true) × (version ≡ true) × (within ≡ None) × (whole ≡ true)
all_stand long mark version within whole h = grind (arith, nat_tests)

both_stand : (within : Option ℕ) (fit : Bool) → refuse_field within (refuse_unless fit 22 None) ≡ None → (within ≡ None) × (fit ≡ true)
both_stand within fit h = grind (arith, nat_tests)

pub record Accepted (file : List ℕ) : Type 0 where
  pub long : 13 ≤ length file
  pub mark : marked file ≡ true
  pub version : two_bytes file 3 ≡ 1
  pub within : wrong_field (fields_at file) ≡ None
  pub whole : length file ≡ file_length (fields_at file)

pub accepted : (file : List ℕ) → Accepted file → file_refusal file ≡ None
accepted file a = grind (arith, nat_tests)

-- from contents to a file and back

pub count_back : (c : ℕ) → c / 256 * 256 + c % 256 ≡ c
count_back c = omega arith

-- the fields of a header, whatever follows it
pub fields_back : (f : Fields) (rest : List ℕ) → fields_at (head_bytes f ++ rest) ≡ f
fields_back f rest = ap (λ (c : ℕ). record f { count = c }) (count_back f.count)

pub middle : (xs ys : List ℕ) (i r : ℕ) → length xs ≡ r → take ((i + r) - i) (xs ++ ys) ≡ xs
middle xs ys i r h = take_at xs ys ((i + r) - i) (omega arith)

pub rows_back : (x : Contents) (l : ListForm) (r : ℕ) → length x.rows ≡ r
    → between (13 + value_size (form_number l)) (13 + value_size (form_number l) + r)
    (head_bytes (fields_of x) ++ (value_bytes l ++ (x.rows ++ table_bytes l)))
    ≡ x.rows
rows_back x (table bytes) r h = middle x.rows bytes 13 r h
rows_back x (shifts step) r h = middle x.rows [] 14 r h
rows_back x (multiplier step factor powers) r h = middle x.rows [] 16 r h

pub between_end : (xs : List ℕ) (i r : ℕ) (ps ts : List ℕ) → drop i xs ≡ ps ++ ts → length ps ≡ r
    → between (i + r) (length xs) xs ≡ ts
between_end xs i r ps ts e h =
    take_rest xs (i + r) ∙ sym (drop-drop r i xs) ∙ ap (drop r) e ∙ drop_at ps ts r h

abbrev made : ℕ → ℕ → ℕ → ℕ → ℕ → ℕ → List ℕ → ListForm → Contents
made f b n k t c rows l =
    record { family = f; base = b; n = n; k = k; t = t; count = c; rows = rows; list = l }

pub list_back : (f b n k t c : ℕ) (rows : List ℕ) (l : ListForm) → length rows ≡ k * (n - k)
    → list_at (bytes_of (made f b n k t c rows l)) ≡ l
list_back f b n k t c rows (table bytes) h =
    ap table (between_end (bytes_of (made f b n k t c rows (table bytes))) 13 (k * (n - k)) rows bytes refl h)
list_back f b n k t c rows (shifts step) h = refl
list_back f b n k t c rows (multiplier step factor powers) h = refl

pub contents_back : (x : Contents) → parts_fit x ≡ true → contents_of (bytes_of x) ≡ x
contents_back x h =
    let F : ℕ → List ℕ → ListForm → Contents = made x.family x.base x.n x.k x.t in
    let file = bytes_of x in
    let r : List ℕ = between (rows_start (fields_at file)) (rows_end (fields_at file)) file in
    let rs : r ≡ x.rows = rows_back x x.list (rows_size (fields_of x)) (rows_fit x h) in
    let l : list_at file ≡ x.list =
    list_back x.family x.base x.n x.k x.t x.count x.rows x.list (rows_fit x h)
    in
    ap (λ c. F c r (list_at file)) (count_back x.count) ∙ ap (λ rows. F x.count rows (list_at file)) rs
    ∙ ap (F x.count x.rows) l

pub written_is_read : (x : Contents) → contents_refusal x ≡ None → (file_refusal (bytes_of x) ≡ None) × (contents_of (bytes_of x) ≡ x)
written_is_read x h =
    let p = both_stand (wrong_field (fields_of x)) (parts_fit x) h in
    let e = fields_back (fields_of x) (value_bytes x.list ++ (x.rows ++ table_bytes x.list)) in (
      accepted (bytes_of x)
          (record {
            long = omega (arith, length_bytes x);
            mark = refl;
            version = refl;
            within = ap wrong_field e ∙ p.0;
            whole = fits_length x p.1 ∙ ap file_length (sym e);
          }),
      contents_back x p.1,
    )

-- from a file to contents and back

pub accepted_by : (file : List ℕ) → file_refusal file ≡ None → Accepted file
accepted_by file h =
    let p =
    all_stand (leb 13 (length file)) (marked file) (eqb (two_bytes file 3) 1) (wrong_field (fields_at file))
    (eqb (length file) (file_length (fields_at file))) h
    in
    record {
      long = leb-true 13 (length file) p.0;
      mark = p.1;
      version = eqb-true (two_bytes file 3) 1 p.2;
      within = p.3;
      whole = eqb-true (length file) (file_length (fields_at file)) p.4;
    }

-- the list of a file of form m, whose check rows have r bytes
abbrev list_with : ℕ → ℕ → List ℕ → ListForm
list_with m r file = list_from m (13 + value_size m + r) file

-- such a file, with c bytes of a table if it has one, cut into its parts
pub record Cut (file : List ℕ) (r c m : ℕ) : Type 0 where
  pub number : form_number (list_with m r file) ≡ m
  pub tail :
      value_bytes (list_with m r file)
      ++ (between (13 + value_size m) (13 + value_size m + r) file ++ table_bytes (list_with m r file))
      ≡ drop 13 file
  pub in_rows : length (between (13 + value_size m) (13 + value_size m + r) file) ≡ r
  pub in_table : length (table_bytes (list_with m r file)) ≡ cond (eqb m 0) c 0

pub length_part : (xs : List ℕ) (i r : ℕ) → i + r ≤ length xs → length (between i (i + r) xs) ≡ r
length_part xs i r h = omega (arith, length-between xs i (i + r) h)

pub two_parts : (xs : List ℕ) (i r : ℕ) → between i (i + r) xs ++ between (i + r) (length xs) xs ≡ drop i xs
two_parts xs i r =
    let n : (i + r) - i ≡ r = omega arith in
    let p : between i (i + r) xs ≡ take r (drop i xs) = ap (λ z. take z (drop i xs)) n in
    let q = take_rest xs (i + r) in
    let d = drop-drop r i xs in
    let t = take-append-drop r (drop i xs) in
    cc

pub last_part : (xs : List ℕ) (i r : ℕ) → length xs ≡ i + r → between i (i + r) xs ++ [] ≡ drop i xs
last_part xs i r h = append-nil (between i (i + r) xs) ∙ between_to_end xs i (i + r) (omega arith)

cut_table : (file : List ℕ) (r c : ℕ) → length file ≡ 13 + r + c → Cut file r c 0
cut_table file r c h =
    record {
      number = refl;
      tail = two_parts file 13 r;
      in_rows = length_part file 13 r (omega arith);
      in_table = omega (arith, length-between file (13 + r) (length file) (omega arith));
    }

cut_shifts : (file : List ℕ) (r c : ℕ) → length file ≡ 14 + r → Cut file r c 1
cut_shifts file r c h =
    let p = last_part file 14 r h in
    let d = drop_more file 13 0 (omega arith) in
    record { number = refl; tail = cc; in_rows = length_part file 14 r (omega arith); in_table = refl }

cut_multiplier : (file : List ℕ) (r c : ℕ) → length file ≡ 16 + r → Cut file r c 2
cut_multiplier file r c h =
    let p = last_part file 16 r h in
    let d = drop_more file 13 0 (omega arith) in
    let e = drop_more file 14 0 (omega arith) in
    let f = drop_more file 15 0 (omega arith) in
    record { number = refl; tail = cc; in_rows = length_part file 16 r (omega arith); in_table = refl }

cut_at : (file : List ℕ) (r c m : ℕ) → m ≤ 2 → length file ≡ 13 + value_size m + r + cond (eqb m 0) c 0 → Cut file r c m
cut_at file r c zero h l = cut_table file r c (omega arith)
cut_at file r c (suc zero) h l = cut_shifts file r c (omega arith)
cut_at file r c (suc (suc zero)) h l = cut_multiplier file r c (omega arith)
cut_at file r c (suc (suc (suc m))) h l = absurd (omega arith)

form_within : (f : Fields) → wrong_field f ≡ None → f.form ≤ 2
form_within f h = grind (arith, nat_tests)

opened : (xs : List ℕ) → 13 ≤ length xs
    → xs
    ≡ get_or xs 0 0 ∷ get_or xs 1 0 ∷ get_or xs 2 0 ∷ get_or xs 3 0 ∷ get_or xs 4 0 ∷ get_or xs 5 0 ∷ get_or xs 6 0 ∷ get_or xs 7 0
    ∷ get_or xs 8 0 ∷ get_or xs 9 0 ∷ get_or xs 10 0 ∷ get_or xs 11 0 ∷ get_or xs 12 0 ∷ drop 13 xs
opened xs h =
    let d0 = drop_more xs 0 0 (omega arith) in
    let d1 = drop_more xs 1 0 (omega arith) in
    let d2 = drop_more xs 2 0 (omega arith) in
    let d3 = drop_more xs 3 0 (omega arith) in
    let d4 = drop_more xs 4 0 (omega arith) in
    let d5 = drop_more xs 5 0 (omega arith) in
    let d6 = drop_more xs 6 0 (omega arith) in
    let d7 = drop_more xs 7 0 (omega arith) in
    let d8 = drop_more xs 8 0 (omega arith) in
    let d9 = drop_more xs 9 0 (omega arith) in
    let d10 = drop_more xs 10 0 (omega arith) in
    let d11 = drop_more xs 11 0 (omega arith) in
    let d12 = drop_more xs 12 0 (omega arith) in
    cc

marks : (a b c : ℕ) → (eqb a 0x50 && (eqb b 0x44 && eqb c 0x53)) ≡ true → (a ≡ 0x50) × (b ≡ 0x44) × (c ≡ 0x53)
marks a b c h = grind (arith, nat_tests)

-- an accepted file begins with the header of its fields
head_stands : (file : List ℕ) → get_or file 12 0 < 256 → Accepted file → head_bytes (fields_at file) ++ drop 13 file ≡ file
head_stands file low a =
    let m = marks (get_or file 0 0) (get_or file 1 0) (get_or file 2 0) a.mark in
    let m0 = m.0 in
    let m1 = m.1 in
    let m2 = m.2 in
    let v : get_or file 3 0 * 256 + get_or file 4 0 ≡ 1 = a.version in
    let v0 : get_or file 3 0 ≡ 0 = omega arith in
    let v1 : get_or file 4 0 ≡ 1 = omega arith in
    let c0 : (get_or file 11 0 * 256 + get_or file 12 0) / 256 ≡ get_or file 11 0 = omega arith in
    let c1 : (get_or file 11 0 * 256 + get_or file 12 0) % 256 ≡ get_or file 12 0 = omega arith in
    let o = opened file a.long in
    cc

-- parts that an accepted file is cut into are what it says
pub parts_are : (file : List ℕ) (x : Contents) → get_or file 12 0 < 256 → file_refusal file ≡ None → fields_of x ≡ fields_at file
    → value_bytes x.list ++ (x.rows ++ table_bytes x.list) ≡ drop 13 file → parts_fit x ≡ true
    → (file_refusal file ≡ None) × (x ≡ contents_of file) × (bytes_of x ≡ file)
parts_are file x low h same tail fit =
    let head = head_stands file low (accepted_by file h) in
    let bytes : bytes_of x ≡ file =
    ap (λ f. head_bytes f ++ (value_bytes x.list ++ (x.rows ++ table_bytes x.list))) same
    ∙ ap (λ z. head_bytes (fields_at file) ++ z) tail
    ∙ head
    in
    (h, sym (contents_back x fit) ∙ ap contents_of bytes, bytes)

pub read_is_written : (file : List ℕ) → Bytes file → file_refusal file ≡ None
    → (contents_refusal (contents_of file) ≡ None) × (bytes_of (contents_of file) ≡ file)
read_is_written file b h =
    let a = accepted_by file h in
    let x = contents_of file in
    let f = fields_at file in
    let cut : Cut file (rows_size f) (f.count * f.n) f.form =
    cut_at file (rows_size f) (f.count * f.n) f.form (form_within f a.within) a.whole
    in
    let number : form_number (list_at file) ≡ get_or file 10 0 = cut.number in
    let same : fields_of x ≡ f = cc in
    let rows = cut.in_rows in
    let table = cut.in_table ∙ ap table_size (sym same) in
    let fit : parts_fit x ≡ true = grind (arith, nat_tests) in
    let within : wrong_field (fields_of x) ≡ None = ap wrong_field same ∙ a.within in
    (simp (within, fit), (parts_are file x (b 12) h same cut.tail fit).2)

-- the same for an output
pub written : (x : Contents) (file : List ℕ) → wrong_field (fields_of x) ≡ None → parts_fit x ≡ true → file ≡ bytes_of x
    → Written x file
written x file w p e =
    let h : contents_refusal x ≡ None = simp (w, p) in
    let r = written_is_read x h in
    record { bytes = e; accepted = ap file_refusal e ∙ r.0; again = ap contents_of e ∙ r.1 }
