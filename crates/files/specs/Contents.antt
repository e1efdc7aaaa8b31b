-- What a scheme file says: its header fields, its check rows and its list form, as numbers and lists of numbers.
use Rattle.std.specs.Prelude.{ℕ, List}

-- the list form: the rows of a table; a step of shifts; or a step of shifts, a multiplier over them and the number of its powers
pub data ListForm : Type 0 where
  table : List ℕ → ListForm
  shifts : ℕ → ListForm
  multiplier : ℕ → ℕ → ℕ → ListForm

pub record Contents : Type 0 where
  pub family : ℕ
  pub base : ℕ
  pub n : ℕ
  pub k : ℕ
  pub t : ℕ
  pub count : ℕ
  pub rows : List ℕ
  pub list : ListForm

-- the header fields alone, with the number of the list form
pub record Fields : Type 0 where
  pub family : ℕ
  pub base : ℕ
  pub n : ℕ
  pub k : ℕ
  pub t : ℕ
  pub form : ℕ
  pub count : ℕ

abbrev pub form_number : ListForm → ℕ
form_number (table bytes) = 0
form_number (shifts step) = 1
form_number (multiplier step factor powers) = 2

abbrev pub fields_of : Contents → Fields
fields_of x =
    record { family = x.family; base = x.base; n = x.n; k = x.k; t = x.t; form = form_number x.list; count = x.count }
