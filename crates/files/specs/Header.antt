-- What a header of the code holds, as numbers.
use Rattle.std.specs.Prelude.{◌≡◌, ℕ, ◌<◌, Result, MatchResult}
use Rattle.faults.specs.declared.Fault.{Fault}
use Rattle.faults.specs.declared.Fault.TheVariants.{FileField}
use Rattle.files.specs.Contents.{Fields}
use Rattle.files.specs.Held.{family_number}
use Rattle.files.specs.declared.header.FormKind.{FormKind}
use Rattle.files.specs.declared.header.FormKind.TheVariants.{Table, Shifts, Multiplier}
use Rattle.files.specs.declared.header.Header.{Header}

abbrev pub kind_number : FormKind → ℕ
kind_number Table = 0
kind_number Shifts = 1
kind_number Multiplier = 2

-- the result is the form with this number, or the refusal of a number that no form has
abbrev pub NamesForm : ℕ → Result FormKind Fault → Type 0
NamesForm number r = MatchResult r (λ kind. kind_number kind ≡ number) (λ e. (2 < number) × (e ≡ FileField 10))

abbrev pub fields : Header → Fields
fields h =
    record { family = family_number h.family; base = h.base; n = h.n; k = h.k; t = h.t; form = kind_number h.form; count = h.count }
