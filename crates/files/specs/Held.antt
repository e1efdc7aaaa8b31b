-- What the types of the code hold, as numbers and lists.
use Rattle.std.specs.Prelude.{◌≡◌, ℕ, ◌<◌, Result, MatchResult}
use Rattle.faults.specs.declared.Fault.{Fault}
use Rattle.faults.specs.declared.Fault.TheVariants.{FileField}
use Rattle.files.specs.Contents.{ListForm, table, shifts, multiplier, Contents}
use Rattle.files.specs.declared.Family.{Family}
use Rattle.files.specs.declared.Family.TheVariants.{Residues, TwoPower}
use Rattle.files.specs.declared.Form.{Form}
use Rattle.files.specs.declared.Form.TheVariants.{Table, Shifts, Multiplier}
use Rattle.files.specs.declared.SchemeFile.{SchemeFile}

abbrev pub family_number : Family → ℕ
family_number Residues = 0
family_number TwoPower = 1

-- the result is the family with this number, or the refusal of a number that no family has
abbrev pub NamesFamily : ℕ → Result Family Fault → Type 0
NamesFamily number r = MatchResult r (λ family. family_number family ≡ number) (λ e. (1 < number) × (e ≡ FileField 5))

abbrev pub list_of : Form → ListForm
list_of (Table part) = table part.now
list_of (Shifts step) = shifts step
list_of (Multiplier step factor powers) = multiplier step factor powers

-- what a scheme file's value holds
abbrev pub contents : SchemeFile → Contents
contents s =
    record {
      family = family_number s.family;
      base = s.base;
      n = s.n;
      k = s.k;
      t = s.t;
      count = s.count;
      rows = s.rows.now;
      list = list_of s.form;
    }
