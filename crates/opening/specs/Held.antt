-- What the types of the code mean.
use Rattle.std.specs.Prelude.{◌≡◌, None}
use Rattle.symbols.specs.Ring.{Ring, residues}
use Rattle.symbols.specs.Polynomials.{two_power}
use Rattle.lists.specs.Meaning.{Meaning, Bounds, table, shifts, multiplied}
use Rattle.lists.specs.Bounded.{table_bounds, shifts_bounds, multiplied_bounds}
use Rattle.promises.specs.Scheme.{Plan, Handed, scheme, none}
use Rattle.promises.specs.Promise.{Promise}
use Rattle.schemes.specs.declared.scheme.Live.{Live}
use Rattle.schemes.specs.Told.{kept, tallied}
use Rattle.opening.specs.Opening.{live_refusal}
use Rattle.opening.specs.declared.kinds.FileKind.{FileKind}
use Rattle.opening.specs.declared.kinds.FileKind.TheVariants.{Residues, TwoPower}
use Rattle.opening.specs.declared.lists_of_files.FileList.{FileList}
use Rattle.opening.specs.declared.lists_of_files.FileList.TheVariants.{Table, Shifts, Multiplier}

abbrev pub ring_held : FileKind → Ring
ring_held (Residues kind) = residues kind.b
ring_held (TwoPower kind) = two_power kind.w

abbrev pub meaning_held : FileList → Meaning
meaning_held (Table list) = table list.n list.part.now
meaning_held (Shifts list) = shifts list.n list.step list.number
meaning_held (Multiplier list) = multiplied list.g list.r (shifts list.below.n list.below.step list.below.number)

pub bounds_held : (l : FileList) → Bounds (meaning_held l)
bounds_held (Table list) = table_bounds list.n list.part.now
bounds_held (Shifts list) = shifts_bounds list.n list.step list.number
bounds_held (Multiplier list) = multiplied_bounds list.g list.r _ (shifts_bounds list.below.n list.below.step list.below.number)

-- A live scheme of these numbers with an empty tally, which no refusal kept from going live, and its promise.
pub record WentLive (D : Plan) (h : Handed) (live : Live) : Type 0 where
  pub clear : live_refusal D h ≡ None
  pub keeps : kept live ≡ scheme D h
  pub starts : tallied live ≡ none
  pub promised : Promise (kept live) h
