use Rattle.std.proofs.Common.{refl, lit<, lit≤}
use Rattle.symbols.specs.Families.{residue_rules}
use Rattle.worked.specs.Worked.{nines}
use Rattle.worked.proofs.Tested.{called_finds, called_loses}
use Rattle.worked.proofs.worked_schemes.Goals as goal

pub returns : goal.returns
returns c = record {
  given = record {
    binary = refl;
    three_shifts = refl;
    two_shifts = refl;
    two_errors = refl;
    swapped = refl;
    ternary = refl;
    polynomials = refl;
    counting = refl;
    repeated = refl;
    damaged = refl;
    mended = refl;
    ternary_damaged = refl;
    ternary_mended = refl;
    halved = refl;
    draft = refl;
    large_draft = refl;
  };
  binary = called_finds _ _ (nines 7) (residue_rules 2 (lit≤ tt) (lit≤ tt)) (lit< tt) (lit< tt) refl refl refl 4 refl refl;
  three_shifts = refl;
  two_shifts = refl;
  two_errors = refl;
  swapped = refl;
  ternary = called_finds _ _ (nines 4) (residue_rules 3 (lit≤ tt) (lit≤ tt)) (lit< tt) (lit< tt) refl refl refl 2 refl refl;
  polynomials = refl;
  counting = refl;
  repeated = called_loses _ _ (nines 4) (residue_rules 2 (lit≤ tt) (lit≤ tt)) (lit< tt) (lit< tt) refl refl refl refl refl;
  draft = refl;
  large_draft = refl;
}
