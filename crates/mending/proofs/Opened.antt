-- From an opened file to what mend prints.
use Rattle.std.proofs.Common.{◌≡◌, ℕ, List, Some, Option, sym, subst, MatchOption}
use Rattle.faults.specs.Refusal.{Refusal}
use Rattle.files.specs.Layout.{contents_of}
use Rattle.promises.specs.Scheme.{Handed, Scheme, scheme}
use Rattle.schemes.specs.Told.{kept}
use Rattle.opening.specs.Opening.{plan_of, handed_of, scheme_refusal}
use Rattle.opening.specs.Opened.{handed_held, IsOpened}
use Rattle.opening.specs.declared.opened.Opened.{Opened}
use Rattle.mending.specs.Input.{scheme_file, block_bytes}
use Rattle.mending.specs.Lines.{refused_line}
use Rattle.mending.specs.Printed.{Reported, Printed}

-- what is printed for an input with this refusal
abbrev Shown : List ℕ → List ℕ → Option Refusal → Type 0
Shown input text o =
    MatchOption o (Reported (scheme (plan_of (contents_of (scheme_file input))) (handed_of (contents_of (scheme_file input)))) (handed_of (contents_of (scheme_file input))) (block_bytes input) text)
    (λ r. text ≡ refused_line r)

pub report_of : (input file bytes text : List ℕ) (o : Opened) → file ≡ scheme_file input → bytes ≡ block_bytes input → IsOpened file o
    → Reported (kept o.live) (handed_held o) bytes text → Printed input text
report_of input file bytes text o e f opened report =
    let is = subst (λ (l : List ℕ). IsOpened l o) e opened in
    subst (Shown input text) (sym is.clear)
    (subst (λ (h : Handed). Reported (scheme (plan_of (contents_of (scheme_file input))) (handed_of (contents_of (scheme_file input)))) h (block_bytes input) text) is.handed
    (subst (λ (S : Scheme). Reported S (handed_held o) (block_bytes input) text) is.keeps
    (subst (λ (b : List ℕ). Reported (kept o.live) (handed_held o) b text) f report)))

pub refused_so : (input file text : List ℕ) (r : Refusal) → file ≡ scheme_file input → scheme_refusal file ≡ Some r → text ≡ refused_line r → Printed input text
refused_so input file text r e refused line =
    subst (Shown input text) (sym (subst (λ (l : List ℕ). scheme_refusal l ≡ Some r) e refused)) line
