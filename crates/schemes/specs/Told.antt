-- How the values of the code read in the definitions.
use Rattle.std.specs.Prelude.{◌≡◌, ℕ, List, Some, None, Ok, Err, Option, Result}
use Rattle.faults.specs.declared.Fault.{Fault}
use Rattle.faults.specs.Refusal.{Refusal, refusal}
use Rattle.schemes.specs.declared.scheme.Draft.{Draft}
use Rattle.schemes.specs.declared.scheme.Live.{Live}
use Rattle.schemes.specs.declared.scheme.Rejected.{Rejected}
use Rattle.schemes.specs.declared.scheme.Tally.{Tally}
use Rattle.promises.specs.Scheme.{Plan, plan, Handed, Scheme, scheme, Counts, none}
use Rattle.promises.specs.Trial.{verdict}
use Rattle.promises.specs.Calls.{Encoding, Correcting}

-- A call answers by a refusal exactly when there is one, and else by a value that has the property P.
abbrev pub Answers : {A : Type 0} → Option Refusal → Result A Fault → (A → Type 0) → Type 0
Answers o (Ok x) P = (o ≡ None) × P x
Answers o (Err f) P = o ≡ Some (refusal f)

-- what a draft holds
abbrev pub planned : Draft → Plan
planned d = plan d.n d.k d.t d.q

-- what a live scheme keeps, and its tally
abbrev pub kept : Live → Scheme
kept s = record { n = s.draft.n; k = s.draft.k; t = s.draft.t; q = s.draft.q; m = s.m }

abbrev pub counts : Tally → Counts
counts t = record { blocks = t.blocks; clean = t.clean; mended = t.mended; lost = t.lost; symbols = t.symbols }

abbrev pub tallied : Live → Counts
tallied s = counts s.count.tally

-- The trial of a draft: a live scheme of its numbers with an empty tally, or the same draft with the first refusal.
abbrev pub Tried : Plan → Handed → Result Live Rejected → Type 0
Tried D h (Ok live) = (verdict D h ≡ None) × (kept live ≡ scheme D h) × (tallied live ≡ none)
Tried D h (Err x) = (verdict D h ≡ Some (refusal x.fault)) × (planned x.draft ≡ D)

-- an answer with its refusal
abbrev pub answered : {A : Type 0} → Result A Fault → Result A Refusal
answered (Ok x) = Ok x
answered (Err f) = Err (refusal f)

-- the calls, as data
abbrev pub encoding : Handed → List ℕ → List ℕ → Result (Unit {0}) Fault → List ℕ → Encoding
encoding h u before answer after = record { handed = h; message = u; before = before; answer = answered answer; after = after }

abbrev pub correcting : Handed → List ℕ → List ℕ → Result (ℕ × ℕ) Fault → List ℕ → Correcting
correcting h v before answer after = record { handed = h; block = v; before = before; answer = answered answer; after = after }
