-- What mend prints for an input, by the answers of the public calls.
use Rattle.std.specs.Prelude.{◌≡◌, ℕ, zero, suc, ◌+◌, List, [], ◌∷◌, ◌++◌, length, MatchOption}
use Rattle.files.specs.Layout.{contents_of}
use Rattle.promises.specs.Scheme.{Scheme, scheme, Handed, Counts, none}
use Rattle.promises.specs.Calls.{Correcting, Call, correct, Corrects}
use Rattle.promises.specs.Promise.{Counting, Promise}
use Rattle.opening.specs.Opening.{scheme_refusal, handed_of, plan_of}
use Rattle.mending.specs.Input.{scheme_file, block_bytes, piece, pieces, well_formed}
use Rattle.mending.specs.Lines.{line, total, refused_line}

-- One block more: a call of correct on it, from the tally c to the tally `next`, and its line after the text `above`.
pub record Added (S : Scheme) (h : Handed) (number : ℕ) (v : List ℕ) (c next : Counts) (above text : List ℕ) : Type 0 where
  pub call : Correcting
  pub handed : call.handed ≡ h
  pub block : call.block ≡ v
  pub room : length call.before ≡ S.n
  pub does : Corrects S c call next
  pub lines : text ≡ above ++ line number call

-- The first i blocks of the bytes, one after another: the calls, the newest first, the tally and the lines that they leave.
abbrev pub Session : Scheme → Handed → List ℕ → ℕ → List Call → Counts → List ℕ → Type 0
Session S h bytes zero calls c text = (calls ≡ []) × (c ≡ none) × (text ≡ [])
Session S h bytes (suc i) calls c text =
    (past : List Call) × (earlier : Counts) × (before : List ℕ) × Session S h bytes i past earlier before
    × ((added : Added S h (i + 1) (piece S.n bytes i) earlier c before text) × (calls ≡ correct added.call ∷ past))

-- A live scheme's text: the lines of all blocks, each by a call under the scheme's promise, and the tally, which counts the well-formed blocks of the input.
pub record Reported (S : Scheme) (h : Handed) (bytes text : List ℕ) : Type 0 where
  pub calls : List Call
  pub tally : Counts
  pub lines : List ℕ
  pub session : Session S h bytes (pieces S.n bytes) calls tally lines
  pub whole : text ≡ lines ++ total tally
  pub promised : Promise S h
  pub counts : Counting S h (well_formed S.q S.n bytes (pieces S.n bytes)) tally

-- What is printed: a refusal if no scheme goes live, else the report of its blocks.
abbrev pub Printed : List ℕ → List ℕ → Type 0
Printed input text =
    MatchOption (scheme_refusal (scheme_file input))
    (Reported (scheme (plan_of (contents_of (scheme_file input))) (handed_of (contents_of (scheme_file input)))) (handed_of (contents_of (scheme_file input))) (block_bytes input) text)
    (λ r. text ≡ refused_line r)
