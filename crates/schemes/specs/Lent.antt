-- How what the inner functions hold reads in the definitions.
use Rattle.std.specs.Prelude.{ℕ, ◌+◌, ◌*◌, List, length, slice_range}
use Rattle.symbols.specs.Ring.{Ring, total}
use Rattle.codes.specs.Code.{code, term}
use Rattle.codes.specs.Code as codes
use Rattle.lists.specs.Meaning.{Meaning}
use Rattle.promises.specs.Scheme as promises
use Rattle.schemes.specs.declared.scheme.Handed.{Handed}
use Rattle.schemes.specs.declared.scheme.words.Code.{Code}

-- the code that is lent, by the rings of its kinds
abbrev pub code_lent : {K : Type 0} → (K → Ring) → Code K → codes.Code
code_lent ring c = code (ring c.kind.now) c.n c.k c.rows.now

-- the first `few` codes of row i of rows that are w codes wide
abbrev pub row : List ℕ → ℕ → ℕ → ℕ → List ℕ
row rows w i few = slice_range rows (i * w) (i * w + few)

-- check symbol j of the message that begins with u and has 0 at its other places
abbrev pub begun : codes.Code → List ℕ → ℕ → ℕ
begun C u j = total C.ring (length u) (term C u j)

-- what a call is handed, by the rings of its kinds and the meanings of its lists
abbrev pub handed_lent : {K L : Type 0} → (K → Ring) → (L → Meaning) → Handed K L → promises.Handed
handed_lent ring meaning h = promises.handing (ring h.kind.now) h.rows.now (meaning h.list.now)
