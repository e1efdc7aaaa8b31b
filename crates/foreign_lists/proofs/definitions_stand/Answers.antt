use Rattle.std.proofs.Common.{◌≡◌, ℕ, ◌+◌, ◌*◌, ◌/◌, ◌%◌, ◌^◌, min, length, ap, ◌∙◌, arith}
use Rattle.foreign_lists.proofs.definitions_stand.Goals as goal
use Rattle.foreign_lists.specs.Rules.{Numbering, PlainShifts, PlainTables}
use Rattle.lists.specs.Meaning.{Fair}
use Rattle.std.proofs.lemmas.Nat.{div-mul-add, mod-mul-add, div-add-mod'}

numbered : Numbering
numbered g r M i j p h =
    let m = M.count in
    ap (λ x. M.target ((i * m + j) % m) ((g ^ x * p) % M.places)) (div-mul-add i m j h)
    ∙ ap (λ x. M.target x ((g ^ i * p) % M.places)) (mod-mul-add i m j h)

plain_shifts : PlainShifts
plain_shifts n s c j p short h = (omega arith, omega arith)

whole_rows : (n size : ℕ) → Fair n size → min (size / n) 512 * n ≡ size
whole_rows n size fair =
    let all : min (size / n) 512 ≡ size / n = omega arith in
    ap (λ x. x * n) all ∙ omega (arith, div-add-mod' size n)

plain_tables : PlainTables
plain_tables n bytes i p fair byte = (omega arith, whole_rows n (length bytes) fair, omega arith)

pub returns : goal.returns
returns c = record { numbering = numbered; shifts = plain_shifts; tables = plain_tables }
