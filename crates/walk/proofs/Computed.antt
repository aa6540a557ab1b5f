-- A walk over two states, computed: its steps, their end and their refusals.
use mathlib.Core.List.{List, [], ◌∷◌}
use mathlib.Core.Path.{◌≡◌, refl}
use Prim.Native.Nat.{ℕ}
use Rattle.octets.specs.Bytes.{number_at, after}
use Rattle.octets.specs.Room.{refused, text}
use Rattle.name.specs.Spelling.{unreserved, spelled_byte, spelled}
use Rattle.decimal.specs.Decimal.{natural, digits}
use Rattle.air.specs.Choices.{Choices}
use Rattle.state.specs.State.{answer_by}
use Rattle.sheet_record.specs.Front.{front_of}
use Rattle.sheet.specs.Sheet.{sheet_by, sheet_of, walk}
use Rattle.sheet.proofs.Computed.{sheet_with, record_with}
use Rattle.sheet_walk.specs.Records.{record_in}
use Rattle.line.specs.Line.{refusal_rest}
use Rattle.walk.specs.Walk.{begun_by, stepped, walk_after, step_of}
use Rattle.walk.specs.declared.Walk.{Walk}

-- two states whose densities are out of range, so that no choice is made: each line tells 11. One name is a slash
abbrev two : List ℕ
two = sheet_with 2 2 (record_with 97 1 (0 ∷ record_with 47 1 (0 ∷ [])))

abbrev at : ℕ → ℕ → Walk
at given count = record { given = given; count = count }

pub begins : (begun_by (sheet_of two) ≡ record { number = 0; walk = at 0 2 }) × (begun_by (sheet_of (sheet_with 2 2 [])) ≡ record { number = 4; walk = at 0 0 })
unfolding sheet_by walk front_of number_at after
begins = (refl, refl)

-- the lines in order; nothing behind the walk's last, the sheet's, or where more are given than there are; 14 only where there is a line
pub walks :
    (c : Choices)
    → (stepped c two (at 0 2) 7 ≡ text (97 ∷ 32 ∷ 33 ∷ 32 ∷ 49 ∷ 49 ∷ 10 ∷ []))
    × (stepped c two (at 1 2) 9 ≡ text (37 ∷ 50 ∷ 70 ∷ 32 ∷ 33 ∷ 32 ∷ 49 ∷ 49 ∷ 10 ∷ []))
    × (stepped c two (at 0 2) 6 ≡ refused 14)
    × (stepped c two (at 1 1) 0 ≡ text [])
    × (stepped c two (at 2 9) 0 ≡ text [])
    × (stepped c two (at 9 2) 0 ≡ text [])
    × (stepped c (sheet_with 2 2 []) (at 9 2) 0 ≡ refused 4)
unfolding stepped sheet_by walk front_of number_at after record_in answer_by refusal_rest spelled spelled_byte unreserved natural digits
walks c = (refl, refl, refl, refl, refl, refl, refl)

-- a line advances; a refusal, and nothing, leave the walk
pub tells :
    (step_of (at 3 9) (text (10 ∷ [])) ≡ record { number = 0; length = 1; walk = at 4 9 })
    × (step_of (at 3 9) (text []) ≡ record { number = 0; length = 0; walk = at 3 9 })
    × (step_of (at 3 9) (refused 14) ≡ record { number = 14; length = 0; walk = at 3 9 })
    × (walk_after (at 3 9) (refused 14) ≡ at 3 9)
tells = (refl, refl, refl, refl)
