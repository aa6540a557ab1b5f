-- Document 01, Proof table: the twelve rows hold.
use mathlib.Core.Option.{some}
use mathlib.Core.Path.{◌≡◌, refl}
use lib.IntN.{pos}
use Rattle.quotient.specs.Mul.{mul}
use Rattle.bicubic.specs.Bicubic.{gas1, gas2, gas3, gas4, bicubic}
use Rattle.tgas1_temperature_low.specs.Pieces.{low_pieces}
use Rattle.tgas1_temperature_middle.specs.Pieces.{middle_pieces}
use Rattle.tgas1_temperature_high.specs.Pieces.{high_pieces}
use Rattle.perfect.specs.Perfect.{perfect_gas}
use Rattle.air.specs.declared.Answer.{Answer}
use Rattle.air.specs.Quantities.{P0, D0, E0}
use Rattle.air.specs.Held.{held}
use Rattle.state.specs.State.{IsAnswer}
use Rattle.state.specs.ProofTable.{proof_table, AllHold}
use Rattle.air_temperature.proofs.Standard as temperature
use Rattle.air_entropy.proofs.Standard as entropy

e_row : (a : Answer) → IsAnswer 2 784084000 D0 a → (held a).value ≡ some (pos 77879435)
unfolding IsAnswer
e_row a h = entropy.ten_times_value (held a) h

t_row : (a : Answer) → IsAnswer 1 P0 D0 a → (held a).value ≡ some (pos 273213936)
unfolding IsAnswer perfect_gas
t_row a h = temperature.standard_value (held a) h

s_row : (a : Answer) → IsAnswer 2 E0 D0 a → (held a).value ≡ some (pos 61182203)
unfolding IsAnswer
s_row a h = entropy.standard_value (held a) h

pub proof_table_lem : AllHold proof_table
unfolding bicubic gas1 gas2 gas3 gas4 mul low_pieces middle_pieces high_pieces
proof_table_lem = (refl, (refl, (refl, (e_row, (t_row, (s_row, (refl, (refl, (refl, (refl, (refl, (refl, tt))))))))))))
