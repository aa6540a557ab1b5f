-- `proportion::scaled` is the quotient by 10^10: at once, or by 1,024 and then by 9,765,625.
use mathlib.Core.Path.{ap, ◌∙◌}
use lib.IntN.{ℤ, *ℤ_comm}
use lib.Signed.{shr_z}
use Rattle.weight.specs.Weight.{units}
use Rattle.integer.proofs.Machine.{back, back_ok}
use Rattle.proportion.proofs.scaled.Goals as goal

pub scaled_wide-requires : goal.scaled_wide-requires
scaled_wide-requires c = let s = c.before in rw (back s.ranges.w, back s.ranges.b) s.requires

pub returns-then-b-ltminus274877906943 : goal.returns-then-b-ltminus274877906943
returns-then-b-ltminus274877906943 c = let s = c.before.before in
    back_ok c.scaled_wide.result c.scaled_wide.type_inv ∙ (rw (back s.ranges.w, back s.ranges.b) at c.scaled_wide.ensures)

pub returns : goal.returns
returns c = let s = c.before.before.before in
    back_ok c.mul_short.result c.mul_short.type_inv
    ∙ (rw (back s.ranges.w, back s.ranges.b) at c.mul_short.ensures)
    ∙ ap (λ (x : ℤ). shr_z x units) (*ℤ_comm s.args.b s.args.w)
