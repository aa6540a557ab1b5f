-- `bicubic::linear_by_square` meets its contract.
use mathlib.Core.Path.{◌≡◌, ◌∙◌}
use lib.IntN.{ℤ, ◌+ℤ◌}
use mir.Syntax.{w64}
use mir.Val.{SFits, to_z, of_z}
use Rattle.quotient.specs.Mul.{mul}
use Rattle.quotient.specs.Range.{In}
use Rattle.integer.proofs.Machine.{back, back_ok}
use Rattle.quotient.proofs.Machine.{in_back, in_ok, in_wider, in_fits}
use Rattle.bicubic.proofs.Ranges.{sum_in, once_in}
use Rattle.bicubic.proofs.linear_by_square.Goals as goal
use Rattle.bicubic.proofs.linear_by_square.Goals.{After-linear, After-mul, After-mul_small, Start}

abbrev sum : Start → ℤ
sum s = s.args.a +ℤ mul s.args.b s.args.y +ℤ mul s.args.c s.args.z

small : (s : Start) → In 57 (sum s)
small s = let p = s.requires in sum_in (in_wider tt p.0) (in_wider tt p.1.0) (in_wider tt p.1.1.0) p.1.1.1.0 p.1.1.1.1

fit : (s : Start) → SFits w64 (sum s)
fit s = in_fits (in_wider tt (small s))

pub mul_small-requires : goal.mul_small-requires
mul_small-requires c =
    let s = c.before in (in_back s.ranges.c s.requires.1.1.0, in_back s.ranges.z s.requires.1.1.1.1)

-- the sum's two parts, as the machine reads them
line : (c : After-linear) → to_z w64 (of_z w64 c.linear.result) ≡ c.args.a +ℤ mul c.args.b c.args.y
line c =
    let s = c.before in
    back_ok c.linear.result c.linear.type_inv ∙ (rw (back s.ranges.a, back s.ranges.b, back s.ranges.y) at c.linear.ensures)

last : (c : After-mul_small) → to_z w64 (of_z w64 c.mul_small.result) ≡ mul c.args.c c.args.z
last c =
    let s = c.before.before in
    back_ok c.mul_small.result c.mul_small.type_inv ∙ (rw (back s.ranges.c, back s.ranges.z) at c.mul_small.ensures)

pub overflow_add-linear : goal.overflow_add-linear
overflow_add-linear c = rw (line c.before, last c) (fit c.before.before)

pub mul-requires : goal.mul-requires
mul-requires c =
    let s = c.before.before in
    (rw (line c.before, last c, back (fit s)) (small s), in_back s.ranges.z s.requires.1.1.1.1)

once : (c : After-mul) → c.mul.result ≡ mul (sum c.before.before.before) c.args.z
once c =
    let s = c.before.before.before in
    rw (line c.before.before, last c.before, back (fit s), back s.ranges.z) at c.mul.ensures

pub mul-requires-2 : goal.mul-requires-2
mul-requires-2 c =
    let s = c.before.before.before in
    let p = s.requires in
    (in_ok (once c) c.mul.type_inv (once_in (in_wider tt p.0) (in_wider tt p.1.0) (in_wider tt p.1.1.0) p.1.1.1.0 p.1.1.1.1), in_back s.ranges.z p.1.1.1.1)

pub returns : goal.returns
returns c =
    let d = c.before in
    rw (back_ok c.mul-2.result c.mul-2.type_inv)
    (rw (back_ok d.mul.result d.mul.type_inv, once d, back d.ranges.z) at c.mul-2.ensures)
