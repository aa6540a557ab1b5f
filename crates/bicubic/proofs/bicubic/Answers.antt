-- `bicubic::bicubic` meets its contract: the four parts are GAS1 to GAS4, and their sums fit.
use mathlib.Core.Path.{◌≡◌, ◌∙◌}
use Prim.Native.Nat.{ℕ}
use lib.IntN.{ℤ, pos, ◌+ℤ◌}
use lib.ListN.{get_or}
use mir.Syntax.{w64}
use mir.Val.{SFits, to_z, of_z}
use Rattle.quotient.specs.Range.{In}
use Rattle.bicubic.specs.Bicubic.{gas1, gas2, gas3, gas4, bicubic}
use Rattle.bicubic.proofs.Size.{upto_plus}
use Rattle.integer.proofs.Machine.{back, back_ok}
use Rattle.quotient.proofs.Machine.{in_back, in_wider, in_fits, all_at}
use Rattle.bicubic.proofs.Ranges.{within, linear_upto, linear_by_upto, square_upto}
use Rattle.bicubic.proofs.bicubic.Goals as goal
use Rattle.bicubic.proofs.bicubic.Goals.{After-linear, After-linear_by, After-linear_by_square, After-linear_by_square-2, Start}

-- the arguments' ranges, and the same as the machine reads them
k : (s : Start) (i : ℕ) → In 44 (get_or s.args.k i (pos 0))
k s i = in_wider tt (all_at s.requires.0 i)

y : (s : Start) → In 25 s.args.y
y s = s.requires.1.0

z : (s : Start) → In 25 s.args.z
z s = s.requires.1.1

fk : (s : Start) (i : ℕ) → SFits w64 (get_or s.args.k i (pos 0))
fk s i = in_fits (in_wider tt (k s i))

ik : (s : Start) (i : ℕ) → In 43 (to_z w64 (of_z w64 (get_or s.args.k i (pos 0))))
ik s i = in_back (fk s i) (all_at s.requires.0 i)

iy : (s : Start) → In 25 (to_z w64 (of_z w64 s.args.y))
iy s = in_back s.ranges.y (y s)

iz : (s : Start) → In 25 (to_z w64 (of_z w64 s.args.z))
iz s = in_back s.ranges.z (z s)

-- the sums
abbrev sum1 : Start → ℤ
sum1 s = gas1 s.args.k s.args.y

abbrev sum2 : Start → ℤ
sum2 s = sum1 s +ℤ gas2 s.args.k s.args.y s.args.z

abbrev sum3 : Start → ℤ
sum3 s = sum2 s +ℤ gas3 s.args.k s.args.y s.args.z

abbrev sum4 : Start → ℤ
sum4 s = sum3 s +ℤ gas4 s.args.k s.args.y s.args.z

f2 : (s : Start) → SFits w64 (sum2 s)
unfolding gas1 gas2
f2 s = in_fits (within 62 tt (upto_plus (linear_upto (k s 0) (k s 1) (y s)) (linear_by_upto (k s 2) (k s 3) (y s) (z s))))

f3 : (s : Start) → SFits w64 (sum3 s)
unfolding gas1 gas2 gas3
f3 s =
    in_fits
    (within 62 tt
    (upto_plus
    (upto_plus (linear_upto (k s 0) (k s 1) (y s)) (linear_by_upto (k s 2) (k s 3) (y s) (z s)))
    (square_upto (k s 4) (k s 5) (k s 6) (z s) (y s))))

f4 : (s : Start) → SFits w64 (sum4 s)
unfolding gas1 gas2 gas3 gas4
f4 s =
    in_fits
    (within 62 tt
    (upto_plus
    (upto_plus
    (upto_plus (linear_upto (k s 0) (k s 1) (y s)) (linear_by_upto (k s 2) (k s 3) (y s) (z s)))
    (square_upto (k s 4) (k s 5) (k s 6) (z s) (y s)))
    (square_upto (k s 7) (k s 8) (k s 9) (y s) (z s))))

-- the calls' results, as the machine reads them
e1 : (c : After-linear) → let s = c.before.before.before in to_z w64 (of_z w64 c.linear.result) ≡ gas1 s.args.k s.args.y
unfolding gas1
e1 c =
    let s = c.before.before.before in
    back_ok c.linear.result c.linear.type_inv ∙ (rw (back (fk s 0), back (fk s 1), back s.ranges.y) at c.linear.ensures)

e2 : (c : After-linear_by) → let s = c.before.before.before.before.before.before in to_z w64 (of_z w64 c.linear_by.result) ≡ gas2 s.args.k s.args.y s.args.z
unfolding gas2
e2 c =
    let s = c.before.before.before.before.before.before in
    back_ok c.linear_by.result c.linear_by.type_inv ∙ (rw (back (fk s 2), back (fk s 3), back s.ranges.y, back s.ranges.z) at c.linear_by.ensures)

e3 : (c : After-linear_by_square) → let s = c.before.before.before.before.before.before.before.before.before.before in to_z w64 (of_z w64 c.linear_by_square.result) ≡ gas3 s.args.k s.args.y s.args.z
unfolding gas3
e3 c =
    let s = c.before.before.before.before.before.before.before.before.before.before in
    back_ok c.linear_by_square.result c.linear_by_square.type_inv ∙ (rw (back (fk s 4), back (fk s 5), back (fk s 6), back s.ranges.z, back s.ranges.y) at c.linear_by_square.ensures)

e4 : (c : After-linear_by_square-2) → let s = c.before.before.before.before.before.before.before.before.before.before.before.before.before.before in to_z w64 (of_z w64 c.linear_by_square-2.result) ≡ gas4 s.args.k s.args.y s.args.z
unfolding gas4
e4 c =
    let s = c.before.before.before.before.before.before.before.before.before.before.before.before.before.before in
    back_ok c.linear_by_square-2.result c.linear_by_square-2.type_inv ∙ (rw (back (fk s 7), back (fk s 8), back (fk s 9), back s.ranges.y, back s.ranges.z) at c.linear_by_square-2.ensures)

pub linear-requires : goal.linear-requires
linear-requires c = let s = c.before.before in (ik s 0, (ik s 1, iy s))

pub linear_by-requires : goal.linear_by-requires
linear_by-requires c = let s = c.before.before.before.before.before in (ik s 2, (ik s 3, (iy s, iz s)))

pub overflow_add-result : goal.overflow_add-result
overflow_add-result c = rw (e1 c.before.before.before, e2 c) (f2 c.before.before.before.before.before.before)

pub linear_by_square-requires : goal.linear_by_square-requires
linear_by_square-requires c = let s = c.before.before.before.before.before.before.before.before.before in (ik s 4, (ik s 5, (ik s 6, (iz s, iy s))))

pub overflow_add-result-2 : goal.overflow_add-result-2
overflow_add-result-2 c = let s = c.before.before.before.before.before.before.before.before.before.before in rw (e1 c.before.before.before.before.before.before.before, e2 c.before.before.before.before, e3 c, back (f2 s)) (f3 s)

pub linear_by_square-requires-2 : goal.linear_by_square-requires-2
linear_by_square-requires-2 c = let s = c.before.before.before.before.before.before.before.before.before.before.before.before.before in (ik s 7, (ik s 8, (ik s 9, (iy s, iz s))))

pub overflow_add-result-3 : goal.overflow_add-result-3
overflow_add-result-3 c = let s = c.before.before.before.before.before.before.before.before.before.before.before.before.before.before in rw (e1 c.before.before.before.before.before.before.before.before.before.before.before, e2 c.before.before.before.before.before.before.before.before, e3 c.before.before.before.before, e4 c, back (f2 s), back (f3 s)) (f4 s)

pub returns : goal.returns
unfolding bicubic
returns c =
    let s = c.before.before.before.before.before.before.before.before.before.before.before.before.before.before in
    rw (e1 c.before.before.before.before.before.before.before.before.before.before.before, e2 c.before.before.before.before.before.before.before.before, e3 c.before.before.before.before, e4 c, back (f2 s), back (f3 s), back (f4 s))
