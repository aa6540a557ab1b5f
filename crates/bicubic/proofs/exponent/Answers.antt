-- `bicubic::exponent` meets its contract.
use mathlib.Core.Path.{◌≡◌, ◌∙◌}
use Prim.Native.Nat.{ℕ}
use lib.IntN.{ℤ, pos, ◌+ℤ◌}
use lib.ListN.{get_or}
use mir.Syntax.{w64}
use mir.Val.{SFits, to_z, of_z}
use Rattle.quotient.specs.Range.{In}
use Rattle.quotient.specs.Mul.{mul}
use Rattle.bicubic.specs.Bicubic.{coefficient, exponent}
use Rattle.integer.proofs.Machine.{back, back_ok}
use Rattle.quotient.proofs.Machine.{in_back, in_ok, in_wider, in_fits, all_at}
use Rattle.bicubic.proofs.Ranges.{linear_in, sum_in, term_in, exponent_size}
use Rattle.bicubic.proofs.exponent.Goals as goal
use Rattle.bicubic.proofs.exponent.Goals.{After-mul_wide, After-mul_wide-2, After-mul_wide-3, After-mul_wide-4, Start}

-- the arguments' ranges, and the same as the machine reads them
k : (s : Start) (i : ℕ) → In 44 (get_or s.args.c i (pos 0))
k s i = all_at s.requires.0 i

fk : (s : Start) (i : ℕ) → SFits w64 (get_or s.args.c i (pos 0))
fk s i = in_fits (in_wider tt (k s i))

ik : (s : Start) (i : ℕ) → In 44 (to_z w64 (of_z w64 (get_or s.args.c i (pos 0))))
ik s i = in_back (fk s i) (k s i)

iy : (s : Start) → In 25 (to_z w64 (of_z w64 s.args.y))
iy s = in_back s.ranges.y s.requires.1.0

iz : (s : Start) → In 25 (to_z w64 (of_z w64 s.args.z))
iz s = in_back s.ranges.z s.requires.1.1

-- the sums
abbrev co : Start → ℕ → ℤ
co s i = coefficient s.args.c i

abbrev line : Start → ℤ
line s = co s 0 +ℤ mul (co s 1) s.args.y

abbrev plane : Start → ℤ
plane s = line s +ℤ mul (co s 2) s.args.z

abbrev whole : Start → ℤ
whole s = plane s +ℤ mul (mul (co s 3) s.args.y) s.args.z

f1 : (s : Start) → SFits w64 (line s)
f1 s = in_fits (in_wider tt (linear_in (k s 0) (k s 1) s.requires.1.0))

f2 : (s : Start) → SFits w64 (plane s)
f2 s = in_fits (in_wider tt (sum_in (k s 0) (k s 1) (k s 2) s.requires.1.0 s.requires.1.1))

f3 : (s : Start) → SFits w64 (whole s)
f3 s = in_fits (in_wider tt (exponent_size (k s 3) s.requires.1.0 s.requires.1.1 (k s 0) (k s 1) (k s 2)))

-- the calls' results
e1 : (c : After-mul_wide) → let s = c.before.before.before in to_z w64 (of_z w64 c.mul_wide.result) ≡ mul (co s 1) s.args.y
e1 c =
    let s = c.before.before.before in
    back_ok c.mul_wide.result c.mul_wide.type_inv ∙ (rw (back (fk s 1), back s.ranges.y) at c.mul_wide.ensures)

e2 : (c : After-mul_wide-2) → let s = c.before.before.before.before.before in to_z w64 (of_z w64 c.mul_wide-2.result) ≡ mul (co s 2) s.args.z
e2 c =
    let s = c.before.before.before.before.before in
    back_ok c.mul_wide-2.result c.mul_wide-2.type_inv ∙ (rw (back (fk s 2), back s.ranges.z) at c.mul_wide-2.ensures)

e3 : (c : After-mul_wide-3) → let s = c.before.before.before.before.before.before.before in c.mul_wide-3.result ≡ mul (co s 3) s.args.y
e3 c = let s = c.before.before.before.before.before.before.before in rw (back (fk s 3), back s.ranges.y) at c.mul_wide-3.ensures

e4 : (c : After-mul_wide-4) → let s = c.before.before.before.before.before.before.before.before in to_z w64 (of_z w64 c.mul_wide-4.result) ≡ mul (mul (co s 3) s.args.y) s.args.z
e4 c =
    let s = c.before.before.before.before.before.before.before.before in
    let d = c.before in
    back_ok c.mul_wide-4.result c.mul_wide-4.type_inv
    ∙ (rw (back_ok d.mul_wide-3.result d.mul_wide-3.type_inv, e3 d, back s.ranges.z) at c.mul_wide-4.ensures)

pub mul_wide-requires : goal.mul_wide-requires
mul_wide-requires c = let s = c.before.before in (in_wider tt (ik s 1), iy s)

pub overflow_add-result : goal.overflow_add-result
overflow_add-result c = let s = c.before.before.before in rw (back (fk s 0), e1 c) (f1 s)

pub mul_wide-requires-2 : goal.mul_wide-requires-2
mul_wide-requires-2 c = let s = c.before.before.before.before in (in_wider tt (ik s 2), iz s)

pub overflow_add-result-2 : goal.overflow_add-result-2
overflow_add-result-2 c =
    let s = c.before.before.before.before.before in
    rw (back (fk s 0), e1 c.before.before, e2 c, back (f1 s)) (f2 s)

pub mul_wide-requires-3 : goal.mul_wide-requires-3
mul_wide-requires-3 c = let s = c.before.before.before.before.before.before in (in_wider tt (ik s 3), iy s)

pub mul_wide-requires-4 : goal.mul_wide-requires-4
mul_wide-requires-4 c =
    let s = c.before.before.before.before.before.before.before in
    (in_ok (e3 c) c.mul_wide-3.type_inv (term_in (k s 3) s.requires.1.0 s.requires.1.1), iz s)

pub overflow_add-result-3 : goal.overflow_add-result-3
overflow_add-result-3 c =
    let s = c.before.before.before.before.before.before.before.before in
    rw (back (fk s 0), e1 c.before.before.before.before.before, e2 c.before.before.before, e4 c, back (f1 s), back (f2 s)) (f3 s)

pub returns : goal.returns
unfolding exponent
returns c =
    let s = c.before.before.before.before.before.before.before.before in
    rw (back (fk s 0), e1 c.before.before.before.before.before, e2 c.before.before.before, e4 c, back (f1 s), back (f2 s), back (f3 s))
