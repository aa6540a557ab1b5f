-- `sheet_record::number` reads a number byte by byte. The invariant: the number of the first i bytes is below 256 to the power i.
use Rattle.std.proofs.Common.{◌≡◌, List, ℕ, ◌<◌, ◌≤◌, ◌-◌, ◌+◌, length, take, drop, refl, ap, ◌∙◌, arith, length-take, length-drop}
use native.Mathlib.Nat.{add-sub_cancel_left}
use lib.Seq.{take_all}
use Rattle.octets.specs.Bytes.{number_at, after}
use Rattle.octets.proofs.Numbers.{number_next, room}
use Rattle.sheet_record.proofs.number.Goals as goal

-- the bytes that are read
module _ (s : List ℕ) (at k : ℕ) (h : at + k ≤ length s) where
  as_long : length (take (at + k - at) (drop at s)) ≡ k
  as_long = simp (length-take, length-drop) (omega arith)

  same_number : number_at k (take (at + k - at) (drop at s)) 0 ≡ number_at k s at
  unfolding number_at
  same_number = ap (after 0) (take_all k (take (at + k - at) (drop at s)) (omega (arith, as_long)) ∙ rw (add-sub_cancel_left at k))

pub loop-b-init : goal.loop-b-init
unfolding number_at after
loop-b-init c = (refl, omega arith)

pub overflow_mul-n : goal.overflow_mul-n
overflow_mul-n c =
    let l = c.loop-b in
    let h : l.b-index < 8 = omega (arith, as_long c.args.s.now c.args.at c.args.k c.requires.1) in
    let r = room l.b-index l.n 0 h l.invariant.1 (omega arith) in
    record { fits = omega arith }

pub overflow_add-n : goal.overflow_add-n
overflow_add-n c =
    let l = c.loop-b in
    let h : l.b-index < 8 = omega (arith, as_long c.args.s.now c.args.at c.args.k c.requires.1) in
    let r = room l.b-index l.n c.from.result h l.invariant.1 (omega arith) in
    record { fits = omega arith }

pub loop-b-preserved : goal.loop-b-preserved
loop-b-preserved c =
    let l = c.loop-b in
    let g = c.args in
    let d : List ℕ = take (g.at + g.k - g.at) (drop g.at g.s.now) in
    let h : l.b-index < 8 = omega (arith, as_long g.s.now g.at g.k c.requires.1) in
    let r = room l.b-index l.n c.from.result h l.invariant.1 (omega arith) in
    let e : 0 + l.b-index ≡ l.b-index = omega arith in
    (omega (arith, rw e at (number_next l.b-index d 0 (omega arith)), l.invariant.0, c.from.ensures), r.0)

pub returns : goal.returns
returns c =
    let g = c.args in
    let e : c.loop-b.b-index ≡ g.k = omega (arith, as_long g.s.now g.at g.k c.requires.1) in
    rw e at c.loop-b.invariant.0 ∙ same_number g.s.now g.at g.k c.requires.1
