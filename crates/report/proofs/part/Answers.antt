-- `report::part` meets its contract.
use mathlib.Core.List.{List, ◌++◌}
use mathlib.Core.Path.{refl, ap, ◌∙◌}
use Prim.Native.Nat.{ℕ, ◌+◌}
use native.Mathlib.Omega.{arith}
use lib.ListN.{length, take, drop}
use Rattle.report.proofs.Output.{left_next, part_none, part_room, part_left, part_next}
use Rattle.report.proofs.part.Goals as goal

pub loop-from-init : goal.loop-from-init
loop-from-init c = (part_none _ _ _ _, omega arith, refl)

pub loop-from-preserved : goal.loop-from-preserved
loop-from-preserved c =
    let l = c.loop-from in
    let x = c.next_line-built.ensures in
    let a = c.append-at.ensures in
    let t = c.next_line-built.result.line.items in
    let put = a.out_after ∙ ap (λ (u : List ℕ). take l.at l.out ++ (u ++ drop (l.at + length t) l.out)) x.text in
    let n = part_next _ _ c.args.out.now _ _ l.from l.at l.invariant.0 _ t x (omega (arith, l.invariant.0.inside, c.if-out-at.false, c.len.ensures.value)) _ put in
    (rw a.value n, omega (arith, a.value, x.short, x.after), part_room _ _ _ _ _ _ _ n)

pub returns-then-out-at-clause-list_len_bound : goal.returns-then-out-at-clause-list_len_bound
returns-then-out-at-clause-list_len_bound c =
    let i = c.loop-from.invariant in
    λ h. omega (arith, i.0.inside, c.if-out-at.true, c.len.ensures.value, part_left _ _ _ _ _ _ _ i.0, left_next _ _ _ _ _ c.next_line-built.ensures)
