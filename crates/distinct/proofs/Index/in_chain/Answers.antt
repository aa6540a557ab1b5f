-- `Index::in_chain` meets its contract: once no record from a link on has the name, none from the first link on has it.
-- A link leads to an earlier record, so the links fall. Assumes nothing.
use mathlib.Core.Path.{◌≡◌, sym, ◌∙◌}
use Prim.Native.Nat.{◌-◌}
use Rattle.distinct.specs.Chain.{met, missed}
use Rattle.distinct.proofs.Walk.{missed_none, missed_before}
use native.Mathlib.Omega.{arith}
use Rattle.distinct.proofs.Index.in_chain.Goals as goal

pub returns-then-has_name : goal.returns-then-has_name
returns-then-has_name c = met (omega (arith, c.loop-link.invariant.0)) (sym (rw c.from.ensures at c.has_name.ensures) ∙ c.if-has_name.true)

pub loop-link-preserved : goal.loop-link-preserved
loop-link-preserved c =
    let g = c.args in
    let k = c.loop-link.link in (
      omega (arith, c.requires.2 (k - 1)),
      λ m. c.loop-link.invariant.1
          (missed_before g.s.now g.self.now.starts g.self.now.next g.name.now k (omega arith) (sym (rw c.from.ensures at c.has_name.ensures) ∙ c.if-has_name.false) (rw c.from-link-in-loop-link.ensures at m)),
    )

pub returns : goal.returns
returns c =
    let g = c.args in
    let e : c.loop-link.link ≡ 0 = omega arith in
    missed (c.loop-link.invariant.1 (rw e (missed_none g.s.now g.self.now.starts g.self.now.next g.name.now)))
