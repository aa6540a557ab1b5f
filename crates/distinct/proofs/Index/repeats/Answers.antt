-- `Index::repeats` meets its contract: the loop keeps the table of the records passed, whose names differ. Assumes nothing.
use mathlib.Core.List.{List}
use mathlib.Core.Path.{◌≡◌, refl, sym, ap, ◌∙◌}
use Prim.Native.Nat.{ℕ}
use Rattle.distinct.specs.Chain.{name_of, has_name}
use Rattle.distinct.proofs.Pairs.{apart_repeats, found_repeats}
use Rattle.distinct.proofs.Walk.{walked_missed, walked_met}
use Rattle.distinct.proofs.Table.{table_start, table_next, apart_next}
use native.Mathlib.Omega.{arith}
use Rattle.distinct.proofs.Index.repeats.Goals as goal

pub loop-i-init : goal.loop-i-init
loop-i-init c =
    let b = c.requires.2 in
    (refl, table_start c.args.s.now c.args.self.now.starts b.no_heads b.no_links, λ a b l m. absurd (omega arith))

pub returns-then-is_some-clause-value : goal.returns-then-is_some-clause-value
returns-then-is_some-clause-value c =
    let s = c.args.s.now in
    let g = c.loop-i.self in
    let n : c.name_at-name.result.now ≡ name_of s g.starts c.loop-i.i = c.name_at-name.ensures ∙ rw c.from.ensures in
    let w = walked_met s g.starts g.next c.name_at-name.result.now c.in_chain.ensures (sym c.is_some.ensures ∙ c.if-is_some.true) in
    sym (rw c.loop-i.invariant.0 at (found_repeats s g.starts c.args.n w.0 c.loop-i.i
    (omega arith)
    (omega (arith, w.1, c.loop-i.invariant.1.low c.hash_of-h.result))
    (omega arith)
    (sym (ap (λ (x : List ℕ). has_name s g.starts x w.0) n) ∙ w.2)))

pub loop-i-preserved : goal.loop-i-preserved
loop-i-preserved c =
    let s = c.args.s.now in
    let i = c.loop-i.i in
    let g = c.loop-i.self in
    let t = c.loop-i.invariant.1 in
    let h = c.hash_of-h.result in
    let e : c.name_at-name.result.now ≡ name_of s g.starts i = c.name_at-name.ensures ∙ rw c.from.ensures in
    let p = rw e at c.hash_of-h.ensures.0 in
    let m = rw e at (walked_missed s g.starts g.next c.name_at-name.result.now c.in_chain.ensures (sym c.is_some.ensures ∙ c.if-is_some.false)) in (
      c.loop-i.invariant.0,
      table_next s g.starts g.heads g.next i h t (omega arith) c.hash_of-h.ensures.1 p m
          (λ j k. rw c.loop-i.invariant.0 (c.requires.1 j (omega arith))),
      apart_next s g.starts g.heads g.next i h t (omega arith) c.hash_of-h.ensures.1 p m c.loop-i.invariant.2,
    )

pub returns-clause-value : goal.returns-clause-value
returns-clause-value c =
    let e : c.args.n ≡ c.loop-i.i = omega arith in
    rw c.loop-i.invariant.0 at (sym (apart_repeats c.args.s.now c.loop-i.self.starts c.args.n (rw c.loop-i.invariant.0 (omega arith)) (rw e c.loop-i.invariant.2)))
