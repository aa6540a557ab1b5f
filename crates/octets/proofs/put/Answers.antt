-- `octets::put`: after i turns the room has the text's first i bytes before what it had from i on.
use mathlib.Core.List.{List, ◌++◌, ◌∷◌, []}
use mathlib.Core.Path.{◌≡◌, refl, ap, ◌∙◌}
use Prim.Native.Nat.{ℕ, ◌+◌, ◌≤◌, ◌<◌}
use native.Mathlib.Numerals.{add-one}
use native.Mathlib.Omega.{arith}
use borrow.Author.Tests.{le-leb}
use lib.ListN.{length, take, drop, set, get_or}
use lib.Seq.{take-suc, length-take-le, take-length}
use Rattle.octets.proofs.Stores.{put_more}
use Rattle.octets.proofs.put.Goals as goal

pub loop-i-init : goal.loop-i-init
loop-i-init c = refl

next : (text out₀ out : List ℕ) (i : ℕ) → i < length text → length text ≤ length out₀ → out ≡ take i text ++ drop i out₀ → set out i (get_or text i 0) ≡ take (i + 1) text ++ drop (i + 1) out₀
next text out₀ out i h k e =
    ap (λ (l : List ℕ). set l i (get_or text i 0)) e
    ∙ put_more (take i text) (get_or text i 0 ∷ []) out₀ i (length-take-le i text (omega arith)) (omega arith)
    ∙ rw (add-one, take-suc text i 0)

pub loop-i-preserved : goal.loop-i-preserved
loop-i-preserved c = next _ _ _ c.loop-i.i c.loop-i-test.true c.if-out-text.false c.loop-i.invariant

all : (text out₀ out : List ℕ) (i : ℕ) → i ≡ length text → out ≡ take i text ++ drop i out₀ → out ≡ text ++ drop (length text) out₀
all text out₀ out i e h = h ∙ ap (λ (n : ℕ). take n text ++ drop n out₀) e ∙ ap (λ (l : List ℕ). l ++ drop (length text) out₀) (take-length text)

pub returns-clause-out_after : goal.returns-clause-out_after
returns-clause-out_after c =
    let e : c.loop-i.i ≡ length c.args.text.now = omega (arith, c.loop-i-test.false, c.loop-i.auto.i-end) in
    simp (le-leb _ _ c.if-out-text.false) (all _ _ _ c.loop-i.i e c.loop-i.invariant)
