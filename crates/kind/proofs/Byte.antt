-- A number that names a kind is a byte.
-- Assumes nothing.
use mathlib.Core.Bool.{Bool, true, false}
use mathlib.Core.Path.{◌≡◌, refl, sym, ap, ◌∙◌}
use Prim.Native.Nat.{ℕ, ◌<◌}
use native.Mathlib.Omega.{arith}
use borrow.Author.Tests.{ne_eqb, ltb-true, ltb-false}
use lib.Dec.{ltb}
use Rattle.kind.specs.Kind.{kind_of, is_known}
use Rattle.std.specs.Prelude.{None}

pub no_kind : (k : ℕ) → 255 < k → kind_of k ≡ None
no_kind k h = simp (ne_eqb k 1 (λ e. omega arith), ne_eqb k 2 (λ e. omega arith), ne_eqb k 3 (λ e. omega arith))

pub known_byte : (k : ℕ) → is_known (kind_of k) ≡ true → k < 256
known_byte k e = go (ltb 255 k) refl
  where
    go : (b : Bool) → ltb 255 k ≡ b → k < 256
    go true p =
        let f : true ≡ false = sym e ∙ ap is_known (no_kind k (ltb-true 255 k p)) in
        let z : ◌≡◌ {A = ℕ} 0 1 = cc in
        absurd (omega arith)
    go false p = omega (arith, ltb-false 255 k p)
