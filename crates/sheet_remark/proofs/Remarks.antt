-- A remark by how many bytes follow a second value.
use mathlib.Core.List.{List}
use mathlib.Core.Option.{some}
use mathlib.Core.Path.{◌≡◌, refl, sym, ap, subst, ◌∙◌}
use Prim.Native.Nat.{ℕ, zero, suc, ◌+◌, ◌-◌, ◌≤◌}
use native.Mathlib.Numerals.{unary_clauses}
use native.Mathlib.Omega.{arith}
use lib.ListN.{length, drop}
use Rattle.sheet_record.specs.Layout.{layout_in}
use Rattle.sheet_record.specs.Front.{Tailed, Whole}
use Rattle.sheet_record.proofs.Tails.{tail_is}
use Rattle.sheet_remark.specs.Remark.{remark_at}
use Rattle.sheet_remark.specs.declared.Part.{Part}

module _ (s : List ℕ) (end : ℕ) (w : Whole (layout_in s) s end) where
  -- the remark there, and the same by the bytes that follow
  abbrev there : Part
  there = remark_at end ((layout_in s).tail (drop end s))

  by_tail : there ≡ remark_at end (some w.tail)
  by_tail = ap (remark_at end) w.tailed

  module _ (r : ℕ) (t : Tailed s end r) where
    pub whole_is : r ≡ w.tail
    whole_is = tail_is r _ w.tail (sym t.is ∙ w.tailed)

    follow : remark_at end (some r) ≡ there
    follow = ap (λ (n : ℕ). remark_at end (some n)) whole_is ∙ sym by_tail

    pub none_follow : r ≡ 0 → record { start = end; len = 0 } ≡ there
    none_follow z = sym (ap (λ (n : ℕ). remark_at end (some n)) z) ∙ follow

    pub some_follow : (r ≡ 0 → ⊥) → record { start = end + 1; len = r - 1 } ≡ there
    some_follow z = go r z ∙ follow
      where
        go : (n : ℕ) → (n ≡ 0 → ⊥) → record { start = end + 1; len = n - 1 } ≡ remark_at end (some n)
        go zero z = absurd (z refl)
        go (suc n) z = simp unary_clauses

  pub remark_inside : there.start + there.len ≤ length s
  remark_inside = subst (λ (p : Part). p.start + p.len ≤ length s) (sym by_tail) (go w.tail w.fits)
    where
      go : (n : ℕ) → end + n ≤ length s → (remark_at end (some n)).start + (remark_at end (some n)).len ≤ length s
      go zero h = omega arith
      go (suc n) h = omega arith
