-- Whether a record stands at a place, and the refusal where none does, case by case.
use mathlib.Core.Bool.{true, false}
use mathlib.Core.List.{List}
use mathlib.Core.Path.{◌≡◌, refl, sym, subst}
use Prim.Native.Nat.{ℕ, zero, suc, ◌+◌, ◌≤◌}
use native.Mathlib.Omega.{arith}
use borrow.Author.Tests.{eqb-true, eq-eqb, ne_eqb}
use lib.Dec.{T, eqb}
use lib.ListN.{length, get_or, drop}
use Rattle.sheet_record.specs.Layout.{Layout, layout_in}
use Rattle.sheet_record.specs.Front.{Tailed, front_of, fault_of, behind, stands_at, end_at}
use Rattle.sheet_record.proofs.Places.{Stands, stands}
use Rattle.sheet_record.proofs.Tails.{tail_here}

module _ (y : Layout) (s : List ℕ) (at : ℕ) where
  pub stands_none : (left : ℕ) → left ≡ 0 → stands_at y s at left ≡ false
  unfolding stands_at
  stands_none left z = rw z

  pub stands_some : (left k : ℕ) → (left ≡ 0 → ⊥) → k ≡ fault_of (front_of y (drop at s)) → stands_at y s at left ≡ eqb k 0
  unfolding stands_at
  stands_some zero k z e = absurd (z refl)
  stands_some (suc left) k z e = rw e

  pub end_last : (left : ℕ) → left ≡ 0 → at ≡ length s → end_at y s at left ≡ 0
  unfolding end_at
  end_last left z e = rw (z, eq-eqb at (length s) e)

  pub end_over : (left : ℕ) → left ≡ 0 → (at ≡ length s → ⊥) → end_at y s at left ≡ 4
  unfolding end_at
  end_over left z e = rw (z, ne_eqb at (length s) e)

  pub end_fault : (left : ℕ) → (left ≡ 0 → ⊥) → end_at y s at left ≡ fault_of (front_of y (drop at s))
  unfolding end_at
  end_fault zero z = absurd (z refl)
  end_fault (suc left) z = refl

  -- where one stands, one is left
  pub stands_left : (left : ℕ) → stands_at y s at left ≡ true → 1 ≤ left
  unfolding stands_at
  stands_left zero e = absurd (subst T (sym e) tt)
  stands_left (suc left) e = omega arith

  pub stands_there : (left : ℕ) → stands_at y s at left ≡ true → Stands y s at
  unfolding stands_at
  stands_there zero e = absurd (subst T (sym e) tt)
  stands_there (suc left) e = stands y s at (eqb-true (fault_of (front_of y (drop at s))) 0 e)

-- a record that stands at a place, and what follows its values, lie in the sheet, and the next place is behind both
module _ (s : List ℕ) (at left : ℕ) (e : stands_at (layout_in s) s at left ≡ true) where
  pub stands_fits : at + 18 + get_or s at 0 ≤ length s
  stands_fits = let w = (stands_there (layout_in s) s at left e).sound in omega (arith, w.fits, w.len_is)

  module _ (r : ℕ) (t : Tailed s (at + 18 + get_or s at 0) r) where
    tail_stands : r ≡ (stands_there (layout_in s) s at left e).fields.tail
    tail_stands = let p = stands_there (layout_in s) s at left e in tail_here s at p.fields p.sound t (omega (arith, p.sound.len_is))

    pub past_stands : at + 18 + get_or s at 0 + r ≡ behind at (front_of (layout_in s) (drop at s))
    past_stands = let p = stands_there (layout_in s) s at left e in rw p.is (omega (arith, p.sound.len_is, tail_stands))

    pub past_fits : at + 18 + get_or s at 0 + r ≤ length s
    past_fits = let w = (stands_there (layout_in s) s at left e).sound in omega (arith, w.fits, w.len_is, tail_stands)
