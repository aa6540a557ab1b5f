-- The refusal of a record at a place, test by test.
use mathlib.Core.Bool.{true, false}
use mathlib.Core.List.{List}
use mathlib.Core.Path.{◌≡◌}
use Prim.Native.Nat.{ℕ, ◌+◌, ◌-◌, ◌≤◌, ◌<◌}
use native.Mathlib.Omega.{arith}
use borrow.Author.Tests.{le-leb, lt-leb, le-ltb, lt-ltb, eq-eqb, ne_eqb}
use lib.ListN.{length, get_or, drop}
use Rattle.kind.specs.Kind.{kind_of, is_known}
use Rattle.sheet_record.specs.Layout.{layout_in}
use Rattle.sheet_record.specs.Front.{front_of, fault_of, Tailed}
use Rattle.sheet_record.proofs.Places.{tailed_at, front_at_lem}

module _ (s : List ℕ) (at : ℕ) where
  pub none_left : length s ≤ at → 4 ≡ fault_of (front_of (layout_in s) (drop at s))
  none_left l = rw front_at_lem (simp (le-leb _ _ l))

  module _ (l : at < length s) where
    pub no_name : get_or s at 0 ≡ 0 → 5 ≡ fault_of (front_of (layout_in s) (drop at s))
    no_name z = rw front_at_lem (simp (lt-leb _ _ l, eq-eqb _ _ z))

    pub long_name : 40 < get_or s at 0 → 5 ≡ fault_of (front_of (layout_in s) (drop at s))
    long_name m =
        let z : get_or s at 0 ≡ 0 → ⊥ = λ e. omega arith in
        rw front_at_lem (simp (lt-leb _ _ l, ne_eqb _ _ z, lt-ltb 40 (get_or s at 0) m))

    module _ (z : get_or s at 0 ≡ 0 → ⊥) (m : get_or s at 0 ≤ 40) where
      pub cut_values : length s - (at + 1) < get_or s at 0 + 17 → 4 ≡ fault_of (front_of (layout_in s) (drop at s))
      cut_values f = rw front_at_lem (simp (lt-leb _ _ l, ne_eqb _ _ z, le-ltb 40 (get_or s at 0) m, lt-ltb (length s - (at + 1)) (get_or s at 0 + 17) f))

      module _ (f : get_or s at 0 + 17 ≤ length s - (at + 1)) (r : ℕ) (t : Tailed s (at + 18 + get_or s at 0) r) where
        tested : front_of (layout_in s) (drop at s) ≡ tailed_at s at (get_or s at 0) ((layout_in s).tail (drop (at + 18 + get_or s at 0) s))
        tested = rw front_at_lem (simp (lt-leb _ _ l, ne_eqb _ _ z, le-ltb 40 (get_or s at 0) m, le-ltb (length s - (at + 1)) (get_or s at 0 + 17) f))

        pub cut_tail : length s - (at + 18 + get_or s at 0) < r → 4 ≡ fault_of (front_of (layout_in s) (drop at s))
        cut_tail c = rw (tested, t.is, lt-leb r (length s - (at + 18 + get_or s at 0)) c)

        module _ (w : r ≤ length s - (at + 18 + get_or s at 0)) where
          pub unknown : is_known (kind_of (get_or s (at + 1 + get_or s at 0) 0)) ≡ false → 6 ≡ fault_of (front_of (layout_in s) (drop at s))
          unknown k = rw (tested, t.is, le-leb r (length s - (at + 18 + get_or s at 0)) w, k)

          pub known : is_known (kind_of (get_or s (at + 1 + get_or s at 0) 0)) ≡ true → 0 ≡ fault_of (front_of (layout_in s) (drop at s))
          known k = rw (tested, t.is, le-leb r (length s - (at + 18 + get_or s at 0)) w, k)
