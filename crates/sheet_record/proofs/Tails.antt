-- What follows a record's second value, by the version in the sheet's bytes.
use mathlib.Core.Bool.{Bool, true, false, cond}
use mathlib.Core.List.{List, ◌∷◌, ◌++◌}
use mathlib.Core.Option.{Option, none, some}
use mathlib.Core.Path.{◌≡◌, refl, sym, ap, ◌∙◌}
use Prim.Native.Nat.{ℕ, suc, ◌+◌, ◌*◌, ◌-◌, ◌≤◌, ◌<◌}
use native.Mathlib.Numerals.{add-one}
use native.Mathlib.Omega.{arith}
use borrow.Author.Tests.{eqb-true, eqb-false, eq-eqb, ne_eqb, leb-true, leb-false, le-leb, lt-leb}
use lib.Dec.{eqb, leb}
use lib.ListN.{length, get_or, drop, length-append, length-drop, drop_of_length-le}
use lib.Seq.{drop-cons}
use Rattle.octets.specs.Bytes.{number_at, after}
use Rattle.octets.proofs.Numbers.{number_next}
use Rattle.sheet_record.specs.Layout.{Layout, layout_in, layout_of, or_plain, plain_layout, remark_layout, remark_tail}
use Rattle.sheet_record.specs.Front.{Fields, Tailed}
use Rattle.sheet_record.proofs.Places.{Sound}

-- a tail of r bytes, where so many are left
abbrev cut : ℕ → Bool → Option ℕ
cut r b = cond b (some r) none

-- a tail that is whole is as long as it says
pub tail_is : (r room t : ℕ) → cond (leb r room) (some r) none ≡ some t → r ≡ t
tail_is r room t e = go (leb r room) e
  where
    go : (b : Bool) → cut r b ≡ some t → r ≡ t
    go true h = cc
    go false h = let z : ◌≡◌ {A = ℕ} 0 1 = cc in absurd (omega arith)

-- where a record stands, what follows its values is its tail
pub tail_here : (s : List ℕ) (at : ℕ) (f : Fields) → Sound (layout_in s) s at f → {end r : ℕ} → Tailed s end r → end ≡ at + 18 + f.len → r ≡ f.tail
tail_here s at f w {end} {r} t e =
    let d : end ≡ at + 18 + get_or s at 0 = omega (arith, w.len_is) in
    tail_is r (length s - end) f.tail (sym t.is ∙ ap (λ (i : ℕ). (layout_in s).tail (drop i s)) d ∙ w.tailed)

-- a remark behind its length byte, and any bytes behind it
pub whole_remark : (a u : List ℕ) → remark_tail (length a ∷ (a ++ u)) ≡ some (suc (length a))
whole_remark a u =
    let m : length a ≤ length (a ++ u) = omega (arith, length-append a u) in
    rw (le-leb (length a) (length (a ++ u)) m)

pub layout_two : (s : List ℕ) → number_at 2 s 3 ≡ 2 → layout_in s ≡ remark_layout
unfolding layout_in
layout_two s e = ap (λ (v : ℕ). or_plain (layout_of v)) e

-- version 2 by its two bytes
module _ (s : List ℕ) (h : 5 ≤ length s) where
  pub version_is : number_at 2 s 3 ≡ get_or s 3 0 * 256 + get_or s 4 0
  unfolding number_at after
  version_is =
      let z : number_at 0 s 3 ≡ 0 = refl in
      omega (arith, number_next 0 s 3 (omega arith), number_next 1 s 3 (omega arith))

  pub low_other : (get_or s 4 0 ≡ 2 → ⊥) → false ≡ eqb (number_at 2 s 3) 2
  low_other z = sym (ne_eqb (number_at 2 s 3) 2 (λ e. z (omega (arith, version_is))))

  pub low_two : get_or s 4 0 ≡ 2 → eqb (get_or s 3 0) 0 ≡ eqb (number_at 2 s 3) 2
  low_two l = go (eqb (get_or s 3 0) 0) refl
    where
      go : (b : Bool) → eqb (get_or s 3 0) 0 ≡ b → b ≡ eqb (number_at 2 s 3) 2
      go true p = sym (eq-eqb (number_at 2 s 3) 2 (omega (arith, version_is, eqb-true (get_or s 3 0) 0 p)))
      go false p = let z = eqb-false (get_or s 3 0) 0 p in sym (ne_eqb (number_at 2 s 3) 2 (λ e. z (omega (arith, version_is))))

module _ (s : List ℕ) (end : ℕ) where
  pub tailed_none : (number_at 2 s 3 ≡ 2 → ⊥) → Tailed s end 0
  unfolding layout_in
  tailed_none z = record { is = rw (ne_eqb (number_at 2 s 3) 2 z, le-leb 0 (length s - end) (omega arith)) (go (eqb (number_at 2 s 3) 1)); most = omega arith }
    where
      go : (b : Bool) → (or_plain (cond b (some plain_layout) (cond false (some remark_layout) none))).tail (drop end s) ≡ some 0
      go true = refl
      go false = refl

  module _ (e : number_at 2 s 3 ≡ 2) where
    two : (layout_in s).tail (drop end s) ≡ remark_tail (drop end s)
    two = ap (λ (y : Layout). y.tail (drop end s)) (layout_two s e)

    pub tailed_cut : end ≡ length s → Tailed s end 1
    tailed_cut h =
        record {
          is = two ∙ rw (drop_of_length-le s {i = end} (omega arith), lt-leb 1 (length s - end) (omega arith));
          most = omega arith;
        }

    pub tailed_remark : end < length s → get_or s end 0 < 256 → Tailed s end (get_or s end 0 + 1)
    tailed_remark l m = record { is = two ∙ rw (drop-cons s end 0 l, add-one) (go (leb (suc n) (length s - end)) refl); most = omega arith }
      where
        n : ℕ
        n = get_or s end 0

        go : (b : Bool) → leb (suc n) (length s - end) ≡ b → cut (suc n) (leb n (length (drop (suc end) s))) ≡ cut (suc n) b
        go true p = rw (le-leb n (length (drop (suc end) s)) (omega (arith, length-drop (suc end) s, leb-true (suc n) (length s - end) p)))
        go false p = rw (lt-leb n (length (drop (suc end) s)) (omega (arith, length-drop (suc end) s, leb-false (suc n) (length s - end) p)))
