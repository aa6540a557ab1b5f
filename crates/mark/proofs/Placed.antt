-- A Y in range and 7,000,000, added in doubles, are their sum exactly; so a point stands for its whole numbers.
use mathlib.Core.Path.{◌≡◌, refl, sym, ap, ◌∙◌, subst}
use mathlib.Core.Bool.{Bool, true, false, cond}
use mathlib.Core.Logic.{⊎_elim}
use mathlib.Core.Option.{some}
use Prim.Native.Nat.{ℕ, suc, ◌+◌, ◌-◌, ◌^◌, ◌≤◌, ◌<◌}
use native.Mathlib.Nat.{eq-or-lt_of_le}
use native.Mathlib.Omega.{arith}
use borrow.Author.Tests.{le-ltb}
use lib.Dec.{T, leb→le, le→leb}
use lib.IntN.{ℤ, pos, negsuc, ◌+ℤ◌, sub_ℕ}
use lib.Ieee.{Float, binary64, prec, round, add, of_int, of_bits, in_float}
use lib.Ieee.Back.{round_whole}
use Rattle.integer.specs.Z.{≤→}
use Rattle.air.specs.declared.Logs.{Logs}
use Rattle.air.specs.Held.{Held}
use Rattle.mark.specs.Mark.{point_of, shown_value, mark_of, Drawable, CanDraw, Exactly, Stands, Marked}
use Rattle.mark.proofs.Whole.{add_plus, add_less, add_same}

abbrev seven : ℕ
seven = 7000000

small : (n : ℕ) → n ≤ 20000000 → n ≤ 2 ^ prec binary64
small n h = omega arith

-- the literal of the code is 7,000,000 converted
pub literal : of_bits binary64 4709274203742797824 ≡ of_int binary64 (pos seven)
unfolding of_bits of_int round
literal = refl

-- a Y in range, by its sign
rise : {v : ℤ} (n : ℕ) → Drawable (pos n) v → n ≤ 20000000
rise n r = omega (arith, ≤→ r.most)

depth : {v : ℤ} (k : ℕ) → Drawable (negsuc k) v → suc k ≤ seven
depth k r = omega (arith, ≤→ r.least)

pub in_float_lem : (y v : ℤ) → Drawable y v → T (in_float binary64 y)
unfolding in_float
in_float_lem (pos n) v r = le→leb n (2 ^ 53) (small n (rise n r))
in_float_lem (negsuc k) v r = le→leb (suc k) (2 ^ 53) (small (suc k) (omega (arith, depth k r)))

below : (k : ℕ) → suc k ≤ seven → sub_ℕ seven (suc k) ≡ pos (seven - suc k)
below k h = ap (λ (t : Bool). cond t (negsuc (suc k - suc seven)) (pos (seven - suc k))) (le-ltb seven (suc k) h)

low : (k : ℕ) → suc k ≤ seven → add binary64 (round binary64 true (suc k) 1) (round binary64 false seven 1) ≡ round binary64 false (seven - suc k) 1
low k h =
    ⊎_elim
    (λ (e : suc k ≡ seven).
    ap (λ (n : ℕ). add binary64 (round binary64 true n 1) (round binary64 false seven 1)) e
    ∙ add_same binary64 seven (small seven (omega arith))
    ∙ ap (λ (n : ℕ). round binary64 false n 1) (sym (ap (λ (n : ℕ). seven - n) e)))
    (λ (l : suc k < seven). add_less binary64 (suc k) seven (small (suc k) (omega arith)) (small seven (omega arith)) l)
    (eq-or-lt_of_le h)

placed : (y v : ℤ) → Drawable y v → add binary64 (of_int binary64 y) (of_int binary64 (pos seven)) ≡ of_int binary64 (y +ℤ pos seven)
unfolding of_int
placed (pos n) v r = add_plus binary64 n seven (small n (rise n r)) (small seven (omega arith))
placed (negsuc k) v r = low k (depth k r) ∙ sym (ap (of_int binary64) (below k (depth k r)))

-- a whole number that a double holds is its double exactly
exactly : (z : ℤ) → T (in_float binary64 z) → Exactly (of_int binary64 z) z
unfolding in_float of_int
exactly (pos n) t = round_whole binary64 false n (leb→le n (2 ^ 53) t)
exactly (negsuc k) t = round_whole binary64 true (suc k) (leb→le (suc k) (2 ^ 53) t)

-- the sum, too, is one that a double holds
sum_in : (y v : ℤ) → Drawable y v → T (in_float binary64 (y +ℤ pos seven))
unfolding in_float
sum_in (pos n) v r = let h : n ≤ 20000000 = rise n r in le→leb (n + seven) (2 ^ 53) (omega arith)
sum_in (negsuc k) v r =
    subst (λ (z : ℤ). T (in_float binary64 z)) (sym (below k (depth k r))) (le→leb (seven - suc k) (2 ^ 53) (omega arith))

-- document 01, Plot marks: both doubles of a point equal the whole numbers
pub stands : (y v : ℤ) → Drawable y v → Stands (point_of y v) y v
stands y v r =
    record {
      across = subst (λ (x : Float). Exactly x (y +ℤ pos seven)) (sym (placed y v r)) (exactly (y +ℤ pos seven) (sum_in y v r));
      up = exactly v r.value;
    }

-- what can be drawn and holds logarithms and a value gets such a point
pub marked : (h : Held) → CanDraw h → (l : Logs) (v : ℤ) → h.logs ≡ some l → h.value ≡ some v → Marked h l v
unfolding mark_of
marked h d l v e f =
    record {
      point = point_of l.y (shown_value h.letter v);
      drawn = rw (e, f);
      exact = stands l.y (shown_value h.letter v) (rw (e, f) at d);
    }
