-- Reading a record does not depend on what follows it, for any layout.
use mathlib.Core.Bool.{Bool, true, false, cond, ◌||◌}
use mathlib.Core.List.{List, [], ◌∷◌, ◌++◌}
use mathlib.Core.Option.{Option, none, some}
use mathlib.Core.Path.{◌≡◌, refl, ap, ◌∙◌}
use Prim.Native.Nat.{ℕ, ◌+◌, ◌≤◌}
use native.Mathlib.Omega.{arith}
use borrow.Author.Tests.{ltb-false, le-ltb}
use lib.Dec.{ltb, eqb}
use lib.ListN.{length, drop, length-append, length-drop, get_or-append}
use lib.Seq.{take-append-le, drop-append-le}
use Rattle.octets.specs.Bytes.{number_at}
use Rattle.sheet_record.specs.Layout.{Layout}
use Rattle.sheet_record.specs.Front.{Fields, bad, front, front_of, fields_of}

pub number_append : (k at : ℕ) (u more : List ℕ) → at + k ≤ length u → number_at k (u ++ more) at ≡ number_at k u at
unfolding number_at
number_append k at u more h =
    let a : at ≤ length u = omega arith in
    let b : k ≤ length (drop at u) = omega (arith, length-drop at u) in
    rw (drop-append-le at u more a, take-append-le k (drop at u) more b)

-- what is read at the front of some bytes is read where more bytes follow
pub front_stays : (y : Layout) (u more : List ℕ) (f : Fields) → front_of y u ≡ front f → front_of y (u ++ more) ≡ front f
unfolding front_of
front_stays y [] more f e = cc
front_stays y (n ∷ u) more f e = named (eqb n 0 || ltb 40 n) e
  where
    tailed : n + 17 ≤ length u → (o : Option ℕ) → y.tail (drop (n + 17) u) ≡ o → fields_of n u o ≡ front f
        → fields_of n (u ++ more) (y.tail (drop (n + 17) (u ++ more))) ≡ front f
    tailed l none p h = cc
    tailed l (some t) p h =
        let q : y.tail (drop (n + 17) (u ++ more)) ≡ some t = ap y.tail (drop-append-le (n + 17) u more l) ∙ y.stays (drop (n + 17) u) more t p in
        rw (q, get_or-append u more 0 n (omega arith), number_append 8 (n + 1) u more (omega arith), number_append 8 (n + 9) u more (omega arith)) h

    whole : (b : Bool) → ltb (length u) (n + 17) ≡ b → cond b (bad 4) (fields_of n u (y.tail (drop (n + 17) u))) ≡ front f
        → cond (ltb (length (u ++ more)) (n + 17)) (bad 4) (fields_of n (u ++ more) (y.tail (drop (n + 17) (u ++ more)))) ≡ front f
    whole true p h = cc
    whole false p h =
        let l : n + 17 ≤ length u = ltb-false (length u) (n + 17) p in
        let m : n + 17 ≤ length (u ++ more) = omega (arith, length-append u more) in
        rw (le-ltb (length (u ++ more)) (n + 17) m) (tailed l (y.tail (drop (n + 17) u)) refl h)

    named : (b : Bool) → cond b (bad 5) (cond (ltb (length u) (n + 17)) (bad 4) (fields_of n u (y.tail (drop (n + 17) u)))) ≡ front f
        → cond b (bad 5) (cond (ltb (length (u ++ more)) (n + 17)) (bad 4) (fields_of n (u ++ more) (y.tail (drop (n + 17) (u ++ more))))) ≡ front f
    named true h = cc
    named false h = whole (ltb (length u) (n + 17)) refl h
