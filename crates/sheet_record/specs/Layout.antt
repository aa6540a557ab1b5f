-- What a version's records have after their two values. A further version is one more layout.
use Rattle.std.specs.Prelude.{Bool, true, false, cond, List, [], ◌∷◌, ◌++◌, ◌≡◌, refl, ℕ, suc, ◌≤◌, eqb, leb, length}
use Rattle.std.proofs.Math.Option.{Option, none, some}
use Rattle.std.proofs.Common.{arith, leb-true, le-leb, length-append}
use Rattle.octets.specs.Bytes.{number_at}

-- `tail` gives the number of bytes that a record has after its second value, seen from there; none where they are cut short.
-- The laws of a layout: a tail that is whole does not depend on what follows it, and is there
pub record Layout : Type 0 where
  pub tail : List ℕ → Option ℕ
  pub stays : (u more : List ℕ) (t : ℕ) → tail u ≡ some t → tail (u ++ more) ≡ some t
  pub inside : (u : List ℕ) (t : ℕ) → tail u ≡ some t → t ≤ length u

pub none_inside : (u : List ℕ) (t : ℕ) → some 0 ≡ some t → t ≤ length u
none_inside u t e = let z : 0 ≡ t = cc in omega arith

-- a record of version 1 ends with its second value
abbrev pub plain_layout : Layout
plain_layout = record { tail = λ u. some 0; stays = λ u more t e. e; inside = none_inside }

-- request 5: in version 2 a remark follows it, a length byte and that many bytes
abbrev pub remark_tail : List ℕ → Option ℕ
remark_tail [] = none
remark_tail (n ∷ u) = cond (leb n (length u)) (some (suc n)) none

-- the laws of a layout hold of it
pub remark_stays : (u more : List ℕ) (t : ℕ) → remark_tail u ≡ some t → remark_tail (u ++ more) ≡ some t
remark_stays [] more t e = cc
remark_stays (n ∷ u) more t e = go (leb n (length u)) refl e
  where
    go : (b : Bool) → leb n (length u) ≡ b → cond b (some (suc n)) none ≡ some t → cond (leb n (length (u ++ more))) (some (suc n)) none ≡ some t
    go true p h =
        let l : n ≤ length u = leb-true n (length u) p in
        let m : n ≤ length (u ++ more) = omega (arith, length-append u more) in
        rw (le-leb n (length (u ++ more)) m) h
    go false p h = cc

pub remark_inside : (u : List ℕ) (t : ℕ) → remark_tail u ≡ some t → t ≤ length u
remark_inside [] t e = let z : ◌≡◌ {A = ℕ} 0 1 = cc in absurd (omega arith)
remark_inside (n ∷ u) t e = go (leb n (length u)) refl e
  where
    go : (b : Bool) → leb n (length u) ≡ b → cond b (some (suc n)) none ≡ some t → t ≤ length (n ∷ u)
    go true p h = let z : suc n ≡ t = cc in omega (arith, leb-true n (length u) p)
    go false p h = let z : ◌≡◌ {A = ℕ} 0 1 = cc in absurd (omega arith)

abbrev pub remark_layout : Layout
remark_layout = record { tail = remark_tail; stays = remark_stays; inside = remark_inside }

-- document 01, table, sheet as a whole, with request 5: a version without a layout is refusal 3
abbrev pub layout_of : ℕ → Option Layout
layout_of version = cond (eqb version 1) (some plain_layout) (cond (eqb version 2) (some remark_layout) none)

-- where a version is refused, no record is read: any layout will do
abbrev pub or_plain : Option Layout → Layout
or_plain none = plain_layout
or_plain (some y) = y

-- the layout of a sheet, by the version in its bytes
unfoldable pub layout_in : List ℕ → Layout
layout_in s = or_plain (layout_of (number_at 2 s 3))
