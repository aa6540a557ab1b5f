-- What a search finds.
use mathlib.Core.Bool.{Bool, true, false, cond}
use mathlib.Core.List.{List, [], ◌∷◌, Memᴰ}
use mathlib.Core.Path.{◌≡◌, refl}
use Prim.Native.Nat.{ℕ}
use Rattle.octets.specs.Bytes.{same}
use Rattle.sheet_search.specs.Find.{find_in, find_by, find_of, Inside}
use Rattle.sheet_record.specs.Layout.{layout_of, layout_in}
use Rattle.sheet_record.specs.Front.{name_in}
use Rattle.sheet.specs.Sheet.{Sheet, refused, records, sheet_of}
use Rattle.sheet_search.specs.Find.{Lookup}
use Rattle.std.specs.Prelude.{Ok, Err}
use Rattle.sheet_record.specs.declared.Record.{Record}
use Rattle.sheet_name.proofs.Same.{same_equal}
use Rattle.sheet_search.proofs.Locate.{finds}

-- what is found among records has the name, and is one of them
pub data Finding (s : List ℕ) (rs : List Record) (name : List ℕ) : Lookup → Type 0 where
  hit : {r : Record} → Memᴰ r rs → name_in s r ≡ name → Finding s rs name (Ok r)
  miss : Finding s rs name (Err 9)

pub finding : (s : List ℕ) (rs : List Record) (name : List ℕ) → Finding s rs name (find_in s rs name)
unfolding find_in
finding s [] name = miss
finding s (r ∷ rs) name = go (same (name_in s r) name) refl (find_in s rs name) (finding s rs name)
  where
    go : (b : Bool) → same (name_in s r) name ≡ b → (f : Lookup) → Finding s rs name f → Finding s (r ∷ rs) name (cond b (Ok r) f)
    go true e f v = hit (Memᴰ.head refl) (same_equal (name_in s r) name e)
    go false e (Ok q) (hit m k) = hit (Memᴰ.tail m) k
    go false e (Err n) miss = miss

-- each record of an accepted sheet lies in it
pub record_inside : (s : List ℕ) (rs : List Record) (r : Record) → sheet_of s ≡ records rs → Memᴰ r rs → Inside s (Ok r)
unfolding layout_in
record_inside s rs r e m = (finds layout_of s rs r e m).fit.inside

-- what is found lies in the sheet
pub find_inside : (s name : List ℕ) → Inside s (find_of s name)
find_inside s name = go (sheet_of s) refl
  where
    go : (t : Sheet) → sheet_of s ≡ t → Inside s (find_by t s name)
    go (refused n) e = tt
    go (records rs) e = among (find_in s rs name) (finding s rs name)
      where
        among : (f : Lookup) → Finding s rs name f → Inside s f
        among (Ok r) (hit m k) = record_inside s rs r e m
        among (Err n) v = tt
