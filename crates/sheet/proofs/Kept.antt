-- The records of a sheet by the places that the walk keeps.
use mathlib.Core.List.{List, [], ◌∷◌, Memᴰ}
use mathlib.Core.Path.{◌≡◌, refl, sym, ap, subst, ◌∙◌}
use Prim.Native.Nat.{ℕ, zero, suc, ◌+◌, ◌≤◌, ◌<◌}
use native.Mathlib.Omega.{arith}
use lib.ListN.{length, get_or, take, drop}
use lib.Seq.{length-take-le, get_or-take}
use Rattle.std.specs.Prelude.{Result, Ok, Err, IsOk}
use Rattle.refusal.specs.declared.Refusal.{Refusal}
use Rattle.refusal.specs.Numbered.{number_or_0}
use Rattle.distinct.specs.Chain.{Table}
use Rattle.distinct.specs.Distinct.{NamesFit}
use Rattle.octets.specs.Bytes.{number_at}
use Rattle.sheet_record.specs.Layout.{Layout, layout_in}
use Rattle.sheet_record.specs.Front.{Front, bad, front, front_of, record_at, past, entry_at}
use Rattle.sheet_record.specs.declared.Record.{Record}
use Rattle.sheet_record.proofs.Places.{View, reads, view}
use Rattle.sheet.specs.Index.{Indexed}
use Rattle.sheet.specs.Sheet.{Accepted}
use Rattle.sheet.specs.Structure.{places_from, Walked}
use Rattle.sheet.proofs.Walk.{records_from}

-- at a place stands one of the records
pub record Kept (s : List ℕ) (rs : List Record) (at : ℕ) : Type 0 where
  pub fits : at + 18 + get_or s at 0 ≤ length s
  pub there : Memᴰ (entry_at s at) rs

later : {s : List ℕ} {rs : List Record} {at : ℕ} (r : Record) → Kept s rs at → Kept s (r ∷ rs) at
later r k = record { fits = k.fits; there = Memᴰ.tail k.there }

places_kept : (y : Layout) (s : List ℕ) (n at i : ℕ) → i < length (places_from y s n at) → Kept s (records_from y s n at) (get_or (places_from y s n at) i 0)
unfolding places_from records_from
places_kept y s zero at i h = absurd (omega arith)
places_kept y s (suc n) at i h = go (places_kept y s n) (front_of y (drop at s)) (view y s at) i h
  where
    go : ((at j : ℕ) → j < length (places_from y s n at) → Kept s (records_from y s n at) (get_or (places_from y s n at) j 0))
        → (t : Front) → View y s at t → (i : ℕ)
        → i < length {A = ℕ} (elim t as (λ x. List ℕ) [ bad k ↦ [] | front f ↦ at ∷ places_from y s n (past at f) ])
        → Kept s (elim t as (λ x. List Record) [ bad k ↦ [] | front f ↦ record_at at f ∷ records_from y s n (past at f) ])
        (get_or {A = ℕ} (elim t as (λ x. List ℕ) [ bad k ↦ [] | front f ↦ at ∷ places_from y s n (past at f) ]) i 0)
    go ih (bad k) v i l = absurd (omega arith)
    go ih (front f) (reads w) zero l = record { fits = omega (arith, w.fits, w.len_is); there = Memᴰ.head (ap (record_at at) (sym w.is)) }
    go ih (front f) (reads w) (suc i) l = later (record_at at f) (ih (past at f) i (omega arith))

-- the first places of the array are those of the walk over n records
module _ (s starts : List ℕ) (n count : ℕ) (most : count ≤ length starts) (places : take count starts ≡ places_from (layout_in s) s n 7) where
  pub counted : length (places_from (layout_in s) s n 7) ≡ count
  counted = ap length (sym places) ∙ length-take-le count starts most

  pub place_at : (j : ℕ) → j < count → get_or (places_from (layout_in s) s n 7) j 0 ≡ get_or starts j 0
  place_at j l = ap (λ (x : List ℕ). get_or x j 0) (sym places) ∙ get_or-take count starts j 0 l

  pub kept_at : (j : ℕ) → j < count → Kept s (records_from (layout_in s) s n 7) (get_or starts j 0)
  kept_at j l = subst (Kept s (records_from (layout_in s) s n 7)) (place_at j l) (places_kept (layout_in s) s n 7 j (omega (arith, counted)))

  pub names_fit : NamesFit s starts count
  names_fit j l = omega (arith, (kept_at j l).fits)

-- the index, from a walk over the records and a table of their names
pub indexed : (s : List ℕ) (at left count : ℕ) (starts heads next : List ℕ) → Walked s (number_at 2 s 5) at left count starts → Table s starts heads next count
    → length starts ≡ 3449 → Accepted s → Indexed s starts heads next
indexed s at left count starts heads next w t l a = record { accepted = a; whole = l; count = count; places = w.places; table = t }

-- an Ok has no number
pub ok_zero : {A : Type 0} (r : Result A Refusal) → IsOk r → number_or_0 r ≡ 0
ok_zero (Ok a) o = refl
ok_zero (Err e) o = cc
