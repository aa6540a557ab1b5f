-- The records of an accepted sheet by the places that its index keeps.
use mathlib.Core.Bool.{false}
use mathlib.Core.List.{List, [], ◌∷◌}
use mathlib.Core.Path.{◌≡◌, refl, sym, ap, ◌∙◌}
use Prim.Native.Nat.{ℕ, zero, suc, ◌+◌, ◌≤◌, ◌<◌}
use native.Mathlib.Omega.{arith}
use lib.ListN.{length, get_or, drop}
use Rattle.std.specs.Prelude.{Option, Some, None, slice_get}
use Rattle.octets.specs.Bytes.{number_at, part, same}
use Rattle.sheet_name.specs.Name.{name_at}
use Rattle.sheet_name.proofs.Same.{same_equal}
use Rattle.distinct.specs.Chain.{Placed}
use Rattle.sheet_record.specs.Layout.{Layout, layout_in}
use Rattle.sheet_record.specs.Front.{Front, bad, front, front_of, record_at, past, name_in, entry_at}
use Rattle.sheet_record.specs.declared.Record.{Record}
use Rattle.sheet_record.proofs.Places.{View, reads, view}
use Rattle.sheet.specs.Index.{Indexed, Named}
use Rattle.sheet.specs.Sheet.{Sheet, sheet_of, records_of, seen, Accepted}
use Rattle.sheet.specs.Structure.{places_from}
use Rattle.sheet.proofs.Accept.{read, accepted_head, accepted_is, headed}
use Rattle.sheet.proofs.Kept.{counted, place_at, kept_at}
use Rattle.sheet.proofs.Walk.{records_from}

-- the count can be read
pub seven : (s : List ℕ) → Accepted s → 7 ≤ length s
seven s a = (headed s (accepted_head s a)).least

-- where no place has the name, no record has it
none_seen : (y : Layout) (s name : List ℕ) (n at : ℕ)
    → ((j : ℕ) → j < length (places_from y s n at) → same (name_at s (get_or (places_from y s n at) j 0)) name ≡ false)
    → seen s (records_from y s n at) name ≡ false
unfolding places_from records_from
none_seen y s name zero at h = refl
none_seen y s name (suc n) at h = go (none_seen y s name n) (front_of y (drop at s)) (view y s at) h
  where
    go : ((at : ℕ) → ((j : ℕ) → j < length (places_from y s n at) → same (name_at s (get_or (places_from y s n at) j 0)) name ≡ false)
        → seen s (records_from y s n at) name ≡ false)
        → (t : Front) → View y s at t
        → ((j : ℕ) → j < length {A = ℕ} (elim t as (λ x. List ℕ) [ bad k ↦ [] | front f ↦ at ∷ places_from y s n (past at f) ])
        → same (name_at s (get_or {A = ℕ} (elim t as (λ x. List ℕ) [ bad k ↦ [] | front f ↦ at ∷ places_from y s n (past at f) ]) j 0)) name ≡ false)
        → seen s (elim t as (λ x. List Record) [ bad k ↦ [] | front f ↦ record_at at f ∷ records_from y s n (past at f) ]) name ≡ false
    go ih (bad k) v h = refl
    go ih (front f) (reads w) h =
        let e : same (name_in s (record_at at f)) name ≡ false = ap (λ (l : ℕ). same (part s (at + 1) l) name) w.len_is ∙ h 0 (omega arith) in
        rw e (ih (past at f) (λ j l. h (suc j) (omega arith)))

-- a record by its place
placed : (y : Layout) (s : List ℕ) (n at i : ℕ) → i < length (records_from y s n at)
    → (i < length (places_from y s n at)) × (slice_get (records_from y s n at) i ≡ Some (entry_at s (get_or (places_from y s n at) i 0)))
unfolding places_from records_from
placed y s zero at i h = absurd (omega arith)
placed y s (suc n) at i h = go (placed y s n) (front_of y (drop at s)) (view y s at) i h
  where
    go : ((at j : ℕ) → j < length (records_from y s n at)
        → (j < length (places_from y s n at)) × (slice_get (records_from y s n at) j ≡ Some (entry_at s (get_or (places_from y s n at) j 0))))
        → (t : Front) → View y s at t → (i : ℕ)
        → i < length {A = Record} (elim t as (λ x. List Record) [ bad k ↦ [] | front f ↦ record_at at f ∷ records_from y s n (past at f) ])
        → (i < length {A = ℕ} (elim t as (λ x. List ℕ) [ bad k ↦ [] | front f ↦ at ∷ places_from y s n (past at f) ]))
        × (slice_get (elim t as (λ x. List Record) [ bad k ↦ [] | front f ↦ record_at at f ∷ records_from y s n (past at f) ]) i
        ≡ Some (entry_at s (get_or {A = ℕ} (elim t as (λ x. List ℕ) [ bad k ↦ [] | front f ↦ at ∷ places_from y s n (past at f) ]) i 0)))
    go ih (bad k) v i l = absurd (omega arith)
    go ih (front f) (reads w) zero l = (omega arith, ap (λ g. Some (record_at at g)) w.is)
    go ih (front f) (reads w) (suc i) l = let q = ih (past at f) i (omega arith) in (omega (arith, q.0), q.1)

as_many : (y : Layout) (s : List ℕ) (n at : ℕ) → length (places_from y s n at) ≡ length (records_from y s n at)
unfolding places_from records_from
as_many y s zero at = refl
as_many y s (suc n) at = go (as_many y s n) (front_of y (drop at s))
  where
    go : ((at : ℕ) → length (places_from y s n at) ≡ length (records_from y s n at)) → (t : Front)
        → length {A = ℕ} (elim t as (λ x. List ℕ) [ bad k ↦ [] | front f ↦ at ∷ places_from y s n (past at f) ])
        ≡ length {A = Record} (elim t as (λ x. List Record) [ bad k ↦ [] | front f ↦ record_at at f ∷ records_from y s n (past at f) ])
    go ih (bad k) = refl
    go ih (front f) = ap suc (ih (past at f))

module _ (s starts heads next : List ℕ) (x : Indexed s starts heads next) where
  inside : x.count ≤ length starts
  inside = omega (arith, x.whole, x.table.most)

  records_are : records_of (sheet_of s) ≡ read s
  records_are = ap (λ (t : Sheet). records_of t) (accepted_is s x.accepted)

  all_counted : length (records_of (sheet_of s)) ≡ x.count
  all_counted = ap length records_are ∙ sym (as_many (layout_in s) s (number_at 2 s 5) 7) ∙ counted s starts (number_at 2 s 5) x.count inside x.places

  module _ (i : ℕ) (l : i < length (records_of (sheet_of s))) where
    below : i < x.count
    below = omega (arith, all_counted)

    pub record_low : i < 3449
    record_low = omega (arith, below, x.table.most)

    pub record_fits : get_or starts i 0 + 18 + get_or s (get_or starts i 0) 0 ≤ length s
    record_fits = (kept_at s starts (number_at 2 s 5) x.count inside x.places i below).fits

    pub record_is : slice_get (records_of (sheet_of s)) i ≡ Some (entry_at s (get_or starts i 0))
    record_is =
        rw records_are
        ((placed (layout_in s) s (number_at 2 s 5) 7 i (rw records_are at l)).1
        ∙ ap (λ (at : ℕ). Some (entry_at s at)) (place_at s starts (number_at 2 s 5) x.count inside x.places i below))

  pub place_named : (name : List ℕ) (o : Option ℕ) → Placed s starts x.count name o → Named s (records_of (sheet_of s)) name o
  place_named name None p =
      let c = counted s starts (number_at 2 s 5) x.count inside x.places in
      rw records_are
      (none_seen (layout_in s) s name (number_at 2 s 5) 7 (λ j l.
      let m : j < x.count = omega arith in
      rw (place_at s starts (number_at 2 s 5) x.count inside x.places j m) (p.absent refl j m)))
  place_named name (Some i) p =
      let q = p.found i refl in
      (entry_at s (get_or starts i 0), record_is i (omega (arith, q.0, all_counted)), same_equal (name_at s (get_or starts i 0)) name q.1)
