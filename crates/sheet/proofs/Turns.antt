-- One turn of the walk over the records that keeps their places.
use mathlib.Core.Bool.{Bool, true, false, cond}
use mathlib.Core.List.{List, [], ◌∷◌, ◌++◌, append-nil}
use mathlib.Core.Path.{◌≡◌, refl, sym, ap, ◌∙◌, subst}
use Prim.Native.Nat.{ℕ, zero, suc, ◌+◌, ◌-◌, ◌*◌, ◌≤◌, ◌<◌}
use native.Mathlib.Numerals.{add-one}
use native.Mathlib.Omega.{arith}
use lib.Dec.{T, eqb}
use lib.ListN.{length, take, drop, set}
use lib.Seq.{take-suc-set, append_snoc}
use Rattle.sheet_record.specs.Layout.{Layout, layout_in}
use Rattle.sheet_record.specs.Front.{Front, bad, front, front_of, past, fault_of, behind, stands_at, end_at}
use Rattle.sheet.specs.Structure.{fault_from, places_from, Walked}
use Rattle.sheet_record.proofs.Places.{Stands}
use Rattle.sheet_record.proofs.Steps.{stands_there}
use Rattle.sheet_reader.specs.declared.Reader.{Reader}
use Rattle.sheet_reader.specs.Reading.{standing, place_given, read_on, stepped}
use Rattle.std.specs.Prelude.{Some, None}

-- where no record stands, nothing comes after
pub record Stops (y : Layout) (s : List ℕ) (at left : ℕ) : Type 0 where
  pub fault : fault_from y s left at ≡ end_at y s at left
  pub places : places_from y s left at ≡ []

pub stops : (y : Layout) (s : List ℕ) (at left : ℕ) → stands_at y s at left ≡ false → Stops y s at left
unfolding stands_at end_at fault_from places_from
stops y s at zero e = record { fault = refl; places = refl }
stops y s at (suc n) e = go (front_of y (drop at s)) refl e
  where
    go : (t : Front) → front_of y (drop at s) ≡ t → stands_at y s at (suc n) ≡ false → Stops y s at (suc n)
    go (bad k) p h = record { fault = rw (p, fault_from, end_at); places = rw (p, places_from) }
    go (front f) p h = absurd (subst T (sym (ap (λ (x : Front). eqb (fault_of x) 0) p) ∙ h) tt)

-- where one stands, the walk goes on behind it
pub record Goes (y : Layout) (s : List ℕ) (at left at' : ℕ) : Type 0 where
  pub later : at + 19 ≤ at'
  pub inside : at' ≤ length s
  pub fewer : suc (left - 1) ≡ left
  pub fault : fault_from y s left at ≡ fault_from y s (left - 1) at'
  pub places : places_from y s left at ≡ at ∷ places_from y s (left - 1) at'

pub goes : (y : Layout) (s : List ℕ) (at left : ℕ) → stands_at y s at left ≡ true → Goes y s at left (behind at (front_of y (drop at s)))
unfolding stands_at fault_from places_from
goes y s at zero e = absurd (subst T (sym e) tt)
goes y s at (suc n) e = go (stands_there y s at (suc n) e)
  where
    less : n ≡ suc n - 1
    less = omega arith

    go : Stands y s at → Goes y s at (suc n) (behind at (front_of y (drop at s)))
    go w = rw w.is
        (record {
          later = omega (arith, w.sound.named);
          inside = omega (arith, w.sound.fits);
          fewer = ap suc (sym less);
          fault = rw (fault_from, w.is) (ap (λ (m : ℕ). fault_from y s m (past at w.fields)) less);
          places = rw (places_from, w.is) (ap (λ (m : ℕ). at ∷ places_from y s m (past at w.fields)) less);
        })

-- where the walk over n records stands after i of them: the places so far, and what is still to come
pub record Walking (s : List ℕ) (n left at i : ℕ) (starts : List ℕ) : Type 0 where
  pub fault : fault_from (layout_in s) s n 7 ≡ fault_from (layout_in s) s left at
  pub places : places_from (layout_in s) s n 7 ≡ take i starts ++ places_from (layout_in s) s left at
  pub room : 7 + 19 * i ≤ at
  pub most : at ≤ 65536
  pub short : length s ≤ 65536

walking_ends : (s : List ℕ) (n left at i : ℕ) (starts : List ℕ) → Walking s n left at i starts → Stops (layout_in s) s at left
    → Walked s n at left i starts
walking_ends s n left at i starts w e =
    record {
      fault = sym (w.fault ∙ e.fault);
      places = sym (w.places ∙ ap (λ (l : List ℕ). take i starts ++ l) e.places ∙ append-nil (take i starts));
      most = omega arith;
    }

walking_goes : (s : List ℕ) (n left at i at' : ℕ) (starts : List ℕ) → i < length starts → Walking s n left at i starts
    → Goes (layout_in s) s at left at' → Walking s n (left - 1) at' (i + 1) (set starts i at)
walking_goes s n left at i at' starts l w g =
    let t : take (i + 1) (set starts i at) ≡ take i starts ++ (at ∷ []) = rw add-one (take-suc-set starts i at l) in
    record {
      fault = w.fault ∙ g.fault;
      places =
          w.places
          ∙ ap (λ (l : List ℕ). take i starts ++ l) g.places
          ∙ sym (append_snoc (take i starts) at (places_from (layout_in s) s (left - 1) at'))
          ∙ ap (λ (l : List ℕ). l ++ places_from (layout_in s) s (left - 1) at') (sym t);
      room = omega arith;
      most = omega arith;
      short = w.short;
    }

-- a step of the reader over a record, where it stands and what it gives
pub record Passed (s : List ℕ) (n i : ℕ) (starts : List ℕ) (r q : Reader) (at : ℕ) : Type 0 where
  pub fewer : q.left < r.left
  pub sheet : q.sheet ≡ r.sheet
  pub walking : Walking s n q.left q.at (i + 1) (set starts i at)

module _ (n i : ℕ) (starts : List ℕ) (r : Reader) (w : Walking r.sheet.now n r.left r.at i starts) where
  pub place_fits : (at : ℕ) → place_given r ≡ Some at → at < 65536
  place_fits at e = go (standing r) refl e
    where
      go : (b : Bool) → standing r ≡ b → cond b (Some r.at) None ≡ Some at → at < 65536
      go true p h =
          let g = goes (layout_in r.sheet.now) r.sheet.now r.at r.left p in
          let k : r.at ≡ at = cc in
          omega (arith, w.short)
      go false p h = cc

  pub passes : (at : ℕ) → i < length starts → place_given r ≡ Some at → Passed r.sheet.now n i starts r (stepped r) at
  passes at l e = go (standing r) refl e
    where
      go : (b : Bool) → standing r ≡ b → cond b (Some r.at) None ≡ Some at → Passed r.sheet.now n i starts r (cond b (read_on r) r) at
      go true p h =
          let g = goes (layout_in r.sheet.now) r.sheet.now r.at r.left p in
          let k : r.at ≡ at = cc in
          rw (← k)
          (record {
            fewer = omega arith;
            sheet = refl;
            walking = walking_goes r.sheet.now n r.left r.at i _ starts l w g;
          })
      go false p h = cc

  pub stays : place_given r ≡ None → Walked r.sheet.now n (stepped r).at (stepped r).left i starts × ((stepped r).sheet ≡ r.sheet)
  stays e = go (standing r) refl e
    where
      go : (b : Bool) → standing r ≡ b → cond b (Some r.at) None ≡ None
          → Walked r.sheet.now n (cond b (read_on r) r).at (cond b (read_on r) r).left i starts × ((cond b (read_on r) r).sheet ≡ r.sheet)
      go true p h = cc
      go false p h = (walking_ends r.sheet.now n r.left r.at i starts w (stops (layout_in r.sheet.now) r.sheet.now r.at r.left p), refl)
