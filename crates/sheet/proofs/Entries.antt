-- What a sheet's records say, without their places: read from the bytes that are left, and as the walk by places reads them.
-- Holds for any layout.
use mathlib.Core.Bool.{Bool, true, false, cond}
use mathlib.Core.List.{List, [], ◌∷◌}
use mathlib.Core.Path.{◌≡◌, refl, ap, ap₂, ◌∙◌}
use Prim.Native.Nat.{ℕ, zero, suc, ◌+◌, ◌≤◌}
use native.Mathlib.Omega.{arith}
use borrow.Author.Tests.{eqb-true, eqb-false, eq-eqb, ne_eqb}
use lib.Dec.{eqb}
use lib.ListN.{length, take, drop, length-drop}
use lib.Seq.{drop-drop}
use Rattle.octets.specs.Bytes.{part}
use Rattle.sheet_record.specs.Layout.{Layout}
use Rattle.sheet_record.specs.Front.{Fields, Front, bad, front, front_of, record_at, past, name_in}
use Rattle.sheet.specs.Structure.{fault_from}
use Rattle.sheet_record.specs.declared.Record.{Record}
use Rattle.sheet_record.proofs.Places.{View, reads, view}
use Rattle.sheet.proofs.Walk.{records_from}

-- a record without its place
pub record Entry : Type 0 where
  pub name : List ℕ
  pub kind : ℕ
  pub first : ℕ
  pub second : ℕ

-- entries in turn, and the number of the refusal that ends them, or 0
pub record Entries : Type 0 where
  pub list : List Entry
  pub end : ℕ

abbrev pub ends : ℕ → Entries
ends k = record { list = []; end = k }

abbrev pub then : Entry → Entries → Entries
then e es = record { list = e ∷ es.list; end = es.end }

-- what the record at the front of some bytes says
abbrev pub entry_of : List ℕ → Fields → Entry
entry_of u f = record { name = part u 1 f.len; kind = f.kind; first = f.first; second = f.second }

-- n records from the front of some bytes, after which nothing is left over
unfoldable pub entries_from : Layout → ℕ → List ℕ → Entries
entries_from y zero u = ends (cond (eqb (length u) 0) 0 4)
entries_from y (suc n) u = elim (front_of y u) [ bad k ↦ ends k | front f ↦ then (entry_of u f) (entries_from y n (drop (18 + f.len + f.tail) u)) ]

-- what the records of a sheet say
abbrev pub said_by : List ℕ → Record → Entry
said_by s r = record { name = name_in s r; kind = r.kind; first = r.first; second = r.second }

abbrev pub said : List ℕ → List Record → List Entry
said s [] = []
said s (r ∷ rs) = said_by s r ∷ said s rs

none_left : (s : List ℕ) (at : ℕ) → at ≤ length s → eqb (length (drop at s)) 0 ≡ eqb at (length s)
none_left s at h = go (eqb at (length s)) refl
  where
    go : (b : Bool) → eqb at (length s) ≡ b → eqb (length (drop at s)) 0 ≡ b
    go true p = eq-eqb (length (drop at s)) 0 (omega (arith, length-drop at s, eqb-true at (length s) p))
    go false p = ne_eqb (length (drop at s)) 0 (λ e. eqb-false at (length s) p (omega (arith, length-drop at s)))

-- what a walk that reads some records says, with the number that ends it
abbrev pub walk_said : List ℕ → List Record → ℕ → Entries
walk_said s rs k = record { list = said s rs; end = k }

-- the walk by places reads what the bytes from its place on say
pub entries_are : (y : Layout) (s : List ℕ) (n at : ℕ) → at ≤ length s → entries_from y n (drop at s) ≡ walk_said s (records_from y s n at) (fault_from y s n at)
unfolding entries_from records_from fault_from
entries_are y s zero at h = ap (λ (b : Bool). ends (cond b 0 4)) (none_left s at h)
entries_are y s (suc n) at h = go (entries_are y s n) (front_of y (drop at s)) (view y s at)
  where
    go : ((at : ℕ) → at ≤ length s → entries_from y n (drop at s) ≡ walk_said s (records_from y s n at) (fault_from y s n at)) → (t : Front) → View y s at t
        → ◌≡◌ {A = Entries}
        (elim t as (λ x. Entries) [ bad k ↦ ends k | front f ↦ then (entry_of (drop at s) f) (entries_from y n (drop (18 + f.len + f.tail) (drop at s))) ])
        (walk_said s (elim t as (λ x. List Record) [ bad k ↦ [] | front f ↦ record_at at f ∷ records_from y s n (past at f) ])
        (elim t as (λ x. ℕ) [ bad k ↦ k | front f ↦ fault_from y s n (past at f) ]))
    go ih (bad k) v = refl
    go ih (front f) (reads w) =
        let l : at + (18 + f.len + f.tail) ≡ past at f = omega arith in
        let e : drop (18 + f.len + f.tail) (drop at s) ≡ drop (past at f) s = drop-drop (18 + f.len + f.tail) at s ∙ ap (λ (i : ℕ). drop i s) l in
        ap₂ (λ (x : List ℕ) (es : Entries). then (record { name = take f.len x; kind = f.kind; first = f.first; second = f.second }) es)
        (drop-drop 1 at s) (ap (entries_from y n) e ∙ ih (past at f) w.fits)
