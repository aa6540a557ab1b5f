-- A record in front of other bytes, for any layout: what it says comes first, and the rest follows from what is behind it.
use mathlib.Core.Bool.{Bool, true, false, cond, ◌||◌}
use mathlib.Core.List.{List, ◌∷◌, ◌++◌}
use mathlib.Core.Option.{Option, none, some}
use mathlib.Core.Path.{◌≡◌, refl, ap, ap₂, ◌∙◌}
use Prim.Native.Nat.{ℕ, zero, suc, ◌+◌, ◌≤◌}
use native.Mathlib.Omega.{arith}
use borrow.Author.Tests.{ne_eqb, le-ltb}
use lib.Dec.{eqb, ltb}
use lib.ListN.{length, get_or, take, drop, length-append, get_or-append}
use lib.Seq.{take-append-le, drop_at, drop-append-add, drop-append_seam}
use Rattle.kind.specs.Kind.{kind_of, is_known}
use Rattle.octets.specs.Bytes.{number_at}
use Rattle.sheet_record.specs.Layout.{Layout}
use Rattle.sheet_record.specs.Front.{Fields, Front, bad, front, front_of, fields_of}
use Rattle.sheet_record.proofs.Local.{number_append}
use Rattle.sheet.proofs.Entries.{Entry, Entries, ends, then, entry_of, entries_from}

-- n is the length byte, `body` holds the name, the kind and the two values
abbrev entry_in : List ℕ → ℕ → List ℕ → Entry
entry_in name n body = record { name = name; kind = get_or body n 0; first = number_at 8 body (n + 1); second = number_at 8 body (n + 9) }

-- the record, and the entries behind it; none where its tail is cut short
abbrev followed : ℕ → List ℕ → Option Entries → Entries
followed n body none = ends 4
followed n body (some es) = cond (is_known (kind_of (get_or body n 0))) (then (entry_in (take n body) n body) es) (ends 6)

abbrev pub in_front : ℕ → List ℕ → Option Entries → Entries
in_front n body es = cond (eqb n 0 || ltb 40 n) (ends 5) (followed n body es)

-- m entries behind a tail
abbrev pub behind_tail : Layout → ℕ → List ℕ → Option ℕ → Option Entries
behind_tail y m rest none = none
behind_tail y m rest (some t) = some (entries_from y m (drop t rest))

module _ (y : Layout) (n : ℕ) (body rest : List ℕ) (whole : length body ≡ n + 17) where
  -- the fields lie in the body
  fields_head : (o : Option ℕ) → fields_of n (body ++ rest) o ≡ fields_of n body o
  fields_head none = refl
  fields_head (some t) =
      rw (
        get_or-append body rest 0 n (omega arith),
        number_append 8 (n + 1) body rest (omega arith),
        number_append 8 (n + 9) body rest (omega arith),
      )

  pub front_head : front_of y (n ∷ (body ++ rest)) ≡ cond (eqb n 0 || ltb 40 n) (bad 5) (fields_of n body (y.tail rest))
  unfolding front_of
  front_head =
      let c : n + 17 ≤ length (body ++ rest) = omega (arith, length-append body rest) in
      rw (le-ltb (length (body ++ rest)) (n + 17) c, drop_at body rest (n + 17) whole, fields_head (y.tail rest))

  pub behind_head : (t : ℕ) → drop (18 + n + t) (n ∷ (body ++ rest)) ≡ drop t rest
  behind_head t =
      let e : 18 + n + t ≡ length (n ∷ body) + t = omega arith in
      ap (λ (i : ℕ). drop i (n ∷ (body ++ rest))) e ∙ drop-append-add (n ∷ body) rest t

  pub entries_head : (m : ℕ) → entries_from y (suc m) (n ∷ (body ++ rest)) ≡ in_front n body (behind_tail y m rest (y.tail rest))
  unfolding entries_from
  entries_head m = ap read front_head ∙ named (eqb n 0 || ltb 40 n)
    where
      read : Front → Entries
      read x =
          elim x as (λ z. Entries) [
            | bad k ↦ ends k
            | front f ↦ then (entry_of (n ∷ (body ++ rest)) f) (entries_from y m (drop (18 + f.len + f.tail) (n ∷ (body ++ rest))))
          ]

      fields_in : ℕ → Fields
      fields_in t = record { len = n; kind = get_or body n 0; first = number_at 8 body (n + 1); second = number_at 8 body (n + 9); tail = t }

      known : (t : ℕ) (b : Bool)
          → read (cond b (front (fields_in t)) (bad 6)) ≡ cond b (then (entry_in (take n body) n body) (entries_from y m (drop t rest))) (ends 6)
      known t true =
          ap₂ (λ (x : List ℕ) (es : Entries). then (entry_in x n body) es)
          (take-append-le n body rest (omega arith)) (ap (entries_from y m) (behind_head t))
      known t false = refl

      tailed : (o : Option ℕ) → read (fields_of n body o) ≡ followed n body (behind_tail y m rest o)
      tailed none = refl
      tailed (some t) = known t (is_known (kind_of (get_or body n 0)))

      named : (b : Bool) → read (cond b (bad 5) (fields_of n body (y.tail rest))) ≡ cond b (ends 5) (followed n body (behind_tail y m rest (y.tail rest)))
      named true = refl
      named false = tailed (y.tail rest)

-- a record with a whole tail e: what it says, and then what is said behind it
pub entries_past : (y : Layout) (m n : ℕ) (body e u : List ℕ) → length body ≡ n + 17 → y.tail (e ++ u) ≡ some (length e)
    → entries_from y (suc m) (n ∷ (body ++ (e ++ u))) ≡ in_front n body (some (entries_from y m u))
entries_past y m n body e u whole t =
    entries_head y n body (e ++ u) whole m
    ∙ ap (λ (o : Option ℕ). in_front n body (behind_tail y m (e ++ u) o)) t
    ∙ ap (λ (x : List ℕ). in_front n body (some (entries_from y m x))) (drop-append_seam e u)

-- where no record is left to read, any byte is one too many
pub left_over : (y : Layout) (n : ℕ) (u : List ℕ) → entries_from y zero (n ∷ u) ≡ ends 4
unfolding entries_from
left_over y n u = let z : length (n ∷ u) ≡ 0 → ⊥ = λ h. omega arith in rw (ne_eqb (length (n ∷ u)) 0 z)
