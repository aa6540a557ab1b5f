-- A sheet's number from its header, its records' structure and their names; and the records of an accepted sheet.
use mathlib.Core.Bool.{Bool, true, false, cond, not, ◌||◌}
use mathlib.Core.List.{List, []}
use mathlib.Core.Option.{Option, none, some}
use mathlib.Core.Path.{◌≡◌, refl, sym, ap, ap₂, ◌∙◌}
use Prim.Native.Nat.{ℕ, zero, suc, ◌≤◌}
use native.Mathlib.Omega.{arith}
use borrow.Author.Tests.{eqb-true, ltb-false}
use lib.Dec.{eqb, ltb}
use lib.ListN.{length, take}
use Rattle.refusal.specs.declared.Refusal.{Refusal}
use Rattle.refusal.specs.Numbered.{number_for}
use Rattle.refusal.proofs.Apart.{never_zero}
use Rattle.distinct.specs.Distinct.{repeats}
use Rattle.octets.specs.Bytes.{number_at}
use Rattle.sheet_record.specs.Layout.{Layout, layout_of, layout_in, or_plain}
use Rattle.sheet_record.specs.Front.{end_at}
use Rattle.sheet_head.specs.Head.{is_marked}
use Rattle.sheet.specs.Sheet.{Sheet, refused, records, with_layout, sheet_by, sheet_of, number_of, Accepted}
use Rattle.sheet_head.specs.Head.{version_fault, head_fault}
use Rattle.sheet.specs.Structure.{fault_from, Walked}
use Rattle.sheet_record.specs.declared.Record.{Record}
use Rattle.sheet_record.proofs.Places.{or_false}
use Rattle.sheet.proofs.Walk.{records_from, twice, names, verdict, walk_verdict, repeats_names}

-- the records of a sheet, and what ends their reading
abbrev pub read : List ℕ → List Record
read s = records_from (layout_in s) s (number_at 2 s 5) 7

abbrev pub fault : List ℕ → ℕ
fault s = fault_from (layout_in s) s (number_at 2 s 5) 7

-- a sheet by its header and its verdict
abbrev pub by_head : ℕ → Sheet → Sheet
by_head zero v = v
by_head (suc k) v = refused (suc k)

-- the verdict where a version has a layout or none
abbrev under : List ℕ → Option Layout → Sheet
under s o = verdict s (records_from (or_plain o) s (number_at 2 s 5) 7) (fault_from (or_plain o) s (number_at 2 s 5) 7)

module _ (s : List ℕ) (o : Option Layout) where
  laid : with_layout s o ≡ by_head (version_fault o) (under s o)
  laid = go o
    where
      go : (o : Option Layout) → with_layout s o ≡ by_head (version_fault o) (under s o)
      go none = refl
      go (some y) = walk_verdict y s (number_at 2 s 5) 7 [] refl

  marked : (b : Bool) → cond b (refused 2) (with_layout s o) ≡ by_head (cond b 2 (version_fault o)) (under s o)
  marked true = refl
  marked false = laid

  long : (a b : Bool) → cond a (refused 1) (cond b (refused 2) (with_layout s o)) ≡ by_head (cond a 1 (cond b 2 (version_fault o))) (under s o)
  long true b = refl
  long false b = marked b

pub sheet_verdict : (s : List ℕ) → sheet_of s ≡ by_head (head_fault s) (verdict s (read s) (fault s))
unfolding sheet_by head_fault layout_in
sheet_verdict s = long s (layout_of (number_at 2 s 3)) (ltb 65536 (length s)) (ltb (length s) 7 || not (is_marked s))

number_verdict : (t : Bool) (rs : List Record) (k : ℕ) → number_of (cond t (refused 16) (cond (eqb k 0) (records rs) (refused k))) ≡ cond t 16 k
number_verdict true rs k = refl
number_verdict false rs k = go (eqb k 0) refl
  where
    go : (b : Bool) → eqb k 0 ≡ b → number_of (cond b (records rs) (refused k)) ≡ k
    go true p = sym (eqb-true k 0 p)
    go false p = refl

-- the number of a sheet whose header is refused
pub number_head : (s : List ℕ) → (head_fault s ≡ 0 → ⊥) → number_of (sheet_of s) ≡ head_fault s
number_head s h = ap number_of (sheet_verdict s) ∙ go (head_fault s) h
  where
    go : (k : ℕ) → (k ≡ 0 → ⊥) → number_of (by_head k (verdict s (read s) (fault s))) ≡ k
    go zero z = absurd (z refl)
    go (suc k) z = refl

-- the header's refusal by its name
pub head_refused : (s : List ℕ) (r : Refusal) → number_for r ≡ head_fault s → number_for r ≡ number_of (sheet_of s)
head_refused s r e = e ∙ sym (number_head s (λ z. let h = never_zero r in omega arith))

-- the number of any other sheet: 16 where two of the records read share a name, else what ended their reading
pub number_records : (s : List ℕ) → head_fault s ≡ 0 → number_of (sheet_of s) ≡ cond (twice (names s (read s))) 16 (fault s)
number_records s h =
    ap number_of (sheet_verdict s ∙ ap (λ (k : ℕ). by_head k (verdict s (read s) (fault s))) h)
    ∙ number_verdict (twice (names s (read s))) (read s) (fault s)

-- a header that is not refused
pub record Headed (s : List ℕ) : Type 0 where
  pub most : length s ≤ 65536
  pub least : 7 ≤ length s

pub headed : (s : List ℕ) → head_fault s ≡ 0 → Headed s
unfolding head_fault
headed s e = long (ltb 65536 (length s)) refl e
  where
    short : (b : Bool) → (ltb (length s) 7 || not (is_marked s)) ≡ b → length s ≤ 65536 → ◌≡◌ {A = ℕ} (cond b 2 (version_fault (layout_of (number_at 2 s 3)))) 0 → Headed s
    short true p m h = absurd (omega arith)
    short false p m h = record { most = m; least = ltb-false (length s) 7 (or_false (ltb (length s) 7) (not (is_marked s)) p).0 }

    long : (b : Bool) → ltb 65536 (length s) ≡ b → ◌≡◌ {A = ℕ} (cond b 1 (cond (ltb (length s) 7 || not (is_marked s)) 2 (version_fault (layout_of (number_at 2 s 3))))) 0 → Headed s
    long true p h = absurd (omega arith)
    long false p h = short (ltb (length s) 7 || not (is_marked s)) refl (ltb-false 65536 (length s) p) h

-- an accepted sheet: its header is not refused, nothing ends the reading of its records, no two share a name, and they are those that are read
module _ (s : List ℕ) (a : Accepted s) where
  pub accepted_head : head_fault s ≡ 0
  accepted_head = go (head_fault s) refl
    where
      go : (k : ℕ) → head_fault s ≡ k → head_fault s ≡ 0
      go zero e = e
      go (suc k) e = let n : head_fault s ≡ 0 → ⊥ = λ z. omega arith in absurd (n (sym (number_head s n) ∙ a))

  apart : (t : Bool) → twice (names s (read s)) ≡ t → (fault s ≡ 0) × (twice (names s (read s)) ≡ false)
  apart true p = absurd (omega (arith, sym (number_records s accepted_head) ∙ a, ap (λ (b : Bool). cond b 16 (fault s)) p))
  apart false p = (sym (ap (λ (b : Bool). cond b 16 (fault s)) p) ∙ sym (number_records s accepted_head) ∙ a, p)

  pub accepted_fault : fault s ≡ 0
  accepted_fault = (apart (twice (names s (read s))) refl).0

  pub accepted_apart : twice (names s (read s)) ≡ false
  accepted_apart = (apart (twice (names s (read s))) refl).1

  pub accepted_is : sheet_of s ≡ records (read s)
  accepted_is = sheet_verdict s ∙ rw (accepted_head, accepted_apart, accepted_fault)

-- the number of a sheet, from where a walk over its records ends
pub number_walked : (s : List ℕ) (at left count : ℕ) (starts : List ℕ) → head_fault s ≡ 0 → Walked s (number_at 2 s 5) at left count starts
    → number_of (sheet_of s) ≡ cond (repeats s (take count starts)) 16 (end_at (layout_in s) s at left)
number_walked s at left count starts h w =
    let c : repeats s (take count starts) ≡ twice (names s (read s)) = ap (repeats s) w.places ∙ repeats_names (layout_in s) s (number_at 2 s 5) 7 in
    number_records s h ∙ ap₂ (λ (b : Bool) (k : ℕ). cond b 16 k) (sym c) (sym w.fault)
