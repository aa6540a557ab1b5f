-- A sheet of which one version is read, beside a sheet of either.
use mathlib.Core.Bool.{Bool, true, false, cond, not, ◌||◌}
use mathlib.Core.List.{List}
use mathlib.Core.Option.{Option, none, some}
use mathlib.Core.Path.{◌≡◌, refl, sym, ap, ◌∙◌}
use Prim.Native.Nat.{ℕ, ◌+◌, ◌≤◌}
use native.Mathlib.Omega.{arith}
use borrow.Author.Tests.{eq-eqb, ne_eqb, eqb-true, eqb-false}
use lib.Dec.{eqb, ltb}
use lib.ListN.{length}
use Rattle.refusal.specs.declared.Refusal.{Refusal}
use Rattle.refusal.specs.Numbered.{number_for}
use Rattle.refusal.proofs.Apart.{never_zero}
use Rattle.octets.specs.Bytes.{number_at}
use Rattle.sheet_record.specs.Layout.{Layout, layout_of}
use Rattle.sheet_record.specs.declared.Record.{Record}
use Rattle.sheet_head.specs.Head.{is_marked, version_fault, head_fault}
use Rattle.sheet.specs.Sheet.{refused, records, with_layout, sheet_by, sheet_of, number_of, records_of, Accepted}
use Rattle.sheet.proofs.Accept.{number_head, headed, accepted_head}
use Rattle.sheet.proofs.Counted.{accepted_records, accepted_count, accepted_few}
use Rattle.sheet_version.specs.Version.{sheet_in}

-- the version can be read
pub five : (s : List ℕ) → 0 ≡ head_fault s → 5 ≤ length s
five s h = let l = (headed s (sym h)).least in omega arith

module _ (v : ℕ) (s : List ℕ) where
  pub in_same : number_at 2 s 3 ≡ v → sheet_in v s ≡ sheet_of s
  unfolding sheet_by
  in_same e = rw (eq-eqb (number_at 2 s 3) v e, e)

  -- the number where the version is another: long, and not marked
  abbrev other_number : Bool → Bool → ℕ
  other_number a b = cond a 1 (cond b 2 3)

  in_other : (number_at 2 s 3 ≡ v → ⊥) → number_of (sheet_in v s) ≡ other_number (ltb 65536 (length s)) (ltb (length s) 7 || not (is_marked s))
  unfolding sheet_by
  in_other z = rw (ne_eqb (number_at 2 s 3) v z) (go (ltb 65536 (length s)) (ltb (length s) 7 || not (is_marked s)))
    where
      go : (a b : Bool) → number_of (cond a (refused 1) (cond b (refused 2) (with_layout s none))) ≡ other_number a b
      go true b = refl
      go false true = refl
      go false false = refl

  -- the header's refusal comes first
  pub in_head : (head_fault s ≡ 0 → ⊥) → head_fault s ≡ number_of (sheet_in v s)
  unfolding head_fault
  in_head z = go (eqb (number_at 2 s 3) v) refl
    where
      three : (o : Option Layout) → (version_fault o ≡ 0 → ⊥) → version_fault o ≡ 3
      three none h = refl
      three (some y) h = absurd (h refl)

      other : (a b : Bool) → (cond a 1 (cond b 2 (version_fault (layout_of (number_at 2 s 3)))) ≡ 0 → ⊥)
          → cond a 1 (cond b 2 (version_fault (layout_of (number_at 2 s 3)))) ≡ other_number a b
      other true b h = refl
      other false true h = refl
      other false false h = three (layout_of (number_at 2 s 3)) h

      go : (t : Bool) → eqb (number_at 2 s 3) v ≡ t → head_fault s ≡ number_of (sheet_in v s)
      go true p = sym (ap number_of (in_same (eqb-true (number_at 2 s 3) v p)) ∙ number_head s z)
      go false p = other (ltb 65536 (length s)) (ltb (length s) 7 || not (is_marked s)) z ∙ sym (in_other (eqb-false (number_at 2 s 3) v p))

  -- then 3 for another version
  pub in_three : head_fault s ≡ 0 → (number_at 2 s 3 ≡ v → ⊥) → number_of (sheet_in v s) ≡ 3
  unfolding head_fault
  in_three h z = in_other z ∙ go (ltb 65536 (length s)) (ltb (length s) 7 || not (is_marked s)) h
    where
      go : (a b : Bool) → cond a 1 (cond b 2 (version_fault (layout_of (number_at 2 s 3)))) ≡ 0 → other_number a b ≡ 3
      go true b e = absurd (omega arith)
      go false true e = absurd (omega arith)
      go false false e = refl

  -- the same by the names of the refusals
  pub head_refused : (r : Refusal) → number_for r ≡ head_fault s → number_for r ≡ number_of (sheet_in v s)
  head_refused r e = e ∙ in_head (λ z. let h = never_zero r in omega arith)

  pub other_refused : 0 ≡ head_fault s → (number_at 2 s 3 ≡ v → ⊥) → 3 ≡ number_of (sheet_in v s)
  other_refused h z = sym (in_three (sym h) z)

  -- a sheet of the version has its own number
  pub number_same : number_at 2 s 3 ≡ v → number_of (sheet_of s) ≡ number_of (sheet_in v s)
  number_same e = sym (ap number_of (in_same e))

  -- a sheet that is accepted as one of a version is of that version, and accepted
  pub in_version_lem : number_of (sheet_in v s) ≡ 0 → (number_at 2 s 3 ≡ v) × Accepted s
  in_version_lem h = go (eqb (number_at 2 s 3) v) refl
    where
      other : (a b : Bool) → other_number a b ≡ 0 → ⊥
      other true b e = omega arith
      other false true e = omega arith
      other false false e = omega arith

      go : (t : Bool) → eqb (number_at 2 s 3) v ≡ t → (number_at 2 s 3 ≡ v) × Accepted s
      go true p = let e = eqb-true (number_at 2 s 3) v p in (e, sym (ap number_of (in_same e)) ∙ h)
      go false p = absurd (other (ltb 65536 (length s)) (ltb (length s) 7 || not (is_marked s)) (sym (in_other (eqb-false (number_at 2 s 3) v p)) ∙ h))

-- the records of a sheet that is accepted as one of a version
module _ (v : ℕ) (s : List ℕ) where
  pub read_in_lem : number_of (sheet_in v s) ≡ 0 → sheet_in v s ≡ records (records_of (sheet_of s))
  read_in_lem a = let i = in_version_lem v s a in in_same v s i.0 ∙ accepted_records s i.1

  pub read_of : {rs : List Record} → sheet_in v s ≡ records rs → sheet_of s ≡ records rs
  read_of e = sym (in_same v s (in_version_lem v s (ap number_of e)).0) ∙ e

  pub in_read : {rs : List Record} → sheet_in v s ≡ records rs → (number_of (sheet_in v s) ≡ 0) × (records_of (sheet_of s) ≡ rs)
  in_read e = (ap number_of e, ap records_of (read_of e))

  pub count_read : number_of (sheet_in v s) ≡ 0 → length (records_of (sheet_of s)) ≡ number_at 2 s 5
  count_read a = accepted_count s (in_version_lem v s a).1

  pub few_read : number_of (sheet_in v s) ≡ 0 → number_at 2 s 5 + 7 ≤ length s
  few_read a = accepted_few s (in_version_lem v s a).1

  pub most_read : number_of (sheet_in v s) ≡ 0 → length s ≤ 65536
  most_read a = (headed s (accepted_head s (in_version_lem v s a).1)).most
