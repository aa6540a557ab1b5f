-- What each way gives, case by case, and how long its result is.
use mathlib.Core.Bool.{Bool, true, false, cond}
use mathlib.Core.List.{List, [], ◌∷◌}
use mathlib.Core.Path.{◌≡◌, refl, sym, ap, ◌∙◌}
use Prim.Native.Nat.{ℕ, ◌+◌, ◌≤◌, ◌<◌}
use native.Mathlib.Omega.{arith}
use borrow.Author.Tests.{le-ltb, lt-ltb}
use lib.Dec.{ltb}
use lib.ListN.{length, drop}
use Rattle.refusal.specs.declared.Refusal.{Refusal}
use Rattle.refusal.specs.Numbered.{number_for}
use Rattle.refusal.proofs.Apart.{never_zero}
use Rattle.octets.specs.Room.{Text, refused, fitting}
use Rattle.sheet_record.specs.Layout.{Layout, layout_in, layout_of, or_plain, plain_layout}
use Rattle.sheet_record.specs.Front.{values_end}
use Rattle.sheet_record.specs.declared.Record.{Record}
use Rattle.sheet.specs.Sheet.{Sheet, records, sheet_of, number_of, records_of}
use Rattle.sheet.proofs.Counted.{accepted_count}
use Rattle.sheet_version.specs.Version.{sheet_in}
use Rattle.sheet_version.proofs.Version.{in_version_lem, read_in_lem, count_read, few_read, most_read}
use Rattle.sheet_remark.specs.Remark.{remark_at}
use Rattle.convert_records.specs.Records.{sheet_as, bare}
use Rattle.convert.specs.Convert.{forward_by, forward, back_by, back}
use Rattle.convert.proofs.Paired.{one, two, flip, pair_length}
use Rattle.convert.proofs.Sheets.{sheets_paired, from_length, to_length, count_is}

-- version 1 has no remarks
plain_bare : (s : List ℕ) → layout_in s ≡ plain_layout → (rs : List Record) → bare s rs ≡ true
unfolding bare
plain_bare s y [] = refl
plain_bare s y (r ∷ rs) = rw (ap (λ (z : Layout). (remark_at (values_end r) (z.tail (drop (values_end r) s))).len) y) (plain_bare s y rs)

pub one_bare : (s : List ℕ) → number_of (sheet_in 1 s) ≡ 0 → bare s (records_of (sheet_of s)) ≡ true
unfolding layout_in
one_bare s a = plain_bare s (ap (λ (n : ℕ). or_plain (layout_of n)) (in_version_lem 1 s a).0) (records_of (sheet_of s))

-- forward adds a byte for each record
pub forward_length : (s : List ℕ) → number_of (sheet_in 1 s) ≡ 0 → length (sheet_as 2 s (records_of (sheet_of s))) ≡ length s + length (records_of (sheet_of s))
forward_length s a =
    let b = one_bare s a in
    omega (arith, pair_length (sheets_paired one two s a b), from_length one two s a b, to_length one two s a b, count_is one two s a b, count_read 1 s a)

-- back takes one
pub back_length : (s : List ℕ) → number_of (sheet_in 2 s) ≡ 0 → bare s (records_of (sheet_of s)) ≡ true
    → length (sheet_as 1 s (records_of (sheet_of s))) + length (records_of (sheet_of s)) ≡ length s
back_length s a b =
    omega (arith, pair_length (flip (sheets_paired two one s a b)), from_length two one s a b, to_length two one s a b, count_is two one s a b, count_read 2 s a)

-- a sheet's own number
own : (by : Sheet → Text) → ((n : ℕ) → by (Sheet.refused n) ≡ refused n) → (x : Sheet) (k : ℕ) → k ≡ number_of x → (k ≡ 0 → ⊥) → by x ≡ refused k
own by r (Sheet.refused n) k e z = r n ∙ ap refused (sym e)
own by r (records rs) k e z = absurd (z e)

module _ (s : List ℕ) (room : ℕ) where
  pub forward_own : (k : ℕ) → k ≡ number_of (sheet_in 1 s) → (k ≡ 0 → ⊥) → forward s room ≡ refused k
  unfolding forward
  forward_own k e z = own (λ x. forward_by x s room) (λ n. refl) (sheet_in 1 s) k e z

  pub back_own : (k : ℕ) → k ≡ number_of (sheet_in 2 s) → (k ≡ 0 → ⊥) → back s room ≡ refused k
  unfolding back
  back_own k e z = own (λ x. back_by x s room) (λ n. refl) (sheet_in 2 s) k e z

  -- len is the result's length
  module _ (len : ℕ) (a : number_of (sheet_in 1 s) ≡ 0) (l : length (sheet_as 2 s (records_of (sheet_of s))) ≡ len) where
    forward_is : forward s room ≡ cond (ltb 65536 len) (refused 1) (fitting room (sheet_as 2 s (records_of (sheet_of s))))
    unfolding forward
    forward_is =
        ap (λ (x : Sheet). forward_by x s room) (read_in_lem 1 s a)
        ∙ ap (λ (n : ℕ). cond (ltb 65536 n) (refused 1) (fitting room (sheet_as 2 s (records_of (sheet_of s))))) l

    pub forward_long : 65536 < len → forward s room ≡ refused 1
    forward_long h = forward_is ∙ ap (λ (b : Bool). cond b (refused 1) (fitting room (sheet_as 2 s (records_of (sheet_of s))))) (lt-ltb 65536 len h)

    pub forward_fitting : len ≤ 65536 → forward s room ≡ fitting room (sheet_as 2 s (records_of (sheet_of s)))
    forward_fitting h = forward_is ∙ ap (λ (b : Bool). cond b (refused 1) (fitting room (sheet_as 2 s (records_of (sheet_of s))))) (le-ltb 65536 len h)

  module _ (a : number_of (sheet_in 2 s) ≡ 0) where
    back_is : back s room ≡ cond (bare s (records_of (sheet_of s))) (fitting room (sheet_as 1 s (records_of (sheet_of s)))) (refused 18)
    unfolding back
    back_is = ap (λ (x : Sheet). back_by x s room) (read_in_lem 2 s a)

    pub back_remarked : bare s (records_of (sheet_of s)) ≡ false → back s room ≡ refused 18
    back_remarked b = back_is ∙ ap (λ (c : Bool). cond c (fitting room (sheet_as 1 s (records_of (sheet_of s)))) (refused 18)) b

    pub back_fitting : bare s (records_of (sheet_of s)) ≡ true → back s room ≡ fitting room (sheet_as 1 s (records_of (sheet_of s)))
    back_fitting b = back_is ∙ ap (λ (c : Bool). cond c (fitting room (sheet_as 1 s (records_of (sheet_of s)))) (refused 18)) b

-- the same by the names of the refusals
module _ (s : List ℕ) (room : ℕ) (r : Refusal) where
  pub forward_refused : number_for r ≡ number_of (sheet_in 1 s) → forward s room ≡ refused (number_for r)
  forward_refused e = forward_own s room (number_for r) e (λ z. let h = never_zero r in omega arith)

  pub back_refused : number_for r ≡ number_of (sheet_in 2 s) → back s room ≡ refused (number_for r)
  back_refused e = back_own s room (number_for r) e (λ z. let h = never_zero r in omega arith)

-- in an accepted sheet the records give the length
pub few_records : (v : ℕ) (s : List ℕ) → number_of (sheet_in v s) ≡ 0 → length (records_of (sheet_of s)) ≤ length s
few_records v s a = omega (arith, few_read v s a, count_read v s a)

pub forward_told : (s : List ℕ) (room : ℕ) → number_of (sheet_in 1 s) ≡ 0 → 65536 < length s + length (records_of (sheet_of s)) → forward s room ≡ refused 1
forward_told s room a h = forward_long s room _ a (forward_length s a) h

-- what the proof of each way goes by
pub ruleset forward_laws = (accepted_count, few_records, most_read, forward_length, forward_refused, forward_told, forward_fitting)

pub ruleset back_laws = (accepted_count, few_records, back_length, back_refused, back_remarked, back_fitting)
