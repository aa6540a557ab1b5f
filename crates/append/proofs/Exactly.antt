-- Each answer of an add comes exactly at its condition.
use mathlib.Core.Bool.{Bool, true, false, cond, not, ◌||◌}
use mathlib.Core.List.Memᴰ
use mathlib.Core.List.{List, [], ◌∷◌, Memᴰ}
use mathlib.Core.Logic.{◌⊎◌, inl, inr}
use mathlib.Core.Path.{◌≡◌, refl, sym, ap, subst, ◌∙◌}
use Prim.Native.Nat.{ℕ, zero, suc, ◌+◌, ◌≤◌, ◌<◌}
use native.Mathlib.Omega.{arith}
use borrow.Author.Tests.{ltb-true, ltb-false, lt-ltb, le-ltb}
use lib.Dec.{ltb}
use lib.ListN.{length}
use Rattle.kind.specs.Kind.{kind_of, is_known}
use Rattle.octets.specs.Bytes.{same}
use Rattle.octets.specs.Room.{Text, refused, text}
use Rattle.name.specs.Name.{name_of}
use Rattle.sheet_name.proofs.Same.{same_equal, same_refl}
use Rattle.sheet_record.specs.declared.Record.{Record}
use Rattle.sheet_record.specs.Front.{name_in}
use Rattle.sheet_record.proofs.Places.{or_false}
use Rattle.sheet.specs.Sheet.{Sheet, records, number_of, seen}
use Rattle.sheet_version.specs.Version.{sheet_in}
use Rattle.sheet_version.proofs.Version.{read_in_lem, in_read, few_read}
use Rattle.append_record.specs.Grown.{new_record, grown}
use Rattle.append_record.proofs.Lengths.{record_length, grown_length}
use Rattle.append.specs.Add.{add_fault, unless_refused, add_named, added}
use Rattle.append.specs.Answer.{Reads, Absent, AddAnswer, AddExactly, AddRefuses}
use Rattle.append.proofs.Faults.{own_number, wrong_name, under_name}

-- ---- a name is seen exactly where a record has it
pub record Holder (s : List ℕ) (rs : List Record) (name : List ℕ) : Type 0 where
  pub record_is : Record
  pub among : Memᴰ record_is rs
  pub has : name_in s record_is ≡ name

seen_holder : (s : List ℕ) (rs : List Record) (name : List ℕ) → seen s rs name ≡ true → Holder s rs name
seen_holder s [] name e = let f : ◌≡◌ {A = ℕ} 0 1 = cc in absurd (omega arith)
seen_holder s (r ∷ rs) name e = go (seen_holder s rs name) (same (name_in s r) name) refl e
  where
    go : (seen s rs name ≡ true → Holder s rs name) → (b : Bool) → same (name_in s r) name ≡ b → b || seen s rs name ≡ true → Holder s (r ∷ rs) name
    go ih true p h = record { record_is = r; among = Memᴰ.head refl; has = same_equal (name_in s r) name p }
    go ih false p h = let k = ih h in record { record_is = k.record_is; among = Memᴰ.tail k.among; has = k.has }

absent_unseen : (s : List ℕ) (rs : List Record) (name : List ℕ) → Absent s rs name → seen s rs name ≡ false
absent_unseen s rs name a = go (seen s rs name) refl
  where
    go : (b : Bool) → seen s rs name ≡ b → seen s rs name ≡ false
    go true p = let k = seen_holder s rs name p in absurd (a k.record_is k.among k.has)
    go false p = p

unseen_absent : (s : List ℕ) (rs : List Record) (name : List ℕ) → seen s rs name ≡ false → Absent s rs name
unseen_absent s [] name e r m h = Memᴰ.not-nil m
unseen_absent s (q ∷ rs) name e r m h = go (unseen_absent s rs name) (or_false (same (name_in s q) name) (seen s rs name) e) (Memᴰ.cases_cons m)
  where
    go : (seen s rs name ≡ false → Absent s rs name) → (same (name_in s q) name ≡ false) × (seen s rs name ≡ false) → (r ≡ q) ⊎ Memᴰ r rs → ⊥
    go ih o (inl p) =
        let t : same (name_in s q) name ≡ true = ap (same (name_in s q)) (sym h ∙ ap (name_in s) p) ∙ same_refl (name_in s q) in
        let u : true ≡ false = sym t ∙ o.0 in
        let f : ◌≡◌ {A = ℕ} 0 1 = cc in
        omega arith
    go ih o (inr p) = ih o.1 r p h

holder_seen : (s : List ℕ) (rs : List Record) (name : List ℕ) (r : Record) → Memᴰ r rs → name_in s r ≡ name → seen s rs name ≡ true
holder_seen s rs name r m h = go (seen s rs name) refl
  where
    go : (b : Bool) → seen s rs name ≡ b → seen s rs name ≡ true
    go true p = p
    go false p = absurd (unseen_absent s rs name p r m h)

-- ---- an add under a name, by its conditions
module _ (s spelling : List ℕ) (kind first second room : ℕ) {rs : List Record} {name : List ℕ} (reads : Reads s spelling rs name) where
  len : ℕ
  len = length s + length name + 19

  whole : List ℕ
  whole = grown s (new_record name kind first second)

  whole_length : length whole ≡ len
  unfolding whole len
  whole_length =
      omega (arith, grown_length s (new_record name kind first second) (omega (arith, few_read 2 s (in_read 2 s reads.sheet).0)), record_length name kind first second)

  -- the answer by the first refusal
  added_by : (known there : Bool) → is_known (kind_of kind) ≡ known → seen s rs name ≡ there → added s spelling kind first second room ≡ unless_refused (add_fault known there len room) whole
  unfolding whole
  added_by known there k h =
      under_name s spelling kind first second room (in_read 2 s reads.sheet).0 name reads.name_is
      ∙ ap (λ (qs : List Record). add_named s qs name kind first second room) (in_read 2 s reads.sheet).1
      ∙ ap (λ (n : ℕ). unless_refused (add_fault (is_known (kind_of kind)) (seen s rs name) n room) whole) whole_length
      ∙ rw (k, h)

  -- a new name of a known kind: 19, then 14
  module _ (known : is_known (kind_of kind) ≡ true) (new : seen s rs name ≡ false) where
    too_long : 65536 < length s + length name + 19 → added s spelling kind first second room ≡ refused 19
    unfolding len
    too_long l = added_by true false known new ∙ ap (λ (b : Bool). unless_refused (cond b 19 (cond (ltb room len) 14 0)) whole) (lt-ltb 65536 len l)

    too_short : length s + length name + 19 ≤ 65536 → room < length s + length name + 19 → added s spelling kind first second room ≡ refused 14
    unfolding len
    too_short l m =
        added_by true false known new
        ∙ ap (λ (b : Bool). unless_refused (cond b 19 (cond (ltb room len) 14 0)) whole) (le-ltb 65536 len l)
        ∙ ap (λ (b : Bool). unless_refused (cond b 14 0) whole) (lt-ltb room len m)

  exactly_named : AddAnswer s spelling kind room (added s spelling kind first second room)
  unfolding len whole
  exactly_named = known (is_known (kind_of kind)) refl
    where
      Answer : Bool → Bool → Bool → Bool → Type 0
      Answer k h a b = AddAnswer s spelling kind room (unless_refused (cond (not k) 6 (cond h 16 (cond a 19 (cond b 14 0)))) whole)

      lengths : is_known (kind_of kind) ≡ true → Absent s rs name → (a b : Bool) → ltb 65536 len ≡ a → ltb room len ≡ b → Answer true false a b
      lengths k n true b p q = AddAnswer.full reads k n (ltb-true 65536 len p)
      lengths k n false true p q = AddAnswer.short reads k n (ltb-false 65536 len p) (ltb-true room len q)
      lengths k n false false p q = AddAnswer.taken reads k n (ltb-false 65536 len p) (ltb-false room len q) whole_length

      named : is_known (kind_of kind) ≡ true → (h : Bool) → seen s rs name ≡ h → Answer true h (ltb 65536 len) (ltb room len)
      named k true p = let t = seen_holder s rs name p in AddAnswer.there reads k t.among t.has
      named k false p = lengths k (unseen_absent s rs name p) (ltb 65536 len) (ltb room len) refl refl

      known : (k : Bool) → is_known (kind_of kind) ≡ k → AddAnswer s spelling kind room (added s spelling kind first second room)
      known false p = subst (AddAnswer s spelling kind room) (sym (added_by false (seen s rs name) p refl)) (AddAnswer.unknown reads p)
      known true p = subst (AddAnswer s spelling kind room) (sym (added_by true (seen s rs name) p refl)) (named p (seen s rs name) refl)

pub add_exactly : AddExactly
unfolding added
add_exactly s spelling kind first second room = go (sheet_in 2 s) refl
  where
    named : (rs : List Record) → sheet_in 2 s ≡ records rs → (x : Text) → name_of spelling ≡ x → AddAnswer s spelling kind room (added s spelling kind first second room)
    named rs p (refused k) q =
        subst (AddAnswer s spelling kind room) (sym (wrong_name s spelling kind first second room (in_read 2 s p).0 k q)) (AddAnswer.unread p q)
    named rs p (text name) q = exactly_named s spelling kind first second room (record { sheet = p; name_is = q })

    go : (x : Sheet) → sheet_in 2 s ≡ x → AddAnswer s spelling kind room (added s spelling kind first second room)
    go (Sheet.refused zero) p = absurd (never (sym p ∙ read_in_lem 2 s (ap number_of p)))
      where
        never : {n : ℕ} {rs : List Record} → Sheet.refused n ≡ records rs → ⊥
        never q = let f : ◌≡◌ {A = ℕ} 0 1 = cc in omega arith
    go (Sheet.refused (suc n)) p =
        let z : suc n ≡ 0 → ⊥ = λ h. omega arith in
        subst (AddAnswer s spelling kind room) (sym (own_number s spelling kind first second room (suc n) (sym (ap number_of p)) z)) (AddAnswer.own (ap number_of p) z)
    go (records rs) p = named rs p (name_of spelling) refl

pub add_refuses : AddRefuses
add_refuses s spelling kind first second room k (AddAnswer.own e z) = own_number s spelling kind first second room k (sym e) z
add_refuses s spelling kind first second room k (AddAnswer.unread p q) = wrong_name s spelling kind first second room (in_read 2 s p).0 k q
add_refuses s spelling kind first second room k (AddAnswer.unknown {rs = rs} {name = name} w e) = added_by s spelling kind first second room w false (seen s rs name) e refl
add_refuses s spelling kind first second room k (AddAnswer.there {rs = rs} {r = q} {name = name} w e m h) =
    added_by s spelling kind first second room w true true e (holder_seen s rs name q m h)
add_refuses s spelling kind first second room k (AddAnswer.full {rs = rs} {name = name} w e n l) = too_long s spelling kind first second room w e (absent_unseen s rs name n) l
add_refuses s spelling kind first second room k (AddAnswer.short {rs = rs} {name = name} w e n l m) = too_short s spelling kind first second room w e (absent_unseen s rs name n) l m
