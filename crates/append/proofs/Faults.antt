-- What an add gives, by its first refusal.
use mathlib.Core.Bool.{Bool, true, false, cond}
use mathlib.Core.List.{List}
use mathlib.Core.Path.{◌≡◌, refl, sym, ap, ap₂, ◌∙◌}
use Prim.Native.Nat.{ℕ, zero, suc, ◌+◌, ◌≤◌, ◌<◌}
use native.Mathlib.Omega.{arith}
use borrow.Author.Tests.{ltb-false}
use lib.Dec.{ltb}
use lib.ListN.{length}
use Rattle.kind.specs.Kind.{kind_of, is_known}
use Rattle.kind.proofs.Byte.{known_byte}
use Rattle.refusal.specs.declared.Refusal.{Refusal}
use Rattle.refusal.specs.Numbered.{number_for}
use Rattle.refusal.proofs.Apart.{never_zero}
use Rattle.octets.specs.Bytes.{number_at}
use Rattle.octets.specs.Room.{Text, refused, text}
use Rattle.name.specs.Spelling.{Reading, wrong, bytes, reading}
use Rattle.name.specs.Name.{is_length, judged, name_of}
use Rattle.sheet_record.specs.declared.Record.{Record}
use Rattle.sheet.specs.Sheet.{Sheet, records, sheet_of, number_of, records_of, seen}
use Rattle.sheet_version.specs.Version.{sheet_in}
use Rattle.sheet_version.proofs.Version.{read_in_lem, few_read, most_read}
use Rattle.append_record.proofs.Lengths.{record_length, grown_length}
use Rattle.append_record.specs.Grown.{new_record, grown}
use Rattle.append.specs.Add.{add_fault, unless_refused, add_named, add_to, add_by, added}

pub by_fault : (k : ℕ) (t : List ℕ) → (k ≡ 0 → ⊥) → unless_refused k t ≡ refused k
by_fault zero t z = absurd (z refl)
by_fault (suc k) t z = refl

pub by_none : (k : ℕ) (t : List ℕ) → k ≡ 0 → unless_refused k t ≡ text t
by_none k t e = ap (λ (n : ℕ). unless_refused n t) e

-- where nothing refuses
pub record Free (named there : Bool) (len room : ℕ) : Type 0 where
  pub known : named ≡ true
  pub new : there ≡ false
  pub most : len ≤ 65536
  pub fits : len ≤ room

pub free : (known there : Bool) (len room : ℕ) → add_fault known there len room ≡ 0 → Free known there len room
free false there len room e = absurd (omega arith)
free true true len room e = absurd (omega arith)
free true false len room e = go (ltb 65536 len) (ltb room len) refl refl e
  where
    go : (a b : Bool) → ltb 65536 len ≡ a → ltb room len ≡ b → ◌≡◌ {A = ℕ} (cond a 19 (cond b 14 0)) 0 → Free true false len room
    go true b p q h = absurd (omega arith)
    go false true p q h = absurd (omega arith)
    go false false p q h = record { known = refl; new = refl; most = ltb-false 65536 len p; fits = ltb-false room len q }

-- a name that is not read is refused by 7 or 8
name_never : (spelling : List ℕ) → name_of spelling ≡ refused 0 → ⊥
unfolding name_of
name_never spelling e = go (reading spelling) e
  where
    sized : (b : Bool) (bs : List ℕ) → cond b (text bs) (refused 8) ≡ refused 0 → ⊥
    sized true bs h = let f : ◌≡◌ {A = ℕ} 0 1 = cc in omega arith
    sized false bs h = let f : ◌≡◌ {A = ℕ} 8 0 = cc in omega arith

    go : (r : Reading) → judged r ≡ refused 0 → ⊥
    go wrong h = let f : ◌≡◌ {A = ℕ} 7 0 = cc in omega arith
    go (bytes bs) h = sized (is_length (length bs)) bs h

-- an add by its sheet and its name
module _ (s spelling : List ℕ) (kind first second room : ℕ) where
  pub own_number : (k : ℕ) → k ≡ number_of (sheet_in 2 s) → (k ≡ 0 → ⊥) → added s spelling kind first second room ≡ refused k
  unfolding added
  own_number k e z = go (sheet_in 2 s) e
    where
      go : (t : Sheet) → k ≡ number_of t → add_by t s (name_of spelling) kind first second room ≡ refused k
      go (Sheet.refused n) h = ap refused (sym h)
      go (records rs) h = absurd (z h)

  module _ (a : number_of (sheet_in 2 s) ≡ 0) where
    by_name : (name : Text) → name_of spelling ≡ name → added s spelling kind first second room ≡ add_to s (records_of (sheet_of s)) name kind first second room
    unfolding added
    by_name name e = rw (read_in_lem 2 s a, e)

    pub wrong_name : (k : ℕ) → name_of spelling ≡ refused k → added s spelling kind first second room ≡ refused k
    wrong_name k e = by_name (refused k) e

    pub under_name : (name : List ℕ) → name_of spelling ≡ text name → added s spelling kind first second room ≡ add_named s (records_of (sheet_of s)) name kind first second room
    under_name name e = by_name (text name) e

-- a refusal has a number
no_zero : {t : List ℕ} → text t ≡ refused 0 → ⊥
no_zero e = let f : ◌≡◌ {A = ℕ} 0 1 = cc in omega arith

number_same : {j k : ℕ} → refused j ≡ refused k → j ≡ k
number_same e = cc

pub added_never : (s spelling : List ℕ) (kind first second room : ℕ) → added s spelling kind first second room ≡ refused 0 → ⊥
unfolding added
added_never s spelling kind first second room e = go (sheet_in 2 s) refl e
  where
    named : (rs : List Record) (x : Text) → name_of spelling ≡ x → add_to s rs x kind first second room ≡ refused 0 → ⊥
    named rs (refused k) p h = name_never spelling (p ∙ ap refused (number_same h))
    named rs (text name) p h =
        let t : List ℕ = grown s (new_record name kind first second) in
        under (add_fault (is_known (kind_of kind)) (seen s rs name) (length t) room) t h
      where
        under : (k : ℕ) (t : List ℕ) → unless_refused k t ≡ refused 0 → ⊥
        under zero t z = no_zero z
        under (suc k) t z = omega (arith, number_same z)

    go : (x : Sheet) → sheet_in 2 s ≡ x → add_by x s (name_of spelling) kind first second room ≡ refused 0 → ⊥
    go (Sheet.refused n) p h =
        let z : n ≡ 0 = number_same h in
        sheet_never (sym p ∙ read_in_lem 2 s (ap number_of p ∙ z))
      where
        sheet_never : {n : ℕ} {rs : List Record} → Sheet.refused n ≡ records rs → ⊥
        sheet_never q = let f : ◌≡◌ {A = ℕ} 0 1 = cc in omega arith
    go (records rs) p h = named rs (name_of spelling) refl h

-- the sheet that would grow is longer by the new record
pub longer : (s name : List ℕ) (kind first second : ℕ) → 7 ≤ length s → length (grown s (new_record name kind first second)) ≡ length s + length name + 19
longer s name kind first second h = omega (arith, grown_length s (new_record name kind first second) h, record_length name kind first second)

-- under a name, by the first refusal that is found for the length of the sheet that would grow
module _ (s : List ℕ) (rs : List Record) (name : List ℕ) (kind first second room : ℕ) (there : Bool) (t : there ≡ seen s rs name) (h : 7 ≤ length s) where
  named_fault : add_fault (is_known (kind_of kind)) there (length s + length name + 19) room
      ≡ add_fault (is_known (kind_of kind)) (seen s rs name) (length (grown s (new_record name kind first second))) room
  named_fault =
      ap₂ (λ (b : Bool) (n : ℕ). add_fault (is_known (kind_of kind)) b n room) t (sym (longer s name kind first second h))

  pub named_refused : (k : ℕ) → k ≡ add_fault (is_known (kind_of kind)) there (length s + length name + 19) room → (k ≡ 0 → ⊥)
      → add_named s rs name kind first second room ≡ refused k
  named_refused k e z = by_fault _ _ (λ w. z (e ∙ named_fault ∙ w)) ∙ ap refused (sym (e ∙ named_fault))

  pub named_taken : 0 ≡ add_fault (is_known (kind_of kind)) there (length s + length name + 19) room
      → add_named s rs name kind first second room ≡ text (grown s (new_record name kind first second))
  named_taken e = by_none _ _ (sym (e ∙ named_fault))

-- what is known once the sheet and the name are read: whether the kind is known, whether the name is there, and its length
pub record Known (s spelling : List ℕ) (kind : ℕ) (name : List ℕ) (known there : Bool) (len : ℕ) : Type 0 where
  pub accepted : number_of (sheet_in 2 s) ≡ 0
  pub name_is : name_of spelling ≡ text name
  pub known_is : known ≡ is_known (kind_of kind)
  pub there_is : there ≡ seen s (records_of (sheet_of s)) name
  pub len_is : len ≡ length name
  pub short : len ≤ 40

module _ {s spelling : List ℕ} {kind : ℕ} {name : List ℕ} {known there : Bool} {len : ℕ} (x : Known s spelling kind name known there len) (first second room : ℕ) where
  least : 7 ≤ length s
  least = omega (arith, few_read 2 s x.accepted)

  fault_is : add_fault known there (length s + len + 19) room ≡ add_fault (is_known (kind_of kind)) there (length s + length name + 19) room
  fault_is = ap₂ (λ (b : Bool) (n : ℕ). add_fault b there (length s + n + 19) room) x.known_is x.len_is

  pub state_refused : (r : Refusal) → number_for r ≡ add_fault known there (length s + len + 19) room → added s spelling kind first second room ≡ refused (number_for r)
  state_refused r e =
      under_name s spelling kind first second room x.accepted name x.name_is
      ∙ named_refused s _ name kind first second room there x.there_is least _ (e ∙ fault_is) (λ z. let h = never_zero r in omega arith)

  module _ (e : 0 ≡ add_fault known there (length s + len + 19) room) where
    pub state_taken : added s spelling kind first second room ≡ text (grown s (new_record name kind first second))
    state_taken = under_name s spelling kind first second room x.accepted name x.name_is ∙ named_taken s _ name kind first second room there x.there_is least (e ∙ fault_is)

    pub state_length : length s + len + 19 ≡ length (grown s (new_record name kind first second))
    state_length = omega (arith, x.len_is, longer s name kind first second least)

    pub state_fits : (7 ≤ length s) × (number_at 2 s 5 < 65536) × (length name < 256) × (length s + (length name + 19) ≤ room)
    state_fits =
        let f = free known there (length s + len + 19) room (sym e) in
        (least, omega (arith, few_read 2 s x.accepted, most_read 2 s x.accepted), omega (arith, x.short, x.len_is), omega (arith, f.fits, x.len_is))

-- what the proof of `add` goes by
pub ruleset add_laws = (own_number, wrong_name, few_read, most_read, known_byte)
