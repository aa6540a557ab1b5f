-- Request 6 over what C gets: a converted sheet has the page of the sheet.
use Rattle.std.specs.Prelude.{Ok, Err}
use mathlib.Core.List.{List}
use mathlib.Core.Path.{◌≡◌, refl}
use Prim.Native.Nat.{ℕ, ◌≤◌}
use native.Mathlib.Omega.{arith}
use lib.ListN.{length}
use Rattle.octets.specs.Room.{Text, refused, text}
use Rattle.name.specs.Name.{name_of}
use Rattle.sheet_record.specs.declared.Record.{Record}
use Rattle.sheet.specs.Sheet.{records, sheet_of, records_of}
use Rattle.sheet_search.specs.Find.{Lookup, find_in}
use Rattle.sheet_search.proofs.Pages.{reply_of}
use Rattle.sheet_search.proofs.Searching.{Finding, hit, finding}
use Rattle.sheet_remark.specs.Remark.{remark_of}
use Rattle.convert.specs.Convert.{forward, back}
use Rattle.convert.specs.BackAnswer.{NoRemark}
use Rattle.convert.specs.ForwardAnswer.{ForwardAnswer}
use Rattle.convert.specs.BackAnswer.{BackAnswer}
use Rattle.convert.proofs.Paired.{Version, one, two}
use Rattle.convert.proofs.Laws.{Turned, turned_back, turned_page, turned_read, forward_turned, back_turned, forward_then_back, back_then_forward}
use Rattle.convert.proofs.Exactly.{none_remarked, forward_exactly, back_exactly}
use Rattle.calculator.specs.Search.{locate_name, locate}
use Rattle.calculator.proofs.Remarks.{same_answers}
use Rattle.calculator.proofs.Replies.{same_reply}
use Rattle.flat_parts.specs.Flat.{flat_remark}
use Rattle.c_laws.specs.Converted.{Kept, KeptBy, FlatForward, FlatBack}
use Rattle.c_laws.proofs.Remarks.{same_for_c}
use Rattle.c_laws.proofs.Rooms.{in_room}

-- what a search finds in a sheet without a remark has none
module _ (s : List ℕ) (rs : List Record) (e : sheet_of s ≡ records rs) (n : NoRemark s rs) where
  found_bare : (l : Lookup) → (name : List ℕ) → Finding s rs name l → (flat_remark (remark_of s l)).length ≡ 0
  unfolding flat_remark
  found_bare (Ok r) name (hit m k) = n r m
  found_bare (Err k) name f = refl

  named_bare : (t : Text) → (flat_remark (remark_of s (locate_name s rs t))).length ≡ 0
  unfolding flat_remark
  named_bare (refused k) = refl
  named_bare (text name) = found_bare (find_in s rs name) name (finding s rs name)

  located_bare : (spelling : List ℕ) → (flat_remark (remark_of s (locate s spelling))).length ≡ 0
  unfolding locate
  located_bare spelling = rw e (named_bare (name_of spelling))

-- the number of a remark is that of its search
remark_number : (s t : List ℕ) (l k : Lookup) → reply_of s l ≡ reply_of t k → (flat_remark (remark_of s l)).number ≡ (flat_remark (remark_of t k)).number
unfolding flat_remark
remark_number s t (Err m) (Err n) e = cc
remark_number s t (Err m) (Ok q) e = let f : ◌≡◌ {A = ℕ} 0 1 = cc in absurd (omega arith)
remark_number s t (Ok r) (Err n) e = let f : ◌≡◌ {A = ℕ} 0 1 = cc in absurd (omega arith)
remark_number s t (Ok r) (Ok q) e = refl

kept : {v w : ℕ} → Version v → Version w → (other : List ℕ → ℕ → Text) (s t : List ℕ) → Turned v w s t → ((room : ℕ) → length s ≤ room → other t room ≡ text s) → Kept other s t
kept k j other s t h r =
    let b = turned_back k j s t h in
    let e = turned_page k j s t h in
    record {
      answers = same_answers s t e;
      for_c = same_for_c s t e;
      remark = λ spelling.
          record {
            number = remark_number s t (locate s spelling) (locate t spelling) (same_reply s t spelling e);
            first = located_bare s (records_of (sheet_of s)) (turned_read s t h) (none_remarked s (records_of (sheet_of s)) h.bare) spelling;
            second = located_bare t (records_of (sheet_of t)) (turned_read t s b) (none_remarked t (records_of (sheet_of t)) b.bare) spelling;
          };
      returns = r;
    }

-- a way that refuses by no 0 and keeps each sheet keeps those that C gets
by_room : (way other : List ℕ → ℕ → Text) → ((s : List ℕ) (room : ℕ) → way s room ≡ refused 0 → ⊥)
    → ((s t : List ℕ) (room : ℕ) → way s room ≡ text t → Kept other s t) → KeptBy way other
by_room way other never each s room last c e l z =
    in_room {P = Kept other s} (way s (length room)) (never s (length room)) (λ t p. each s t (length room) p) room last c e l z

forward_never : (s : List ℕ) (room : ℕ) → forward s room ≡ refused 0 → ⊥
forward_never s room e = go (forward s room) (forward_exactly s room) e
  where
    go : (x : Text) → ForwardAnswer s room x → x ≡ refused 0 → ⊥
    go (refused k) (ForwardAnswer.own p z) h = let n : k ≡ 0 = cc in z n
    go (refused k) (ForwardAnswer.long p q) h = let n : ◌≡◌ {A = ℕ} 1 0 = cc in omega arith
    go (refused k) (ForwardAnswer.short p q r) h = let n : ◌≡◌ {A = ℕ} 14 0 = cc in omega arith
    go (text t) (ForwardAnswer.taken p q r n) h = let f : ◌≡◌ {A = ℕ} 0 1 = cc in omega arith

back_never : (s : List ℕ) (room : ℕ) → back s room ≡ refused 0 → ⊥
back_never s room e = go (back s room) (back_exactly s room) e
  where
    go : (x : Text) → BackAnswer s room x → x ≡ refused 0 → ⊥
    go (refused k) (BackAnswer.own p z) h = let n : k ≡ 0 = cc in z n
    go (refused k) (BackAnswer.remarked p q r) h = let n : ◌≡◌ {A = ℕ} 18 0 = cc in omega arith
    go (refused k) (BackAnswer.short p q r) h = let n : ◌≡◌ {A = ℕ} 14 0 = cc in omega arith
    go (text t) (BackAnswer.taken p q r n) h = let f : ◌≡◌ {A = ℕ} 0 1 = cc in omega arith

pub flat_forward : FlatForward
flat_forward = by_room forward back forward_never (λ s t room e. kept one two back s t (forward_turned s t room e) (λ again l. forward_then_back s t room again e l))

pub flat_back : FlatBack
flat_back = by_room back forward back_never (λ s t room e. kept two one forward s t (back_turned s t room e) (λ again l. back_then_forward s t room again e l))
