-- The laws of request 6: whatever one way takes, the other takes back.
use mathlib.Core.Bool.{Bool, true, false, cond}
use mathlib.Core.List.{List, [], ◌∷◌}
use mathlib.Core.Path.{◌≡◌, refl, sym, ap, ◌∙◌, subst}
use Prim.Native.Nat.{ℕ, ◌≤◌}
use native.Mathlib.Omega.{arith}
use borrow.Author.Tests.{ltb-false}
use lib.Dec.{ltb, leb}
use lib.ListN.{length}
use Rattle.octets.specs.Room.{refused, text, fitting}
use Rattle.octets.proofs.Told.{fits}
use Rattle.sheet_record.specs.declared.Record.{Record}
use Rattle.sheet.specs.Sheet.{Sheet, records, sheet_of, number_of, records_of}
use Rattle.sheet.proofs.Entries.{Entry, said_by, said}
use Rattle.sheet_version.specs.Version.{sheet_in}
use Rattle.sheet_version.proofs.Version.{in_same, in_version_lem, read_in_lem, in_read, most_read}
use Rattle.sheet_search.proofs.Pages.{with, page_of}
use Rattle.convert_records.specs.Records.{sheet_as, bare}
use Rattle.convert.specs.Convert.{forward_by, forward, back_by, back}
use Rattle.convert.specs.Laws.{ForwardThenBack, BackThenForward, SameRecords, none, more, Converted, ForwardConverts, BackConverts}
use Rattle.convert.proofs.Paired.{Version, one, two}
use Rattle.convert.proofs.Sheets.{same_page, to_number, to_bare, to_back}
use Rattle.convert.proofs.Texts.{one_bare, back_length, forward_fitting, back_fitting}

-- t is what an accepted sheet s of version v without a remark is in version w
pub record Turned (v w : ℕ) (s t : List ℕ) : Type 0 where
  pub accepted : number_of (sheet_in v s) ≡ 0
  pub bare : bare s (records_of (sheet_of s)) ≡ true
  pub is : sheet_as w s (records_of (sheet_of s)) ≡ t
  pub most : length t ≤ 65536

-- and then s is what t is in version v
pub turned_back : {v w : ℕ} → Version v → Version w → (s t : List ℕ) → Turned v w s t → Turned w v t s
turned_back {v} {w} k j s t h =
    let m : length (sheet_as w s (records_of (sheet_of s))) ≤ 65536 = subst (λ (x : List ℕ). length x ≤ 65536) (sym h.is) h.most in
    subst (λ (x : List ℕ). Turned w v x s) h.is
    (record {
      accepted = to_number k j s h.accepted h.bare m;
      bare = to_bare k j s h.accepted h.bare m;
      is = to_back k j s h.accepted h.bare m;
      most = most_read v s h.accepted;
    })

pub turned_page : {v w : ℕ} → Version v → Version w → (s t : List ℕ) → Turned v w s t → page_of s (sheet_of s) ≡ page_of t (sheet_of t)
turned_page {v} {w} k j s t h =
    let m : length (sheet_as w s (records_of (sheet_of s))) ≤ 65536 = subst (λ (x : List ℕ). length x ≤ 65536) (sym h.is) h.most in
    same_page k j s h.accepted h.bare m ∙ ap (λ (x : List ℕ). page_of x (sheet_of x)) h.is

-- the records of s
pub turned_read : {v w : ℕ} (s t : List ℕ) → Turned v w s t → sheet_of s ≡ records (records_of (sheet_of s))
turned_read {v} s t h = sym (in_same v s (in_version_lem v s h.accepted).0) ∙ read_in_lem v s h.accepted

-- a text is no refusal
never : {n : ℕ} {t : List ℕ} → refused n ≡ text t → ⊥
never e = let f : ◌≡◌ {A = ℕ} 0 1 = cc in omega arith

fitted : (room : ℕ) (x t : List ℕ) → fitting room x ≡ text t → x ≡ t
fitted room x t e = go (leb (length x) room) e
  where
    go : (b : Bool) → cond b (text x) (refused 14) ≡ text t → x ≡ t
    go true h = cc
    go false h = absurd (never h)

pub forward_turned : (s t : List ℕ) (room : ℕ) → forward s room ≡ text t → Turned 1 2 s t
unfolding forward
forward_turned s t room e = go (sheet_in 1 s) refl e
  where
    long : (rs : List Record) → sheet_in 1 s ≡ records rs → (b : Bool) → ltb 65536 (length (sheet_as 2 s rs)) ≡ b
        → cond b (refused 1) (fitting room (sheet_as 2 s rs)) ≡ text t → Turned 1 2 s t
    long rs p true l h = absurd (never h)
    long rs p false l h =
        let i = in_read 1 s p in
        let f : sheet_as 2 s rs ≡ t = fitted room (sheet_as 2 s rs) t h in
        record {
          accepted = i.0;
          bare = one_bare s i.0;
          is = ap (sheet_as 2 s) i.1 ∙ f;
          most = subst (λ (x : List ℕ). length x ≤ 65536) f (ltb-false 65536 (length (sheet_as 2 s rs)) l);
        }

    go : (x : Sheet) → sheet_in 1 s ≡ x → forward_by x s room ≡ text t → Turned 1 2 s t
    go (Sheet.refused n) p h = absurd (never h)
    go (records rs) p h = long rs p (ltb 65536 (length (sheet_as 2 s rs))) refl h

pub back_turned : (s t : List ℕ) (room : ℕ) → back s room ≡ text t → Turned 2 1 s t
unfolding back
back_turned s t room e = go (sheet_in 2 s) refl e
  where
    remarks : (rs : List Record) → sheet_in 2 s ≡ records rs → (b : Bool) → bare s rs ≡ b → cond b (fitting room (sheet_as 1 s rs)) (refused 18) ≡ text t → Turned 2 1 s t
    remarks rs p false l h = absurd (never h)
    remarks rs p true l h =
        let i = in_read 2 s p in
        let b : bare s (records_of (sheet_of s)) ≡ true = ap (bare s) i.1 ∙ l in
        let f : sheet_as 1 s (records_of (sheet_of s)) ≡ t = ap (sheet_as 1 s) i.1 ∙ fitted room (sheet_as 1 s rs) t h in
        record {
          accepted = i.0;
          bare = b;
          is = f;
          most = omega (arith, ap length f, back_length s i.0 b, most_read 2 s i.0);
        }

    go : (x : Sheet) → sheet_in 2 s ≡ x → back_by x s room ≡ text t → Turned 2 1 s t
    go (Sheet.refused n) p h = absurd (never h)
    go (records rs) p h = remarks rs p (bare s rs) refl h

pub forward_then_back : ForwardThenBack
forward_then_back s t room again e l =
    let h = turned_back one two s t (forward_turned s t room e) in
    back_fitting t again h.accepted h.bare ∙ ap (fitting again) h.is ∙ fits again s l

pub back_then_forward : BackThenForward
back_then_forward s t room again e l =
    let h = turned_back two one s t (back_turned s t room e) in
    forward_fitting t again (length s) h.accepted (ap length h.is) h.most ∙ ap (fitting again) h.is ∙ fits again s l

-- sheets that say the same have the same records
same_records : (s t : List ℕ) (rs qs : List Record) → said s rs ≡ said t qs → SameRecords s t rs qs
same_records s t [] [] e = none
same_records s t [] (q ∷ qs) e = let f : ◌≡◌ {A = ℕ} 0 1 = cc in absurd (omega arith)
same_records s t (r ∷ rs) [] e = let f : ◌≡◌ {A = ℕ} 0 1 = cc in absurd (omega arith)
same_records s t (r ∷ rs) (q ∷ qs) e =
    let h : said_by s r ≡ said_by t q = cc in
    let l : said s rs ≡ said t qs = cc in
    more (ap (λ (x : Entry). x.name) h) (ap (λ (x : Entry). x.kind) h) (ap (λ (x : Entry). x.first) h) (ap (λ (x : Entry). x.second) h) (same_records s t rs qs l)

converted : {v w : ℕ} → Version v → Version w → (s t : List ℕ) → Turned v w s t → Converted v w s t
converted {v} {w} k j s t h =
    let b = turned_back k j s t h in
    let e : with (said s (records_of (sheet_of s))) ≡ with (said t (records_of (sheet_of t))) =
    sym (ap (page_of s) (turned_read s t h)) ∙ turned_page k j s t h ∙ ap (page_of t) (turned_read t s b) in
    let f : said s (records_of (sheet_of s)) ≡ said t (records_of (sheet_of t)) = cc in
    record {
      from = records_of (sheet_of s);
      to = records_of (sheet_of t);
      read_from = read_in_lem v s h.accepted;
      read_to = read_in_lem w t b.accepted;
      same = same_records s t (records_of (sheet_of s)) (records_of (sheet_of t)) f;
    }

pub forward_converts : ForwardConverts
forward_converts s t room e = converted one two s t (forward_turned s t room e)

pub back_converts : BackConverts
back_converts s t room e = converted two one s t (back_turned s t room e)
