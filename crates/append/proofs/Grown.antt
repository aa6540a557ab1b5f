-- An add leaves an accepted sheet with the records that were there, and one more.
use mathlib.Core.Bool.{true, false}
use mathlib.Core.List.{List, [], ◌∷◌, ◌++◌, Memᴰ}
use mathlib.Core.Path.{◌≡◌, refl, sym, ap, ap₂, subst, ◌∙◌}
use Prim.Native.Nat.{ℕ, zero, suc, ◌+◌, ◌≤◌}
use native.Mathlib.Omega.{arith}
use lib.ListN.{length, take, drop}
use lib.Seq.{drop-drop, take-append_seam}
use Rattle.kind.specs.Kind.{kind_of, is_known}
use Rattle.octets.specs.Bytes.{number_at, bytes_of}
use Rattle.octets.specs.Room.{Text, refused, text}
use Rattle.name.specs.Name.{is_length, name_of}
use Rattle.name.proofs.Ranges.{inside, as_true}
use Rattle.name.proofs.OneSpelling.{name_valid}
use Rattle.sheet_record.specs.Layout.{Layout, layout_in}
use Rattle.sheet_record.specs.Front.{front, front_of, record_at, name_in, values_end}
use Rattle.sheet_record.specs.declared.Record.{Record}
use Rattle.sheet_record.proofs.Tails.{layout_two}
use Rattle.sheet_head.specs.Head.{head_fault}
use Rattle.sheet.specs.Sheet.{Sheet, records, sheet_of, number_of, records_of, seen, Accepted}
use Rattle.sheet.specs.Structure.{fault_from}
use Rattle.sheet.proofs.Accept.{read, fault, sheet_verdict, accepted_head, accepted_fault, accepted_apart, accepted_is}
use Rattle.sheet.proofs.Heads.{behind_head}
use Rattle.sheet.proofs.Walk.{records_from, twice, names, fresh}
use Rattle.sheet_version.specs.Version.{sheet_in}
use Rattle.sheet_version.proofs.Version.{in_same, in_version_lem, in_read, few_read, most_read}
use Rattle.sheet_search.proofs.Searching.{record_inside}
use Rattle.sheet_remark.specs.Remark.{remark_at, remark_in}
use Rattle.append_record.specs.Grown
use Rattle.append_record.specs.Grown.{new_record}
use Rattle.append_record.proofs.Lengths.{record_length}
use Rattle.append.specs.Add.{add_fault, unless_refused, add_to, add_by, added}
use Rattle.append.specs.Laws.{Kept, Grown, AddAppends}
use Rattle.append.proofs.Faults.{Free, free}
use Rattle.append.proofs.Record.{new_fields, new_front, body, body_length, record_is, first_here, second_here}
use Rattle.append.proofs.Behind.{behind_all, version, layout, count, head, grows}
use Rattle.append.proofs.Kept.{placed, kept, names_kept, seen_kept}

-- ---- what an add that gives a text went by
pub record Adding (s t spelling : List ℕ) (kind first second room : ℕ) : Type 0 where
  pub name : List ℕ
  pub reads : name_of spelling ≡ text name
  pub accepted : number_of (sheet_in 2 s) ≡ 0
  pub is : Grown.grown s (new_record name kind first second) ≡ t
  pub clear : Free (is_known (kind_of kind)) (seen s (records_of (sheet_of s)) name) (length t) room

never : {n : ℕ} {t : List ℕ} → refused n ≡ text t → ⊥
never e = let f : ◌≡◌ {A = ℕ} 0 1 = cc in omega arith

taken : (k : ℕ) (x t : List ℕ) → unless_refused k x ≡ text t → (k ≡ 0) × (x ≡ t)
taken zero x t e = (refl, cc)
taken (suc k) x t e = absurd (never e)

pub adding : (s t spelling : List ℕ) (kind first second room : ℕ) → added s spelling kind first second room ≡ text t → Adding s t spelling kind first second room
unfolding added
adding s t spelling kind first second room e = go (sheet_in 2 s) refl e
  where
    named : (rs : List Record) → sheet_in 2 s ≡ records rs → (x : Text) → name_of spelling ≡ x → add_to s rs x kind first second room ≡ text t
        → Adding s t spelling kind first second room
    named rs p (refused k) q h = absurd (never h)
    named rs p (text name) q h =
        let g : List ℕ = Grown.grown s (new_record name kind first second) in
        let i = in_read 2 s p in
        let k = taken (add_fault (is_known (kind_of kind)) (seen s rs name) (length g) room) g t h in
        let f = free (is_known (kind_of kind)) (seen s rs name) (length g) room k.0 in
        record {
          name = name;
          reads = q;
          accepted = i.0;
          is = k.1;
          clear =
              subst (λ (x : List ℕ). Free (is_known (kind_of kind)) (seen s (records_of (sheet_of s)) name) (length x) room) k.1
              (subst (λ (x : List Record). Free (is_known (kind_of kind)) (seen s x name) (length g) room) (sym i.1) f);
        }

    go : (x : Sheet) → sheet_in 2 s ≡ x → add_by x s (name_of spelling) kind first second room ≡ text t → Adding s t spelling kind first second room
    go (Sheet.refused n) p h = absurd (never h)
    go (records rs) p h = named rs p (name_of spelling) refl h

-- ---- the sheet that grew
-- a sheet whose records are read to its end, with names that are apart, is accepted
clear_sheet : (t : List ℕ) (rs : List Record) → head_fault t ≡ 0 → read t ≡ rs → fault t ≡ 0 → twice (names t rs) ≡ false → sheet_of t ≡ records rs
clear_sheet t rs h r f w = sheet_verdict t ∙ rw (h, f, r, w)

module _ (s name : List ℕ) (kind first second : ℕ) (accepted : number_of (sheet_in 2 s) ≡ 0)
    (named : 1 ≤ length name) (short : length name ≤ 40) (known : is_known (kind_of kind) ≡ true)
    (unseen : seen s (records_of (sheet_of s)) name ≡ false)
    (most : length (Grown.grown s (new_record name kind first second)) ≤ 65536) where
  abbrev r : List ℕ
  r = new_record name kind first second

  abbrev t : List ℕ
  t = Grown.grown s (new_record name kind first second)

  abbrev new : Record
  new = record_at (length s) (new_fields name kind first second)

  is_accepted : Accepted s
  is_accepted = (in_version_lem 2 s accepted).1

  least : 7 ≤ length s
  least = omega (arith, few_read 2 s accepted)

  reads_new : front_of (layout_in s) r ≡ front (new_fields name kind first second)
  reads_new = ap (λ (y : Layout). front_of y r) (layout_two s (in_version_lem 2 s accepted).0) ∙ new_front name kind first second named short known

  counted : number_at 2 t 5 ≡ suc (number_at 2 s 5)
  counted = count s (new_record name kind first second) least (omega (arith, few_read 2 s accepted, most_read 2 s accepted))

  grew : (records_from (layout_in s) t (suc (number_at 2 s 5)) 7 ≡ read s ++ (new ∷ [])) × (fault_from (layout_in s) t (suc (number_at 2 s 5)) 7 ≡ 0)
  grew =
      grows s r least (layout_in s) (new_fields name kind first second) reads_new (omega (arith, record_length name kind first second)) (number_at 2 s 5) 7 (omega arith) (accepted_fault s is_accepted)

  read_is : read t ≡ read s ++ (new ∷ [])
  read_is = ap₂ (λ (y : Layout) (n : ℕ). records_from y t n 7) (layout s (new_record name kind first second) least) counted ∙ grew.0

  fault_is : fault t ≡ 0
  fault_is = ap₂ (λ (y : Layout) (n : ℕ). fault_from y t n 7) (layout s (new_record name kind first second) least) counted ∙ grew.1

  -- each record that was there stands behind the header, and is kept
  each : (q : Record) → Memᴰ q (read s) → Kept s t q
  each q m =
      kept s r q least (placed (layout_in s) s (number_at 2 s 5) 7 q m) (record_inside s (read s) q (accepted_is s is_accepted) m)

  new_name : name_in t new ≡ name
  new_name =
      let rest : List ℕ = kind ∷ (bytes_of 8 first ++ (bytes_of 8 second ++ (0 ∷ []))) in
      ap (take (length name)) (sym (drop-drop 1 (length s) t) ∙ ap (drop 1) (behind_all s r least)) ∙ take-append_seam name rest

  apart : twice (names t (read s ++ (new ∷ []))) ≡ false
  apart =
      let n : (q : Record) → Memᴰ q (read s) → name_in t q ≡ name_in s q = λ q m. (each q m).name in
      fresh t (read s) new (ap twice (names_kept s t (read s) n) ∙ accepted_apart s is_accepted)
      (ap (seen t (read s)) new_name ∙ seen_kept s t (read s) name n ∙ sym (ap (λ (x : Sheet). seen s (records_of x) name) (accepted_is s is_accepted)) ∙ unseen)

  sheet_is : sheet_of t ≡ records (read s ++ (new ∷ []))
  sheet_is = clear_sheet t (read s ++ (new ∷ [])) (head s r least (accepted_head s is_accepted) most) read_is fault_is apart

  new_empty : (remark_in t new).len ≡ 0
  new_empty =
      let end : ℕ = values_end new in
      let e : end ≡ length s + (18 + length name + 0) = omega arith in
      let d : drop end t ≡ 0 ∷ [] =
      ap (λ (i : ℕ). drop i t) e
      ∙ sym (drop-drop (18 + length name + 0) (length s) t)
      ∙ ap (drop (18 + length name + 0)) (behind_all s r least ∙ record_is name kind first second)
      ∙ behind_head (layout_in s) (length name) (body name kind first second) (0 ∷ []) (body_length name kind first second) 0 in
      ap₂ (λ (y : Layout) (u : List ℕ). (remark_at end (y.tail u)).len) (layout s r least ∙ layout_two s (in_version_lem 2 s accepted).0) d

  pub grown_is : Grown s t name kind first second
  grown_is =
      record {
        old = read s;
        new = new;
        read_old = in_same 2 s (in_version_lem 2 s accepted).0 ∙ accepted_is s is_accepted;
        read_new = in_same 2 t (version s r least ∙ (in_version_lem 2 s accepted).0) ∙ sheet_is;
        kept = each;
        named = new_name;
        kind_is = refl;
        first_is = first_here name kind first second;
        second_is = second_here name kind first second;
        empty = new_empty;
      }

pub add_appends : AddAppends
add_appends s t spelling kind first second room e =
    let a = adding s t spelling kind first second room e in
    let v = inside 1 40 (length a.name) (as_true (is_length (length a.name)) (name_valid spelling a.name a.reads).1) in
    record {
      name = a.name;
      reads = a.reads;
      grown =
          subst (λ (x : List ℕ). Grown s x a.name kind first second) a.is
          (grown_is s a.name kind first second a.accepted v.0 v.1 a.clear.known a.clear.new
          (subst (λ (x : List ℕ). length x ≤ 65536) (sym a.is) a.clear.most));
    }
