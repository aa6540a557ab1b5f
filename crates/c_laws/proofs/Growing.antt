-- Request 7 over what C gets.
use Rattle.std.specs.Prelude.{Ok, Err}
use mathlib.Core.Bool.{Bool, true, false, cond}
use mathlib.Core.List.Memᴰ
use mathlib.Core.List.{List, [], ◌∷◌, ◌++◌, Memᴰ}
use mathlib.Core.Path.{◌≡◌, refl, sym, ap, ap₂, subst, ◌∙◌}
use Prim.Native.Nat.{ℕ, ◌^◌, ◌<◌}
use borrow.Author.Tests.{ne_eqb}
use lib.ListN.{length}
use Rattle.octets.specs.Bytes.{part, same}
use Rattle.octets.specs.Room
use Rattle.octets.specs.Room.{Text, text, written, outcome_of}
use Rattle.name.specs.Name.{name_of}
use Rattle.air.specs.Choices.{chosen}
use Rattle.state.specs.State.{answer_by}
use Rattle.sheet_name.proofs.Same.{same_equal}
use Rattle.sheet_record.specs.declared.Record.{Record}
use Rattle.sheet_record.specs.Front.{name_in}
use Rattle.sheet.specs.Sheet.{Sheet, records, sheet_of, number_of, records_of}
use Rattle.sheet.proofs.Counted.{accepted_records}
use Rattle.sheet_version.proofs.Version.{read_of}
use Rattle.sheet_search.specs.Find.{Lookup, find_in}
use Rattle.sheet_search.proofs.Searching.{Finding, hit, finding}
use Rattle.sheet_remark.specs.Remark.{remark_in, remark_of, remark_bytes}
use Rattle.sheet_remark.specs.declared.Part.{Part}
use Rattle.append.specs.Add.{added, sheet_after}
use Rattle.append.specs.Laws.{Grown}
use Rattle.append.proofs.Faults.{added_never}
use Rattle.append.proofs.Grown.{add_appends}
use Rattle.calculator.specs.Search.{locate_in, locate_name, locate, answer_at, search_by}
use Rattle.calculator.proofs.Demand3.{locates}
use Rattle.line.specs.Line.{line, line_of, shown_name}
use Rattle.walk.specs.Walk.{begun_by, stepped, step_of, walk_after}
use Rattle.walk.specs.declared.Walk.{Walk}
use Rattle.walk.proofs.Undisturbed.{Front, front_self, same_step, front_after, counted}
use Rattle.flat_parts.specs.Flat.{flat_found, flat_remark, flat_text}
use Rattle.c_laws.specs.Growing.{SameSearch, NewSearch, Joined, FlatAdd, Call, next, add, sheet_on, Got, gets, only_next, FlatUndisturbed, WalkLine}
use Rattle.c_laws.proofs.Rooms.{told_text, in_room}

-- ---- searches of a sheet that grew
module _ (s t name : List ℕ) (kind first second : ℕ) (g : Grown s t name kind first second) where
  -- a name that is not the new one is found where it was
  find_kept : (rs : List Record) → ((r : Record) → Memᴰ r rs → name_in t r ≡ name_in s r) → (q : List ℕ) → same (name_in t g.new) q ≡ false
      → find_in t (rs ++ (g.new ∷ [])) q ≡ find_in s rs q
  unfolding find_in
  find_kept [] k q e = rw e
  find_kept (r ∷ rs) k q e =
      ap₂ (λ (x : List ℕ) (l : Lookup). cond (same x q) (Ok r) l) (k r (Memᴰ.head refl)) (find_kept rs (λ p m. k p (Memᴰ.tail m)) q e)

  -- and so is its remark
  remark_kept : (l : Lookup) (q : List ℕ) → Finding s g.old q l
      → (remark_of t l ≡ remark_of s l) × (remark_bytes t (remark_of t l) ≡ remark_bytes s (remark_of s l))
  remark_kept (Err n) q f = (refl, refl)
  remark_kept (Ok r) q (hit m e) =
      let k = g.kept r m in
      (ap Ok k.remark, ap (λ (p : Part). part t p.start p.len) k.remark ∙ k.bytes)

  Alike : Lookup → Lookup → Type 0
  Alike a b = (a ≡ b) × (remark_of t a ≡ remark_of s b) × (remark_bytes t (remark_of t a) ≡ remark_bytes s (remark_of s b))

  other_name : (q : List ℕ) → (q ≡ name → ⊥) → Alike (find_in t (g.old ++ (g.new ∷ [])) q) (find_in s g.old q)
  unfolding Alike
  other_name q z =
      let e = find_kept g.old (λ r m. (g.kept r m).name) q (apart (same (name_in t g.new) q) refl) in
      let k = remark_kept (find_in s g.old q) q (finding s g.old q) in
      (e, ap (remark_of t) e ∙ k.0, ap (λ (l : Lookup). remark_bytes t (remark_of t l)) e ∙ k.1)
    where
      apart : (b : Bool) → same (name_in t g.new) q ≡ b → same (name_in t g.new) q ≡ false
      apart true p = absurd (z (sym (same_equal (name_in t g.new) q p) ∙ g.named))
      apart false p = p

  other_search : (x : Text) → (x ≡ text name → ⊥) → Alike (locate_name t (g.old ++ (g.new ∷ [])) x) (locate_name s g.old x)
  unfolding Alike
  other_search (Room.refused k) z = (refl, refl, refl)
  other_search (text q) z = other_name q (λ e. z (ap text e))

  located : (other : List ℕ) → (name_of other ≡ text name → ⊥) → Alike (locate t other) (locate s other)
  unfolding locate
  located other z =
      subst (λ (x : Sheet). Alike (locate_in t other x) (locate_in s other (sheet_of s))) (sym (read_of 2 t g.read_new))
      (subst (λ (x : Sheet). Alike (locate_name t (g.old ++ (g.new ∷ [])) (name_of other)) (locate_in s other x)) (sym (read_of 2 s g.read_old))
      (other_search (name_of other) z))

  same_search : (other : List ℕ) → (name_of other ≡ text name → ⊥) → SameSearch s t other
  unfolding Alike search_by
  same_search other z =
      let a = located other z in
      record {
        find = ap flat_found a.0;
        remark = ap flat_remark a.1;
        bytes = a.2;
        search = λ c. ap (answer_at c) a.0;
      }

  new_search : (other : List ℕ) → name_of other ≡ text name → first < 2 ^ 64 → second < 2 ^ 64 → NewSearch t name other kind first second
  unfolding flat_found search_by
  new_search other e f64 s64 =
      let all : List Record = g.old ++ (g.new ∷ []) in
      let l : locate t other ≡ Ok g.new =
      locates t all g.new other (read_of 2 t g.read_new) (Memᴰ.append_right g.old (Memᴰ.head refl)) (e ∙ ap text (sym g.named)) in
      record {
        found = ap (λ (x : Lookup). (flat_found x).number) l;
        kind_is = ap (λ (x : Lookup). (flat_found x).kind) l ∙ g.kind_is;
        first_is = ap (λ (x : Lookup). (flat_found x).first) l ∙ g.first_is f64;
        second_is = ap (λ (x : Lookup). (flat_found x).second) l ∙ g.second_is s64;
        name_is = ap (λ (x : Lookup). part t (flat_found x).start (flat_found x).length) l ∙ g.named;
        remark = ap (λ (x : Lookup). remark_bytes t (remark_of t x)) l ∙ ap (part t (remark_in t g.new).start) g.empty;
        search = λ c.
            ap (answer_at c) l
            ∙ ap (λ (k : ℕ). answer_by c k g.new.first g.new.second) g.kind_is
            ∙ ap₂ (answer_by c kind) (g.first_is f64) (g.second_is s64);
      }

pub flat_add : FlatAdd
flat_add s spelling room last kind first second c f64 s64 e l z =
    in_room {P = λ t. Joined s t spelling kind first second} (added s spelling kind first second (length room)) (added_never s spelling kind first second (length room))
    (λ t p.
    let a = add_appends s t spelling kind first second (length room) p in
    record {
      appended = a;
      accepted = ap number_of (read_of 2 t a.grown.read_new);
      old = λ other n. same_search s t a.name kind first second a.grown other (λ h. n (h ∙ sym a.reads));
      new = λ other n. new_search s t a.name kind first second a.grown other (n ∙ a.reads) f64 s64;
    })
    room last c e l z

-- ---- a walk between adds
-- the sheet that a host keeps is the one that an add leaves
kept_sheet : (s room : List ℕ) (x : Text) → (x ≡ Room.refused 0 → ⊥) → sheet_on s (flat_text (outcome_of x)) (written x room) ≡ sheet_after s x
unfolding flat_text
kept_sheet s room (Room.refused k) z =
    let n : k ≡ 0 → ⊥ = λ e. z (ap Room.refused e) in
    rw (ne_eqb k 0 n)
kept_sheet s room (text t) z = told_text t room (written (text t) room) (flat_text (outcome_of (text t))) refl refl

step_walk : (w : Walk) (x : Text) → (step_of w x).walk ≡ walk_after w x
step_walk w (Room.refused k) = refl
step_walk w (text t) = refl

module _ (s : List ℕ) (rs : List Record) (reads : sheet_of s ≡ records rs) where
  same_gets : (calls : List Call) (t : List ℕ) → Front s rs t → (w : Walk) → w.count ≡ length rs → gets t w calls ≡ gets s w (only_next calls)
  unfolding gets
  same_gets [] t f w e = refl
  same_gets (next room ∷ calls) t f w e =
      let x : Text = stepped chosen s w (length room) in
      let p : stepped chosen t w (length room) ≡ x = same_step chosen s rs reads t f w e (length room) in
      ap (λ (a : Text). record { told = step_of w a; room = written a room } ∷ gets t (step_of w a).walk calls) p
      ∙ ap (λ (l : List Got). record { told = step_of w x; room = written x room } ∷ l)
      (same_gets calls t f (step_of w x).walk (ap (λ (v : Walk). v.count) (step_walk w x) ∙ counted chosen s rs reads w x ∙ e))
  same_gets (add spelling kind first second room ∷ calls) t f w e =
      let x : Text = added t spelling kind first second (length room) in
      ap (λ (u : List ℕ). gets u w calls) (kept_sheet t room x (added_never t spelling kind first second (length room)))
      ∙ same_gets calls (sheet_after t x) (front_after chosen s rs reads t f spelling kind first second (length room) x refl) w e

pub flat_undisturbed : FlatUndisturbed
flat_undisturbed s calls a =
    let rs : List Record = records_of (sheet_of s) in
    let e : sheet_of s ≡ records rs = accepted_records s a in
    same_gets s rs e calls s (front_self s rs e) (begun_by (sheet_of s)).walk (ap (λ (x : Sheet). (begun_by x).walk.count) e)

-- ---- the line that a walk gives
pub walk_line : WalkLine
unfolding line search_by
walk_line c s rs r spelling e m n =
    ap (λ (x : Text). line_of (shown_name x) (answer_by c r.kind r.first r.second)) (sym n)
    ∙ sym (ap (λ (l : Lookup). line_of (shown_name (name_of spelling)) (answer_at c l)) (locates s rs r spelling e m n))
