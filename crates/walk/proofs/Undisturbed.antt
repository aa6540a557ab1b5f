-- An add leaves the records in front as they are, so a walk that counted them gives the same lines.
use mathlib.Core.Bool.{Bool, true, false, cond}
use mathlib.Core.List.Memᴰ
use mathlib.Core.List.{List, [], ◌∷◌, ◌++◌, append-nil, append_assoc, Memᴰ}
use mathlib.Core.Path.{◌≡◌, refl, sym, ap, ap₂, subst, ◌∙◌}
use Prim.Native.Nat.{ℕ, zero, suc, ◌<◌}
use native.Mathlib.Omega.{arith}
use borrow.Author.Tests.{ltb-true}
use lib.Dec.{ltb}
use lib.ListN.{length}
use Rattle.octets.specs.Room
use Rattle.octets.specs.Room.{Text, text, fitting}
use Rattle.name.specs.Spelling.{spelled}
use Rattle.air.specs.Choices.{Choices}
use Rattle.state.specs.State.{answer_by}
use Rattle.sheet_record.specs.declared.Record.{Record}
use Rattle.sheet_record.specs.Front.{name_in}
use Rattle.sheet.specs.Sheet.{Sheet, records, sheet_of, records_of}
use Rattle.sheet.proofs.Counted.{accepted_records}
use Rattle.sheet_version.proofs.Version.{read_of}
use Rattle.sheet_walk.specs.Records.{record_in}
use Rattle.append.specs.Add.{added, sheet_after}
use Rattle.append.specs.Laws.{Appended}
use Rattle.append.proofs.Grown.{add_appends}
use Rattle.line.specs.Line.{line_of}
use Rattle.walk.specs.Walk.{begun_by, line_of_record, line_at, step_by, stepped, walk_after}
use Rattle.walk.specs.Laws.{Act, step, add, printed, no_adds, WalkUndisturbed}
use Rattle.walk.specs.declared.Walk.{Walk}

-- t has the records rs of s in front, under their names
pub record Front (s : List ℕ) (rs : List Record) (t : List ℕ) : Type 0 where
  pub more : List Record
  pub is : sheet_of t ≡ records (rs ++ more)
  pub names : (r : Record) → Memᴰ r rs → name_in t r ≡ name_in s r

-- a sheet with records has them in front
pub front_self : (s : List ℕ) (rs : List Record) → sheet_of s ≡ records rs → Front s rs s
front_self s rs e = record { more = []; is = e ∙ ap records (sym (append-nil rs)); names = λ r m. refl }

pub with_records : (rs qs : List Record) → records rs ≡ records qs → rs ≡ qs
with_records rs qs e = cc

-- an add to it leaves them there
pub front_grown : (s t u spelling : List ℕ) (rs : List Record) (kind first second : ℕ) → Front s rs t → Appended t u spelling kind first second → Front s rs u
front_grown s t u spelling rs kind first second f a =
    let g = a.grown in
    let e : rs ++ f.more ≡ g.old = with_records (rs ++ f.more) g.old (sym f.is ∙ read_of 2 t g.read_old) in
    record {
      more = f.more ++ (g.new ∷ []);
      is =
          read_of 2 u g.read_new
          ∙ ap (λ (qs : List Record). records (qs ++ (g.new ∷ []))) (sym e)
          ∙ ap records (append_assoc rs f.more (g.new ∷ []));
      names = λ r m. (g.kept r (subst (Memᴰ r) e (Memᴰ.append_left f.more m))).name ∙ f.names r m;
    }

module _ (c : Choices) (s : List ℕ) where
  -- a record in front has the same line
  pub line_kept : (t : List ℕ) (r : Record) → name_in t r ≡ name_in s r → line_of_record c t r ≡ line_of_record c s r
  line_kept t r e = ap (λ (n : List ℕ). line_of (spelled n) (answer_by c r.kind r.first r.second)) e

  line_front : (t : List ℕ) (rs more : List Record) (i : ℕ) → i < length rs → ((r : Record) → Memᴰ r rs → name_in t r ≡ name_in s r)
      → line_at c t (record_in (rs ++ more) i) ≡ line_at c s (record_in rs i)
  unfolding record_in
  line_front t [] more i h k = absurd (omega arith)
  line_front t (r ∷ rs) more zero h k = line_kept t r (k r (Memᴰ.head refl))
  line_front t (r ∷ rs) more (suc i) h k = line_front t rs more i (omega arith) (λ q m. k q (Memᴰ.tail m))

  module _ (rs : List Record) (reads : sheet_of s ≡ records rs) where
    -- so that a walk which counted them takes the same step
    pub same_step : (t : List ℕ) → Front s rs t → (w : Walk) → w.count ≡ length rs → (room : ℕ) → stepped c t w room ≡ stepped c s w room
    unfolding stepped
    same_step t f w e room =
        ap (λ (x : Sheet). step_by c x t w room) f.is ∙ go (ltb w.given w.count) refl ∙ sym (ap (λ (x : Sheet). step_by c x s w room) reads)
      where
        go : (b : Bool) → ltb w.given w.count ≡ b
            → fitting room (cond b (line_at c t (record_in (rs ++ f.more) w.given)) []) ≡ fitting room (cond b (line_at c s (record_in rs w.given)) [])
        go false p = refl
        go true p = ap (fitting room) (line_front t rs f.more w.given (omega (arith, ltb-true w.given w.count p)) f.names)

    pub front_after : (t : List ℕ) → Front s rs t → (spelling : List ℕ) (kind first second room : ℕ) (a : Text) → added t spelling kind first second room ≡ a
        → Front s rs (sheet_after t a)
    front_after t f spelling kind first second room (Room.refused k) e = f
    front_after t f spelling kind first second room (text u) e = front_grown s t u spelling rs kind first second f (add_appends t u spelling kind first second room e)

    pub counted : (w : Walk) (x : Text) → (walk_after w x).count ≡ w.count
    counted w (Room.refused k) = refl
    counted w (text []) = refl
    counted w (text (b ∷ t)) = refl

    same : (acts : List Act) (t : List ℕ) → Front s rs t → (w : Walk) → w.count ≡ length rs → printed c t w acts ≡ printed c s w (no_adds acts)
    unfolding printed
    same [] t f w e = refl
    same (step room ∷ acts) t f w e =
        let p = same_step t f w e room in
        let x : Text = stepped c s w room in
        ap₂ (λ (a : Text) (l : List Text). a ∷ l) p
        (ap (λ (a : Text). printed c t (walk_after w a) acts) p ∙ same acts t f (walk_after w x) (counted w x ∙ e))
    same (add spelling kind first second room ∷ acts) t f w e =
        same acts (sheet_after t (added t spelling kind first second room)) (front_after t f spelling kind first second room (added t spelling kind first second room) refl) w e

pub walk_undisturbed : WalkUndisturbed
walk_undisturbed c s acts a =
    let rs : List Record = records_of (sheet_of s) in
    let e : sheet_of s ≡ records rs = accepted_records s a in
    same c s rs e acts s (front_self s rs e) (begun_by (sheet_of s)).walk (ap (λ (x : Sheet). (begun_by x).walk.count) e)
