-- What a search finds and holds follows from the sheet's page: the places of its records do not matter.
use Rattle.std.specs.Prelude.{Ok, Err}
use mathlib.Core.List.{List}
use mathlib.Core.Path.{◌≡◌, refl, sym, ap, subst, ◌∙◌}
use Prim.Native.Nat.{ℕ}
use Rattle.octets.specs.Room.{Text, text, refused}
use Rattle.name.specs.Name.{name_of}
use Rattle.sheet_record.specs.declared.Record.{Record}
use Rattle.sheet_search.specs.Find.{Lookup, handed_back}
use Rattle.sheet.specs.Sheet.{Sheet, records, sheet_of}
use Rattle.sheet_search.proofs.Pages.{Page, without, with, page_of, Reply, missed, found, reply_of, find_on, find_page, reply_name, name_reply}
use Rattle.air.specs.declared.Answer.{Answer}
use Rattle.air.specs.Held.{Held, held, refuses}
use Rattle.air.specs.Choices.{Choices}
use Rattle.state.specs.State.{IsAnswer, answer_by}
use Rattle.calculator.specs.Search.{locate_name, locate_in, locate, AnswerAt, IsSearch, answer_at, search_by}

abbrev locate_on : Text → Page → Reply
locate_on t (without k) = missed k
locate_on (refused k) (with es) = missed k
locate_on (text name) (with es) = find_on (with es) name

locate_page : (s spelling : List ℕ) → reply_of s (locate s spelling) ≡ locate_on (name_of spelling) (page_of s (sheet_of s))
unfolding locate
locate_page s spelling = go (sheet_of s)
  where
    named : (rs : List Record) (t : Text) → reply_of s (locate_name s rs t) ≡ locate_on t (page_of s (records rs))
    named rs (refused k) = refl
    named rs (text name) = find_page s name (records rs)

    go : (t : Sheet) → reply_of s (locate_in s spelling t) ≡ locate_on (name_of spelling) (page_of s t)
    go (Sheet.refused k) = refl
    go (records rs) = named rs (name_of spelling)

abbrev reply_held : Choices → Reply → Held
reply_held c (missed k) = refuses k
reply_held c (found e) = answer_by c e.kind e.first e.second

held_reply : (c : Choices) (s : List ℕ) (l : Lookup) → answer_at c l ≡ reply_held c (reply_of s l)
held_reply c s (Err k) = refl
held_reply c s (Ok r) = refl

-- the answers that a reply allows
abbrev ReplyAllows : Reply → Answer → Type 0
ReplyAllows (missed k) a = held a ≡ refuses k
ReplyAllows (found e) a = IsAnswer e.kind e.first e.second a

reply_allows : (s : List ℕ) (l : Lookup) (a : Answer) → AnswerAt l a → ReplyAllows (reply_of s l) a
reply_allows s (Err k) a h = h
reply_allows s (Ok r) a h = h

allows_reply : (s : List ℕ) (l : Lookup) (a : Answer) → ReplyAllows (reply_of s l) a → AnswerAt l a
allows_reply s (Err k) a h = h
allows_reply s (Ok r) a h = h

module _ (s t spelling : List ℕ) (e : page_of s (sheet_of s) ≡ page_of t (sheet_of t)) where
  pub same_reply : reply_of s (locate s spelling) ≡ reply_of t (locate t spelling)
  same_reply = locate_page s spelling ∙ ap (locate_on (name_of spelling)) e ∙ sym (locate_page t spelling)

  -- two sheets with one page: a search finds the same name, whatever the choices holds the same, and allows the same
  pub same_name : handed_back s (locate s spelling) ≡ handed_back t (locate t spelling)
  same_name = name_reply s (locate s spelling) ∙ ap reply_name same_reply ∙ sym (name_reply t (locate t spelling))

  pub same_search : (c : Choices) → search_by c s spelling ≡ search_by c t spelling
  unfolding search_by
  same_search c = held_reply c s (locate s spelling) ∙ ap (reply_held c) same_reply ∙ sym (held_reply c t (locate t spelling))

  pub same_allowed : (a : Answer) → IsSearch s spelling a → IsSearch t spelling a
  unfolding IsSearch
  same_allowed a h = allows_reply t (locate t spelling) a (subst (λ (r : Reply). ReplyAllows r a) same_reply (reply_allows s (locate s spelling) a h))
