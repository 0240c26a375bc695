-- If-Range by a date.
-- Assumes nothing.
use Prim.Native.Nat.{ℕ, ◌≤◌}
use mathlib.Core.Path.{◌≡◌, refl, sym, ap, ◌∙◌}
use mathlib.Core.Logic.{◌⊎◌, ◌↔◌, inl, inr}
use mathlib.Core.Bool.{Bool, true, false, not, ◌||◌, false≢true, or-true}
use mathlib.Core.List.{List}
use Rattle.std.specs.Prelude.{Option, None, Some}
use lib.IntN.{pos}
use borrow.Author.Tests.{not-false}
use Rattle.rules_server.specs.Limits.{max_time}
use Rattle.rules_server.specs.Octets.{same, trim}
use Rattle.rules_server.specs.Tags.{is_strong, is_tag, matches_tag}
use Rattle.rules_server.specs.Calendar.{is_valid, second_of, date_of}
use Rattle.rules_server.specs.Dates.{read_date, read_of, date_read}
use Rattle.rules_server.specs.Status.{LastModified, Resource, names, matches_modified, matches, failing}
use Rattle.rules_server.specs.declared.Date.{Date}
use Rattle.rules_demands.specs.GrammarDate.{DateText}
use Rattle.rules_demands.specs.DateMatching.{NamesModified, DatesMatch}
use Rattle.laws_dates.proofs.texts.Tests.{and_left, and_right, or_cases, same_equal, same_itself, time_equal, time_itself}
use Rattle.laws_dates.proofs.texts.Grammar.{date_grammar}

-- a strong tag that matches is the file's
tag-matches : (v t : List ℕ) → matches_tag v t ≡ true → (is_strong v ≡ true) × (v ≡ t)
unfolding matches_tag
tag-matches v t h = (and_left (is_strong v) (same v t) h, same_equal v t (and_right (is_strong v) (same v t) h))

-- and the file's strong tag matches
matches_tag_lem : (v t : List ℕ) → is_strong v ≡ true → v ≡ t → matches_tag v t ≡ true
unfolding matches_tag
matches_tag_lem v t s e = rw (s, ← e) (same_itself v)

module _ (f : Resource) (t : ℕ) (reference : f.reference ≡ pos t) (h : t ≤ max_time) (v : List ℕ) where
  -- what matches the Last-Modified is the text of a date that names its second
  modified_matches : matches_modified v f.modified f.reference ≡ true → NamesModified f t v
  unfolding date_read
  modified_matches e = given f.modified refl (rw reference at e)
    where
      read : (m : LastModified) → f.modified ≡ Some m → m.strong ≡ true → (o : Option Date) → read_date (pos t) v ≡ o
          → names (read_of o) m.time ≡ true → NamesModified f t v
      read m g s None r e = absurd (false≢true e)
      read m g s (Some d) r e =
          let x = (date_grammar.exactly t h v d).0 r in
          record {
            modified = m;
            given = g;
            strong = s;
            date = d;
            valid = x.0;
            text = x.1;
            names = time_equal (second_of d) m.time e;
          }

      given : (o : Option LastModified) → f.modified ≡ o → matches_modified v o (pos t) ≡ true → NamesModified f t v
      given None g e = absurd (false≢true e)
      given (Some m) g e = read m g (and_left m.strong _ e) (read_date (pos t) v) refl (and_right m.strong _ e)

  -- and such a text matches it
  matches_modified_lem : NamesModified f t v → matches_modified v f.modified f.reference ≡ true
  unfolding date_read
  matches_modified_lem n =
      let r : read_date (pos t) v ≡ Some n.date = (date_grammar.exactly t h v n.date).1 (n.valid, n.text) in
      rw (n.given, reference, n.strong, r, n.names) (time_itself n.modified.time)

  -- a value that matches does so by its tag or by its date
  by_either : matches v f ≡ true → ((is_strong v ≡ true) × (v ≡ f.tag)) ⊎ NamesModified f t v
  unfolding matches
  by_either e = go (or_cases (matches_tag v f.tag) (matches_modified v f.modified f.reference) e)
    where
      go : (matches_tag v f.tag ≡ true) ⊎ (matches_modified v f.modified f.reference ≡ true)
          → ((is_strong v ≡ true) × (v ≡ f.tag)) ⊎ NamesModified f t v
      go (inl e) = inl (tag-matches v f.tag e)
      go (inr e) = inr (modified_matches e)

  -- and by either it matches
  either_matches : ((is_strong v ≡ true) × (v ≡ f.tag)) ⊎ NamesModified f t v → matches v f ≡ true
  unfolding matches
  either_matches (inl x) = rw (matches_tag_lem v f.tag x.0 x.1)
  either_matches (inr n) = rw (matches_modified_lem n) (or-true (matches_tag v f.tag))

-- a text of a date is no strong tag
no_strong : (r d : Date) (v : List ℕ) → DateText r d v → is_strong v ≡ true → ⊥
unfolding is_tag
no_strong r d v x e = false≢true (sym (or_first (is_strong v) _ (date_grammar.no_tag r d v x)) ∙ e)
  where
    or_first : (a b : Bool) → (a || b) ≡ false → a ≡ false
    or_first true b e = e
    or_first false b e = refl

-- a test that never fails passes
never_false : (b : Bool) → (b ≡ false → ⊥) → b ≡ true
never_false true n = refl
never_false false n = absurd (n refl)

module _ (v : List ℕ) (f : Resource) (t : ℕ) (reference : f.reference ≡ pos t) (h : t ≤ max_time) where
  exact : (failing (Some v) f ≡ false) ↔ (((is_strong (trim v) ≡ true) × (trim v ≡ f.tag)) ⊎ NamesModified f t (trim v))
  unfolding failing
  exact = (λ e. by_either f t reference h (trim v) (not-false (matches (trim v) f) e), λ x. ap not (either_matches f t reference h (trim v) x))

  -- a date that matches names the second of Last-Modified, which is strong
  strong_second : (d : Date) (m : LastModified) → is_valid d ≡ true → DateText (date_of t) d (trim v) → f.modified ≡ Some m
      → ((is_strong (trim v) ≡ true) × (trim v ≡ f.tag)) ⊎ NamesModified f t (trim v) → (m.strong ≡ true) × (second_of d ≡ m.time)
  strong_second d m valid text given (inl x) = absurd (no_strong (date_of t) d (trim v) text x.0)
  strong_second d m valid text given (inr n) =
      let same-one : n.modified ≡ m = value_is n.modified m (sym n.given ∙ given) in
      let same-date : n.date ≡ d = date_grammar.unique t h (trim v) n.date d n.valid valid n.text text in (
        ap (λ (l : LastModified). l.strong) (sym same-one) ∙ n.strong,
        ap second_of (sym same-date) ∙ n.names ∙ ap (λ (l : LastModified). l.time) same-one,
      )
    where
      value_is : (a b : LastModified) → Some a ≡ Some b → a ≡ b
      value_is a b e = cc

  -- without a Last-Modified no date matches
  none-given : (d : Date) → DateText (date_of t) d (trim v) → f.modified ≡ None
      → ((is_strong (trim v) ≡ true) × (trim v ≡ f.tag)) ⊎ NamesModified f t (trim v) → ⊥
  none-given d text g (inl x) = no_strong (date_of t) d (trim v) text x.0
  none-given d text g (inr n) = clash n.modified (sym g ∙ n.given)
    where
      clash : (m : LastModified) → None ≡ Some m → ⊥
      clash m e = let z : false ≡ true = cc in false≢true z

  -- nor what is neither a date nor the file's tag
  no_date : ((d : Date) → is_valid d ≡ true → DateText (date_of t) d (trim v) → ⊥) → (trim v ≡ f.tag → ⊥)
      → ((is_strong (trim v) ≡ true) × (trim v ≡ f.tag)) ⊎ NamesModified f t (trim v) → ⊥
  no_date n other (inl x) = other x.1
  no_date n other (inr m) = n m.date m.valid m.text

pub dates_match : DatesMatch
dates_match v f t reference h =
    let x = exact v f t reference h in
    record {
      exactly = x;
      dated = λ d m valid text given. (
        λ e. strong_second v f t reference h d m valid text given (x.0 e),
        λ p. x.1 (inr (record { modified = m; given = given; strong = p.0; date = d; valid = valid; text = text; names = p.1 })),
      );
      absent = λ d text g. never_false (failing (Some v) f) (λ e. none-given v f t reference h d text g (x.0 e));
      invalid = λ n other. never_false (failing (Some v) f) (λ e. no_date v f t reference h n other (x.0 e));
    }
