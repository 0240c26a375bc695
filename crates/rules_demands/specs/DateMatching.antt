-- If-Range by a date: "A strong date that names exactly the same second matches; earlier or later does not; an invalid date .. does not".
use Rattle.std.specs.Prelude.{ℕ, ◌≤◌, ◌≡◌, ◌↔◌, ◌⊎◌, true, false, List, pos}
use Rattle.std.specs.Prelude.{None, Some}
use Rattle.rules_server.specs.Limits.{max_time}
use Rattle.rules_server.specs.Octets.{trim}
use Rattle.rules_server.specs.Tags.{is_strong}
use Rattle.rules_server.specs.Calendar.{is_valid, second_of, date_of}
use Rattle.rules_server.specs.Status.{LastModified, Resource, failing}
use Rattle.rules_server.specs.declared.Date.{Date}
use Rattle.rules_demands.specs.GrammarDate.{DateText}

-- Last-Modified is given and strong, and v is the text of a date that names its second; t is the reference time
pub record NamesModified (f : Resource) (t : ℕ) (v : List ℕ) : Type 0 where
  pub modified : LastModified
  pub given : f.modified ≡ Some modified
  pub strong : modified.strong ≡ true
  pub date : Date
  pub valid : is_valid date ≡ true
  pub text : DateText (date_of t) date v
  pub names : second_of date ≡ modified.time

-- of an If-Range v for the resource f
pub record Matching (v : List ℕ) (f : Resource) (t : ℕ) : Type 0 where
  -- it matches exactly when its trimmed value is the file's strong tag or such a date
  pub exactly : (failing (Some v) f ≡ false) ↔ (((is_strong (trim v) ≡ true) × (trim v ≡ f.tag)) ⊎ NamesModified f t (trim v))
  -- a date matches exactly when Last-Modified is strong and the date names its second: a weak one never, nor does an earlier or a later second
  pub dated : (d : Date) (m : LastModified) → is_valid d ≡ true → DateText (date_of t) d (trim v) → f.modified ≡ Some m
      → (failing (Some v) f ≡ false) ↔ ((m.strong ≡ true) × (second_of d ≡ m.time))
  pub absent : (d : Date) → DateText (date_of t) d (trim v) → f.modified ≡ None → failing (Some v) f ≡ true
  -- what is neither a date that there is nor the file's tag never matches
  pub invalid : ((d : Date) → is_valid d ≡ true → DateText (date_of t) d (trim v) → ⊥) → (trim v ≡ f.tag → ⊥) → failing (Some v) f ≡ true

abbrev pub DatesMatch : Type 0
DatesMatch = (v : List ℕ) (f : Resource) (t : ℕ) → f.reference ≡ pos t → t ≤ max_time → Matching v f t
