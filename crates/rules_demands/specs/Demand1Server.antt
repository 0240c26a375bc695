-- Demand 1, the server's half: every input gets an answer or a refusal by its number in document 01 or request 2026-01, each number exactly when the first row
-- of the table that holds carries it, and a refusal writes nothing.
use Rattle.std.specs.Prelude.{ℕ, ◌≤◌, ◌≡◌, ◌↔◌, Bool, List, [], ◌∷◌, length, take, drop}
use Rattle.std.specs.Prelude.{Err}
use Rattle.rules_server.specs.Status.{Request, Resource, decide, status_of}
use Rattle.rules_server.specs.Answers.{answer, bytes_of}
use Rattle.rules_server.specs.Tags.{bad_tag, bad_type, bad_boundary}
use Rattle.rules_server.specs.Refusals.{bad_method, bad_length, bad_delimiter, bad_times, bad_room, RefusalRow, outcome, written_as, output}
use Rattle.rules_demands.specs.FirstRows.{FirstHolds, NoneHolds}

-- the refusal table of the server end, each row with its number
abbrev pub refusal_table : Request → Resource → ℕ → List RefusalRow
refusal_table q f room =
    record { holds = bad_method q.method; number = 1 }
    ∷ record { holds = bad_length f.file; number = 2 }
    ∷ record { holds = bad_tag f.tag; number = 3 }
    ∷ record { holds = bad_type f.media; number = 4 }
    ∷ record { holds = bad_boundary f.boundary; number = 5 }
    ∷ record { holds = bad_times f.modified f.reference; number = 9 }
    ∷ record { holds = bad_delimiter q f; number = 6 }
    ∷ record { holds = bad_room q f room; number = 7 }
    ∷ []

-- the test of a row
abbrev pub refuses : RefusalRow → Bool
refuses r = r.holds

-- the first row that holds carries the number k
pub record FirstRefusal (rows : List RefusalRow) (k : ℕ) : Type 0 where
  pub row : RefusalRow
  pub first : FirstHolds refuses rows row
  pub carries : row.number ≡ k

-- for a request q of a resource f, and an output buffer that holds `out`
pub record Demand1 (q : Request) (f : Resource) (out : List ℕ) : Type 0 where
  -- a number is given exactly when the first row that holds carries it
  pub exactly : (k : ℕ) → (outcome q f (length out) ≡ Err k) ↔ FirstRefusal (refusal_table q f (length out)) k
  -- there is no refusal 0
  pub numbered : outcome q f (length out) ≡ Err 0 → ⊥
  -- an answer is given exactly when no row holds, with the reason and status that the table of statuses gives, and its length
  pub answered : (outcome q f (length out) ≡ written_as (decide q f) (status_of (decide q f)) (length (bytes_of (answer q f))))
      ↔ NoneHolds refuses (refusal_table q f (length out))
  -- a refusal writes nothing
  pub kept : (k : ℕ) → outcome q f (length out) ≡ Err k → output q f out ≡ out
  -- an answer fits, stands at the front, and what lies beyond it stays
  pub written : NoneHolds refuses (refusal_table q f (length out)) →
      (length (bytes_of (answer q f)) ≤ length out)
      × (take (length (bytes_of (answer q f))) (output q f out) ≡ bytes_of (answer q f))
      × (drop (length (bytes_of (answer q f))) (output q f out) ≡ drop (length (bytes_of (answer q f))) out)

-- the statement: of every request, resource and buffer
abbrev pub Demand1Holds : Type 0
Demand1Holds = (q : Request) (f : Resource) (out : List ℕ) → Demand1 q f out
