-- The concrete answers are refused as the table says: the theorem's premises can be met, and so can each number's.
use Prim.Native.Nat.{ℕ}
use mathlib.Core.Path.{◌≡◌, refl, ap}
use mathlib.Core.Bool.{Bool, false}
use mathlib.Core.List.{List, [], ◌∷◌, map}
use native.Mathlib.Omega.{arith}
use lib.ListN.{length, take}
use Rattle.rules_server.specs.Octets.{codes}
use Rattle.rules_server.specs.Tags.{is_multipart_type, bad_boundary}
use Rattle.rules_tablet.specs.Limits.{max_runs}
use Rattle.rules_tablet.specs.Runs.{run}
use Rattle.rules_tablet.specs.Fields.{is_status_line, is_field, kind_of, is_size, type_field, range_field}
use Rattle.rules_tablet.specs.Heads.{other_status, broken_head, unlike_copy, wrong_range, empty_parts, head_refusal, body_stage}
use Rattle.rules_tablet.specs.Parsers.{field_line, head_end, status_line, part_line, part_end}
use Rattle.rules_tablet.specs.Feeding.{Held, Fed, is_over, store, feed_byte}
use Rattle.rules_tablet.specs.Calls.{fresh}
use Rattle.rules_tablet.specs.declared.Stage.{Stage}
use Rattle.rules_tablet.specs.declared.Stage.TheVariants.{Finished, Refused}
use Rattle.rules_demands.specs.RefusalsExactly.{RefusedAt, GoesOn, EndedAt, fed}
use Rattle.rules_demands.specs.RefusalCases.{Case, tag, head_cases, part_cases, data_cases, AllRefused, CasesRefused, held_with, blank, both, CasesTaken}
use Rattle.rules_demands.specs.RefusalCases.{Going, Ended, AllGoing, AllEnded, limits_going, limits_ended, limits_refused, LimitCases}
use Rattle.laws_refusals.proofs.refusals.Refusing.{refuses_exactly}

-- what feeding leaves
record Left : Type 0 where
  pub stage : Stage
  pub taken : ℕ
  pub held : Held

-- of what was fed
abbrev leaves : Fed → Left
leaves f = record { stage = f.tablet.parser.stage; taken = f.taken; held = f.tablet.held }

-- of an answer
abbrev fed-left : Case → Left
fed-left c = leaves (fed c.most tag 4 c.held c.answer)

-- what the table says
abbrev said : Case → Left
said c = record { stage = Refused c.number; taken = c.byte; held = c.last }

-- an answer that is refused so
one_refused : (c : Case) → fed-left c ≡ said c → RefusedAt c.most tag 4 c.held c.answer c.byte c.number c.last
one_refused c e =
    ((refuses_exactly c.most tag 4 c.held c.answer refl (omega arith)).refused c.byte c.number c.last).1
    (record { stage = ap (λ (l : Left). l.stage) e; taken = ap (λ (l : Left). l.taken) e; holds = ap (λ (l : Left). l.held) e })

-- the first of a list
abbrev first_or : {A : Type 0} → A → List A → A
first_or d [] = d
first_or d (l ∷ ls) = l

-- the others
abbrev others : {A : Type 0} → List A → List A
others [] = []
others (l ∷ ls) = ls

-- a list of answers that are refused so
all-refused : (cs : List Case) → map fed-left cs ≡ map said cs → AllRefused cs
all-refused [] e = tt
all-refused (c ∷ cs) e = (one_refused c (ap (first_or (said c)) e), all-refused cs (ap others e))

-- what feeding leaves of an answer that goes on
record LeftOn : Type 0 where
  pub over : Bool
  pub taken : ℕ
  pub held : Held

-- of an answer
abbrev left_on : Going → LeftOn
left_on c =
    let f = fed max_runs tag 4 blank c.answer in
    record { over = is_over f.tablet.parser.stage; taken = f.taken; held = f.tablet.held }

-- what the table says
abbrev said_on : Going → LeftOn
said_on c = record { over = false; taken = length c.answer; held = c.last }

-- an answer that goes on so
one_going : (c : Going) → left_on c ≡ said_on c → GoesOn max_runs tag 4 blank c.answer c.last
one_going c e =
    ((refuses_exactly max_runs tag 4 blank c.answer refl (omega arith)).going c.last).1
    (record { stage = ap (λ (l : LeftOn). l.over) e; taken = ap (λ (l : LeftOn). l.taken) e; holds = ap (λ (l : LeftOn). l.held) e })

-- a list of answers that go on so
all_going : (cs : List Going) → map left_on cs ≡ map said_on cs → AllGoing cs
all_going [] e = tt
all_going (c ∷ cs) e = (one_going c (ap (first_or (said_on c)) e), all_going cs (ap others e))

-- what feeding leaves of an answer that ends, and what the table says
abbrev left_ended : Ended → Left
left_ended c = leaves (fed max_runs tag 4 blank c.answer)

abbrev said_ended : Ended → Left
said_ended c = record { stage = Finished; taken = c.byte; held = c.last }

-- an answer that ends so
one_ended : (c : Ended) → left_ended c ≡ said_ended c → EndedAt max_runs tag 4 blank c.answer c.byte c.last
one_ended c e =
    ((refuses_exactly max_runs tag 4 blank c.answer refl (omega arith)).ended c.byte c.last).1
    (record { stage = ap (λ (l : Left). l.stage) e; taken = ap (λ (l : Left). l.taken) e; holds = ap (λ (l : Left). l.held) e })

-- a list of answers that end so
all_ended : (cs : List Ended) → map left_ended cs ≡ map said_ended cs → AllEnded cs
all_ended [] e = tt
all_ended (c ∷ cs) e = (one_ended c (ap (first_or (said_ended c)) e), all_ended cs (ap others e))

-- the three lists
pub cases_refused : CasesRefused
unfolding head_cases part_cases data_cases is_multipart_type bad_boundary is_status_line is_field kind_of is_size type_field range_field other_status broken_head unlike_copy
    wrong_range empty_parts head_refusal body_stage field_line head_end status_line part_line part_end store feed_byte fresh
cases_refused = (all-refused head_cases refl, all-refused part_cases refl, all-refused data_cases refl)

-- the answer that is taken
pub cases_taken : CasesTaken
unfolding is_multipart_type bad_boundary is_status_line is_field kind_of is_size type_field range_field other_status broken_head unlike_copy wrong_range empty_parts
    head_refusal body_stage field_line head_end status_line part_line part_end store feed_byte fresh
cases_taken =
    record {
      whole = ((refuses_exactly max_runs tag 4 blank both refl (omega arith)).ended 194 (held_with (run 0 0 ∷ run 3 3 ∷ []) (codes "a..d"))).1
          (record { stage = refl; taken = refl; holds = refl });
      broken_off = ((refuses_exactly max_runs tag 4 blank (take 147 both) refl (omega arith)).going (held_with (run 0 0 ∷ []) (codes "a..."))).1
          (record { stage = refl; taken = refl; holds = refl });
    }

-- both sides of each limit, by computation
pub limit_cases : LimitCases
unfolding limits_going limits_ended limits_refused is_multipart_type bad_boundary is_status_line is_field kind_of is_size type_field range_field other_status broken_head
    unlike_copy wrong_range empty_parts head_refusal body_stage field_line head_end status_line part_line part_end store feed_byte fresh
limit_cases = (all_going limits_going refl, all_ended limits_ended refl, all-refused limits_refused refl)
