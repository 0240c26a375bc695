-- The tablet's copy: what its record means, a fresh one, the rule of a record, opening, and complete (document 01, "The tablet's copy and reader", row 19).
use Rattle.std.specs.Prelude.{ℕ, ◌-◌, Bool, true, false, not, ◌&&◌, ◌||◌, List, [], ◌∷◌, ◌++◌, leb, ltb, eqb, length, take, drop, replicate}
use Rattle.rules_server.specs.Limits.{max_file, max_tag}
use Rattle.rules_server.specs.Octets.{codes, all}
use Rattle.rules_server.specs.Tags.{is_strong}
use Rattle.rules_server.specs.declared.Run.{Run}
use Rattle.rules_tablet.specs.Limits.{max_runs}
use Rattle.rules_tablet.specs.Runs.{run, well_formed, holes}
use Rattle.rules_tablet.specs.declared.Copy.{Copy}

-- what a copy's record means
abbrev pub tag_of : Copy → List ℕ
tag_of c = take c.tag_len c.tag

abbrev pub runs_of : Copy → List Run
runs_of c = take c.count c.runs

-- the record of a fresh copy: no run held, under the tag `""` and the length 0
abbrev pub fresh_copy : Copy
fresh_copy = record {
  tag = codes "\"\"" ++ replicate (max_tag - 2) 0;
  tag_len = 2;
  length = 0;
  runs = replicate max_runs (run 0 0);
  count = 0;
}

abbrev pub is_zero : ℕ → Bool
is_zero b = eqb b 0

abbrev pub all_blank : List Run → Bool
all_blank [] = true
all_blank (r ∷ rs) = eqb r.first 0 && eqb r.last 0 && all_blank rs

-- the rule of a copy's record (docs/RECORDS.md): unused places are zero, so that a state has one record
unfoldable pub copy_rule : Copy → Bool
copy_rule c =
    leb c.tag_len max_tag
    && is_strong (tag_of c)
    && all is_zero (drop c.tag_len c.tag)
    && leb c.length max_file
    && leb c.count max_runs
    && well_formed 0 c.length (runs_of c)
    && all_blank (drop c.count c.runs)

-- opening: "copy's tag not strong or over 64 bytes, buffer not of its length, length over limit 2"
unfoldable pub bad_opening : List ℕ → ℕ → ℕ → Bool
bad_opening tag n room = not (is_strong tag) || ltb max_tag (length tag) || not (eqb room n) || ltb max_file n

-- no hole
abbrev pub no_hole : List Run → Bool
no_hole [] = true
no_hole (r ∷ rs) = false

-- nothing is missing
unfoldable pub is_complete : ℕ → List Run → Bool
is_complete n rs = no_hole (holes n rs)
