-- Requests that demand 2 speaks of, with the specs that the grammar derives from them and what is answered: several parts, the nonzero suffix of an empty file,
-- a range that ends before it begins, and a date in If-Range.
use Rattle.std.specs.Prelude.{ℕ, ◌≡◌, true, List, [], ◌∷◌, pos}
use Rattle.std.specs.Prelude.{None, Some}
use Rattle.rules_server.specs.Octets.{codes}
use Rattle.rules_server.specs.Ranges.{ByteSpec, span, onward, suffix}
use Rattle.rules_server.specs.Status.{Request, Resource, decide}
use Rattle.rules_server.specs.Answers.{answer}
use Rattle.rules_server.specs.declared.Reason.{Reason}
use Rattle.rules_server.specs.declared.Reason.TheVariants.{Invalid, Empty, Partial}
use Rattle.rules_demands.specs.Positions.{positions}
use Rattle.rules_demands.specs.Demand2Server.{Wanted, Demand2}

-- a GET of this Range under this If-Range, for a file with a strong tag
abbrev pub asking : List ℕ → Request
asking v = record { method = codes "GET"; range = Some v; if_range = Some (codes " \"t\"") }

abbrev pub tagged_file : List ℕ → Resource
tagged_file file = record { file = file; tag = codes "\"t\""; media = []; boundary = codes "B"; modified = None; reference = pos 0 }

-- a GET under the date of RFC 7231's example, for a file of that second
abbrev pub asking_by_date : List ℕ → Request
asking_by_date v = record { method = codes "GET"; range = Some v; if_range = Some (codes "Sunday, 06-Nov-94 08:49:37 GMT ") }

abbrev pub dated_file : List ℕ → Resource
dated_file file = record {
  file = file;
  tag = [];
  media = [];
  boundary = codes "B";
  modified = Some (record { time = pos 784111777; strong = true });
  reference = pos 784111777;
}

-- the request is wanted, demand 2 speaks of it, and its reason and the positions that it is sent are these
pub record Demanded (q : Request) (f : Resource) (v : List ℕ) (ss : List ByteSpec) (x : Reason) (ps : List ℕ) : Type 0 where
  pub wanted : Wanted q f v ss
  pub demanded : Demand2 q f ss
  pub reason : decide q f ≡ x
  pub sent : positions (answer q f).body ≡ ps

-- by the tag, and by the date
abbrev pub ByTag : List ℕ → List ℕ → List ByteSpec → Reason → List ℕ → Type 0
ByTag v file ss x ps = Demanded (asking v) (tagged_file file) v ss x ps

abbrev pub ByDate : List ℕ → List ℕ → List ByteSpec → Reason → List ℕ → Type 0
ByDate v file ss x ps = Demanded (asking_by_date v) (dated_file file) v ss x ps

pub record Demand2Cases : Type 0 where
  pub several : ByTag (codes " Bytes=,7-,\t0-1 , -2,") (codes "01234567") (onward 7 ∷ span 0 1 ∷ suffix 2 ∷ []) Partial (6 ∷ 7 ∷ 0 ∷ 1 ∷ [])
  pub empty : ByTag (codes "bytes=5-,-1") [] (onward 5 ∷ suffix 1 ∷ []) Empty []
  pub backward : ByTag (codes "bytes=0-0,2-1") (codes "01234567") (span 0 0 ∷ span 2 1 ∷ []) Invalid []
  pub dated : ByDate (codes "bytes=7-,0-1") (codes "01234567") (onward 7 ∷ span 0 1 ∷ []) Partial (7 ∷ 0 ∷ 1 ∷ [])
