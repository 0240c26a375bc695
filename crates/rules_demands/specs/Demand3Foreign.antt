-- "An answer is under another tag when no ETag field before its first empty line gives the copy's tag."
use Rattle.std.specs.Prelude.{ℕ, Bool, true, not, cond, ◌&&◌, eqb}
use mathlib.Core.List.{List, [], ◌∷◌, ◌++◌, tail}
use Rattle.rules_server.specs.Octets.{same, same_fold, carriage_return, line_feed}
use Rattle.rules_server.specs.Texts.{etag_name}
use Rattle.rules_tablet.specs.Fields.{is_field, name_of, value_of}

-- a line that ends here, and the lines behind it; an empty line ends them
abbrev pub end_line : List ℕ → List (List ℕ) → List (List ℕ)
end_line [] rest = []
end_line (c ∷ l) rest = (c ∷ l) ∷ rest

-- the lines before the first empty line, each ended by CR LF; l is the line so far
abbrev pub lines_from : List ℕ → List ℕ → List (List ℕ)
lines_from l [] = []
lines_from l (x ∷ []) = []
lines_from l (x ∷ y ∷ rest) = cond (eqb x carriage_return && eqb y line_feed) (end_line l (lines_from [] rest)) (lines_from (l ++ (x ∷ [])) (y ∷ rest))

-- the field lines before the first empty line: those behind the status line
abbrev pub field_lines : List ℕ → List (List ℕ)
field_lines bytes = tail (lines_from [] bytes)

-- the line is an ETag field that gives the tag
unfoldable pub gives_tag : List ℕ → List ℕ → Bool
gives_tag tag l = is_field l && same_fold (name_of l) etag_name && same (value_of l) tag

abbrev pub none_gives : List ℕ → List (List ℕ) → Bool
none_gives tag [] = true
none_gives tag (l ∷ ls) = not (gives_tag tag l) && none_gives tag ls

-- the answer is under another tag
abbrev pub under_another : List ℕ → List ℕ → Bool
under_another tag bytes = none_gives tag (field_lines bytes)
