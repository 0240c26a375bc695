-- Bytes, heads and runs that the anchors and the cases are made of.
use Rattle.std.specs.Prelude.{ℕ, zero, suc, List, [], ◌∷◌, ◌++◌, replicate}
use Rattle.rules_server.specs.Octets.{codes}
use Rattle.rules_server.specs.declared.Run.{Run}
use Rattle.rules_tablet.specs.Runs.{run}

-- a buffer of k bytes `.`
abbrev pub dots : ℕ → List ℕ
dots k = replicate k 46

-- k times the letter `a`
abbrev pub letters : ℕ → List ℕ
letters k = replicate k 97

-- a text so many times
abbrev pub repeat : ℕ → List ℕ → List ℕ
repeat zero l = []
repeat (suc k) l = l ++ repeat k l

-- k runs of one position, from a on, with one position between neighbours
abbrev pub singles : ℕ → ℕ → List Run
singles a zero = []
singles a (suc k) = run a a ∷ singles (suc (suc a)) k

-- the first lines of a 200
abbrev pub ok : List ℕ
ok = codes "HTTP/1.1 200 OK\r\nETag: \"k\"\r\n"

-- and of a 206
abbrev pub partial : List ℕ
partial = codes "HTTP/1.1 206 Partial Content\r\nETag: \"k\"\r\n"
