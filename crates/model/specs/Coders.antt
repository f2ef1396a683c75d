-- What codes a symbol: a table, which adapts, or an edge, whose two symbols are summed from a table that does not adapt.
use Rattle.std.specs.Prelude.{ℕ, Bool, ◌&&◌, List, [], ◌∷◌, ◌==◌, nat_lt}
use Rattle.cdf.specs.declared.entry.Entry.{Entry}
use Rattle.cdf.specs.Words.{Words, Table, words_of, fl_at, fh_at, entry_at, updated, widths}

pub data Coder : Type 0 where
  whole : Table → Coder
  edge : Table → List ℕ → Coder

-- the table itself, or the one summed
abbrev pub table_of : Coder → Table
table_of (whole t) = t
table_of (edge t ss) = t

-- how many symbols there are, and the values that they are coded by
abbrev pub symbols : Coder → ℕ
symbols (whole t) = t.count
symbols (edge t ss) = 2

abbrev pub coded_by : Words → Coder → List ℕ
coded_by w (whole t) = words_of w t
coded_by w (edge t ss) = widths t.count (words_of w t) ss ∷ 0 ∷ []

abbrev pub entry_of : Words → Coder → ℕ → Entry
entry_of w k s = entry_at (symbols k) (coded_by w k) s

-- the words after a symbol
abbrev pub after : Words → Coder → ℕ → Words
after w (whole t) s = updated w t s
after w (edge t ss) s = w

-- an entry is one of the coder's, for the words as they stand
abbrev pub fits : Words → Coder → Entry → Bool
fits w k e =
    nat_lt e.s (symbols k) && (e.n == symbols k && (e.fl == fl_at (coded_by w k) e.s && e.fh == fh_at (symbols k) (coded_by w k) e.s))
