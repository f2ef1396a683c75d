-- What an entry is.
use Rattle.std.specs.Prelude.{ℕ, Bool, cond, ◌&&◌, List, [], ◌∷◌, length, Some, None, Option, ◌==◌, nat_le, nat_lt}
use Rattle.cdf.specs.declared.entry.Entry.{Entry}
use Rattle.cdf.specs.declared.tables.edges.Edge.{Edge}
use Rattle.cdf.specs.declared.tables.edges.Edge.TheVariants as edge
use Rattle.cdf.specs.Layout.{in_layout}
use Rattle.cdf.specs.Words.{Words, Table, words_of, fl_at, fh_at, entry_at, widths}

-- s < N, N in 2..16, fh ≤ fl ≤ 32768
abbrev pub is_entry : Entry → Bool
is_entry e = nat_lt e.s e.n && (nat_le 2 e.n && (nat_le e.n 16 && (nat_le e.fh e.fl && nat_le e.fl 32768)))

-- an entry is that of a symbol of a table
abbrev pub entry_fits : List ℕ → Entry → Bool
entry_fits vs e = nat_lt e.s (length vs) && (e.n == length vs && (e.fl == fl_at vs e.s && e.fh == fh_at (length vs) vs e.s))

-- the entry of a symbol of a table, where the table has the symbol
abbrev pub entry_in : List ℕ → ℕ → Option Entry
entry_in vs s = cond (nat_lt s (length vs)) (Some (entry_at (length vs) vs s)) None

-- the entry of a symbol, where the layout has the table and the table the symbol
abbrev pub entry_if : Words → Table → ℕ → Option Entry
entry_if w t s = cond (in_layout t && nat_lt s t.count) (Some (entry_at t.count (words_of w t) s)) None

-- at an edge of the tile a partition is coded by two symbols: their table's value is the sum of the widths of these symbols
abbrev pub edge_symbols : Edge → List ℕ
edge_symbols edge.Bottom = 2 ∷ 3 ∷ 4 ∷ 6 ∷ 7 ∷ 9 ∷ []
edge_symbols edge.Right = 1 ∷ 3 ∷ 4 ∷ 5 ∷ 6 ∷ 8 ∷ []

abbrev pub edge_values : Words → Table → List ℕ → List ℕ
edge_values w t ss = widths t.count (words_of w t) ss ∷ 0 ∷ []

abbrev pub edge_table_if : Words → Table → Edge → Option (List ℕ)
edge_table_if w t e = cond (in_layout t) (Some (edge_values w t (edge_symbols e))) None

abbrev pub edge_entry_if : Words → Table → Edge → ℕ → Option Entry
edge_entry_if w t e s = cond (in_layout t && nat_lt s 2) (Some (entry_at 2 (edge_values w t (edge_symbols e)) s)) None
