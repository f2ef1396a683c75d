-- What a sink answers, by its list of entries and its room, and the laws that every sink owes.
use Rattle.std.specs.Prelude.{◌≡◌, ℕ, ◌+◌, ◌≤◌, true, cond, List, [], ◌∷◌, ◌++◌, length, take, Ok, Err, Result, nat_le, nat_lt, slice_index_or}
use Rattle.av1.specs.declared.refusal.Refusal.{Refusal}
use Rattle.av1.specs.declared.refusal.Refusal.TheVariants as no
use Rattle.cdf.specs.declared.entry.Entry.{Entry}
use Rattle.cdf.specs.Entries.{is_entry}

-- count plus room is at most this
abbrev pub most_entries : ℕ
most_entries = 16777216

-- stands for no entry; never answered
abbrev pub no_entry : Entry
no_entry = record { s = 0; n = 0; fl = 0; fh = 0 }

-- entry i of a list
abbrev pub entry_answer : List Entry → ℕ → Result Entry Refusal
entry_answer l i = cond (nat_lt i (length l)) (Ok (slice_index_or l i no_entry)) (Err no.NoSuchEntry)

-- a put, at a room: what is no entry is refused first, then any entry where there is no room
abbrev pub put_answer : Entry → ℕ → Result (Unit {0}) Refusal
put_answer e room = cond (is_entry e) (cond (nat_lt 0 room) (Ok tt) (Err no.RecordFull)) (Err no.NotAnEntry)

abbrev pub put_list : Entry → ℕ → List Entry → List Entry
put_list e room l = cond (is_entry e) (cond (nat_lt 0 room) (l ++ e ∷ []) l) l

-- a cut to n entries
abbrev pub cut_answer : List Entry → ℕ → Result (Unit {0}) Refusal
cut_answer l n = cond (nat_le n (length l)) (Ok tt) (Err no.NoSuchEntry)

abbrev pub cut_list : List Entry → ℕ → List Entry
cut_list l n = cond (nat_le n (length l)) (take n l) l

-- one entry more takes at most one from the room, and the entries and the room have a bound together
pub record SinkLaws {S : Type 0} (list : S → List Entry) (rooms : S → List Entry → ℕ) : Type 0 where
  pub falls : (s : S) (l : List Entry) (e : Entry) → is_entry e ≡ true → rooms s l ≤ rooms s (l ++ e ∷ []) + 1
  pub bounded : (s : S) → length (list s) + rooms s (list s) ≤ most_entries
