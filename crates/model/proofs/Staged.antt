-- The stage's subject has the laws, and so the theorems over whole runs.
use Rattle.std.proofs.Common.{◌≡◌, ℕ, ◌+◌, ◌*◌, ◌<◌, ◌≤◌, Bool, true, false, cond, not, ◌||◌, T, eqb, ltb, leb, List, [], ◌∷◌, length, get_or, set, sym, refl, ap, ◌∙◌, subst, arith, le→leb, eqb→eq, ltb→lt, leb→le}
use mathlib.Core.Option.{none}
use Rattle.std.proofs.lemmas.List.{set-set, set-get_or, length-take}
use Rattle.journal.specs.declared.Window.{Window}
use Rattle.journal.specs.declared.Spot.{Spot}
use Rattle.journal.specs.declared.Spot.TheVariants as spot
use Rattle.journal.specs.Spots.{length_below, put_below}
use Rattle.model.specs.declared.Question.{Question}
use Rattle.model.specs.declared.Question.TheVariants as of
use Rattle.av1.specs.declared.refusal.Refusal.TheVariants as no
use Rattle.av1.specs.Alphas.{alphas_allowed}
use Rattle.av1.proofs.Segments.{segment_back}
use Rattle.av1.specs.Segments.{deinterleaved, interleaved}
use Rattle.std.proofs.lemmas.Bool.{and_from, cond-true}
use Rattle.av1.specs.Tiles.{no_cell}
use Rattle.cdf.proofs.Layouts.{words_stay_sound}
use Rattle.cdf.proofs.Regions.{inside_large, inside_small, large_still, PlaceOf, put_commute, put_sound, small_still, table_place, window_restores}
use Rattle.cdf.specs.Layout.{SoundWords, in_layout, lawful}
use Rattle.cdf.specs.Lists.{Each}
use Rattle.cdf.specs.Windows.{put_window, taken_window, window}
use Rattle.cdf.specs.Words.{Table, Words}
use Rattle.model.specs.Facts.{AcceptedLeads}
use Rattle.model.proofs.AlphaSigns.{alphas_leads}
use Rattle.model.proofs.Reading.{reads_record, tells_runs_apart}
use Rattle.model.proofs.Standing.{no_trace, none_passed, or_else_first, or_else_second, unless_true}
use Rattle.model.proofs.Trails.{each_any, taken_back, taken_on, unwound_cross, unwound_past, unwound_sound}
use Rattle.model.proofs.TreeTables.{trees_in_layout}
use Rattle.model.proofs.Vectors.{vector_leads}
use Rattle.model.specs.Coders.{Coder, after, edge, symbols, whole}
use Rattle.model.specs.Decisions.{above_length, left_length, Decision, HORZ, InLarge, InSmall, SPLIT, Sound, State, TablesIn, VERT, add_if, allowed, decided, flag_read, flag_symbol, has_columns, has_rows, is_large, is_small, large_of, old_spot, old_spots, partition_allowed, partition_path, partition_tree, path, placed, prediction, put_back, put_spot, put_spots, segment_decided, segment_number, segment_path, segment_tree, skip_context, small_of, spots, stage, table_at, takes, tree, units, window_at, windows_of, with_words}
use Rattle.model.specs.Runs.{Laws, NoTrace, NonePassed, ReadsRecord, Standing, Taken, TellsRunsApart, asked, unless, unwound}
use Rattle.model.specs.Tree.{Leads, Syntax, coded, done, never, written}
use Rattle.model.specs.Vector.{fits_precision, in_range}

-- spots
put_restored : {A : Type 0} (size i : ℕ) (a d : A) (l : List A) → put_below size i (get_or l i d) (put_below size i a l) ≡ l
put_restored size i a d l = go (ltb i size)
  where
    go : (b : Bool) → cond b (set (cond b (set l i a) l) i (get_or l i d)) (cond b (set l i a) l) ≡ l
    go true = set-set l i a (get_or l i d) ∙ set-get_or l i d
    go false = refl

spot_restored : (s : State) (p : Spot) → put_spot (put_spot s p) (old_spot s p) ≡ s
spot_restored s (spot.Cell i c) = rw (put_restored (units s) i c no_cell s.cells)
spot_restored s (spot.Above i b) = rw (put_restored (above_length s) i b 0 s.above)
spot_restored s (spot.Left i b) = rw (put_restored (left_length s) i b 0 s.left)

spots_restored : (s : State) (ps : List Spot) → unwound put_spot (put_spots s ps) (old_spots s ps) ≡ s
spots_restored s [] = refl
spots_restored s (p ∷ ps) = ap (λ z. put_spot z (old_spot s p)) (spots_restored (put_spot s p) ps) ∙ spot_restored s p

-- records of two lanes have nothing in common
window_spot : {n : ℕ} (s : State) (a : Window n) (b : Spot) → put_spot (put_back s a) b ≡ put_back (put_spot s b) a
window_spot s a (spot.Cell i c) = refl
window_spot s a _ = refl

small_large : (s : State) (a : Window 4) (b : Window 16) → Sound s → InSmall a → InLarge b → put_back (put_back s a) b ≡ put_back (put_back s b) a
small_large s a b sound h k = ap (with_words s) (put_commute s.words a.first b.first a.words b.words sound.tables h.0 h.1 k.0 k.1)

-- what is put back keeps a state sound
pub words_sound : (s : State) (w : Words) → Sound s → SoundWords w → Sound (with_words s w)
words_sound s w h k = record { wide = h.wide; high = h.high; ends = h.ends; tables = k; over = h.over; beside = h.beside; mapped = h.mapped }

back_sound : {n : ℕ} (s : State) (a : Window n) → Sound s → Sound (put_back s a)
back_sound s a h = words_sound s (put_window a.first a.words s.words) h (put_sound a.first a.words s.words h.tables)

spot_sound : (s : State) (p : Spot) → Sound s → Sound (put_spot s p)
spot_sound s (spot.Cell i c) h =
    record { wide = h.wide; high = h.high; ends = h.ends; tables = h.tables; over = h.over; beside = h.beside; mapped = length_below (units s) i c s.cells ∙ h.mapped }
spot_sound s (spot.Above i b) h =
    record { wide = h.wide; high = h.high; ends = h.ends; tables = h.tables; over = length_below (above_length s) i b s.above ∙ h.over; beside = h.beside; mapped = h.mapped }
spot_sound s (spot.Left i b) h =
    record { wide = h.wide; high = h.high; ends = h.ends; tables = h.tables; over = h.over; beside = length_below (left_length s) i b s.left ∙ h.beside; mapped = h.mapped }

pub spots_sound : (s : State) (ps : List Spot) → Sound s → Sound (put_spots s ps)
spots_sound s [] h = h
spots_sound s (p ∷ ps) h = spots_sound (put_spot s p) ps (spot_sound s p h)

-- what no spot touches stays
pub spots_still : {A : Type 0} (f : State → A) → ((s : State) (p : Spot) → f (put_spot s p) ≡ f s) → (s : State) (ps : List Spot) → f (put_spots s ps) ≡ f s
spots_still f still s [] = refl
spots_still f still s (p ∷ ps) = spots_still f still (put_spot s p) ps ∙ still s p

spot_units : (s : State) (p : Spot) → units (put_spot s p) ≡ units s
spot_units s (spot.Cell i c) = refl
spot_units s _ = refl

spot_words : (s : State) (p : Spot) → (put_spot s p).words ≡ s.words
spot_words s (spot.Cell i c) = refl
spot_words s _ = refl

-- windows at the level of words
abbrev back : {n : ℕ} → Words → Window n → Words
back w r = put_window r.first r.words w

short : (n : ℕ) (w : Words) (f : ℕ) → length (window n w f) ≤ n
short n w f = rw length-take (omega arith)

keeps_words : {n : ℕ} (v : Words) (r : Window n) → SoundWords v → SoundWords (back v r)
keeps_words v r k = put_sound r.first r.words v k

words_commute : (w : Words) (a : Window 4) (b : Window 16) → SoundWords w → InSmall a → InLarge b → back (back w a) b ≡ back (back w b) a
words_commute w a b s h k = put_commute w a.first b.first a.words b.words s h.0 h.1 k.0 k.1

-- the window of a table that a symbol adapts is not passed over, and gives the words before
abbrev takes_words : {n : ℕ} → Words → Window n → Bool
takes_words w r = taken_window r.first r.words w

window_takes : (n : ℕ) (w : Words) (t : Table) (s : ℕ) → SoundWords w → leb (t.first + length (window n w t.first)) 430 ≡ true → t.count ≤ n
    → takes_words (after w (whole t) s) (window_at n w t.first) ≡ true
window_takes n w t s sound h k = and_from _ _ h (ap lawful (window_restores n w t s k) ∙ sound.fits)

window_back : (n : ℕ) (w : Words) (t : Table) (s : ℕ) → SoundWords w → leb (t.first + length (window n w t.first)) 430 ≡ true → t.count ≤ n
    → back (after w (whole t) s) (window_at n w t.first) ≡ w
window_back n w t s sound h k = cond-true _ _ _ (window_takes n w t s sound h k) ∙ window_restores n w t s k

-- a tree's windows lie in their lanes' parts
windows_in : {D : Type 0} (n : ℕ) (taken : ℕ → Bool) (P : Window n → Type 0)
    → ((w : Words) (t : Table) → in_layout t ≡ true → T (taken t.count) → P (window_at n w t.first))
    → (R : D → Type 0) (w : Words) (t : Syntax D) (p : List ℕ) (d : D) → TablesIn R t → Leads t p d → Each P (windows_of n taken w t p)
windows_in n taken P own R w (done e) p d h l = tt
windows_in n taken P own R w (never m) p d h l = tt
windows_in n taken P own R w (coded k f) [] d h l = tt
windows_in n taken P own R w (coded (edge t ss) f) (s ∷ p) d h l = windows_in n taken P own R w (f s) p d (h.1 s l.0) l.1
windows_in n taken P own R w (coded (whole t) f) (s ∷ p) d h l =
    go (taken t.count) (own w t h.0) (windows_in n taken P own R (after w (whole t) s) (f s) p d (h.1 s l.0) l.1)
  where
    rest : List (Window n)
    rest = windows_of n taken (after w (whole t) s) (f s) p

    go : (b : Bool) → (T b → P (window_at n w t.first)) → Each P rest → Each P (add_if b (window_at n w t.first) rest)
    go true q e = (q tt, e)
    go false q e = e

own_small : (w : Words) (t : Table) → in_layout t ≡ true → T (is_small t.count) → InSmall (window_at 4 w t.first)
own_small w t h = go (leb t.count 4) (table_place t h)
  where
    go : (b : Bool) → PlaceOf b t → T b → InSmall (window_at 4 w t.first)
    go true q c = (q, short 4 w t.first)
    go false q c = absurd c

own_large : (w : Words) (t : Table) → in_layout t ≡ true → T (is_large t.count) → InLarge (window_at 16 w t.first)
own_large w t h = go (leb t.count 4) (table_place t h)
  where
    go : (b : Bool) → PlaceOf b t → T (not b) → InLarge (window_at 16 w t.first)
    go true q c = absurd c
    go false q c = (q.0, short 16 w t.first)

-- the words stay sound
pub after_sound : {D : Type 0} (R : D → Type 0) (w : Words) (k : Coder) (s : ℕ) (f : ℕ → Syntax D) → TablesIn R (coded k f) → SoundWords w → SoundWords (after w k s)
after_sound R w (whole t) s f h sound = words_stay_sound w t s h.0 sound
after_sound R w (edge t ss) s f h sound = sound

pub below_tables : {D : Type 0} (R : D → Type 0) (k : Coder) (s : ℕ) (f : ℕ → Syntax D) → TablesIn R (coded k f) → s < symbols k → TablesIn R (f s)
below_tables R (whole t) s f h l = h.1 s l
below_tables R (edge t ss) s f h l = h.1 s l

written_sound : {D : Type 0} (R : D → Type 0) (w : Words) (t : Syntax D) (p : List ℕ) (d : D) → TablesIn R t → Leads t p d → SoundWords w → SoundWords (written w t p).words
written_sound R w (coded k f) (s ∷ p) d h l sound = written_sound R (after w k s) (f s) p d (below_tables R k s f h l.0) l.1 (after_sound R w k s f h sound)
written_sound R w _ p d h l sound = sound

-- the windows of a path, all put back, give the words before, and none of them is passed over
abbrev WordsTaken : Words → List (Window 4) → List (Window 16) → Type 0
WordsTaken v as' bs = Taken takes_words back v as' × Taken takes_words back (unwound back v as') bs

record WordsBack (w last : Words) (as' : List (Window 4)) (bs : List (Window 16)) : Type 0 where
  restored : unwound back (unwound back last as') bs ≡ w
  taken : WordsTaken last as' bs

small_still_words : (w : Words) (a : Window 4) (b : Window 16) → SoundWords w → InSmall a → InLarge b → takes_words (back w b) a ≡ takes_words w a
small_still_words w a b s h k = small_still w a.first b.first a.words b.words s h.0 h.1 k.0 k.1

large_still_words : (w : Words) (a : Window 4) (b : Window 16) → SoundWords w → InSmall a → InLarge b → takes_words (back w a) b ≡ takes_words w b
large_still_words w a b s h k = large_still w a.first b.first a.words b.words s h.0 h.1 k.0 k.1

words_back : {D : Type 0} (R : D → Type 0) (w : Words) (t : Syntax D) (p : List ℕ) (d : D) → SoundWords w → TablesIn R t → Leads t p d
    → WordsBack w (written w t p).words (small_of w t p) (large_of w t p)
words_back R w (done e) p d sound h l = record { restored = refl; taken = (tt, tt) }
words_back R w (never n) p d sound h l = record { restored = refl; taken = (tt, tt) }
words_back R w (coded k f) [] d sound h l = record { restored = refl; taken = (tt, tt) }
words_back R w (coded (edge t ss) f) (s ∷ p) d sound h l = words_back R w (f s) p d sound (h.1 s l.0) l.1
words_back R w (coded (whole t) f) (s ∷ p) d sound h l =
    go (leb t.count 4) (leb→le t.count 4) (table_place t h.0) (words_back R (after w (whole t) s) (f s) p d next (h.1 s l.0) l.1)
  where
    next : SoundWords (after w (whole t) s)
    next = words_stay_sound w t s h.0 sound

    smalls : List (Window 4)
    smalls = small_of (after w (whole t) s) (f s) p

    larges : List (Window 16)
    larges = large_of (after w (whole t) s) (f s) p

    last : Words
    last = (written (after w (whole t) s) (f s) p).words

    mid_sound : SoundWords (unwound back last smalls)
    mid_sound = unwound_sound SoundWords back keeps_words last smalls (written_sound R (after w (whole t) s) (f s) p d (h.1 s l.0) l.1 next)

    in_larges : Each InLarge larges
    in_larges = windows_in 16 is_large InLarge own_large R (after w (whole t) s) (f s) p d (h.1 s l.0) l.1

    go : (b : Bool) → (T b → t.count ≤ 4) → PlaceOf b t → WordsBack (after w (whole t) s) last smalls larges
        → WordsBack w last (add_if b (window_at 4 w t.first) smalls) (add_if (not b) (window_at 16 w t.first) larges)
    go true k q ih =
        let r : Window 4 = window_at 4 w t.first in
        let own : InSmall r = (q, short 4 w t.first) in
        let fits : leb (t.first + length (window 4 w t.first)) 430 ≡ true = inside_small t.first (window 4 w t.first) q (short 4 w t.first) in
        let one : Taken takes_words back (unwound back last smalls) (r ∷ []) =
        taken_back SoundWords InSmall InLarge takes_words back back keeps_words keeps_words words_commute small_still_words (unwound back last smalls) larges (r ∷ []) mid_sound in_larges (own, tt)
        (ap (λ v. takes_words v r) ih.restored ∙ window_takes 4 w t s sound fits (k tt), tt) in
        record {
          restored =
              sym (unwound_past SoundWords InLarge back back keeps_words r (λ v b u x. sym (words_commute v r b u own x)) (unwound back last smalls) larges mid_sound in_larges)
              ∙ ap (λ z. back z r) ih.restored
              ∙ window_back 4 w t s sound fits (k tt);
          taken = (
            (one.0, ih.taken.0),
            taken_on SoundWords InLarge InSmall takes_words back back keeps_words keeps_words (λ v b a x y z. sym (words_commute v a b x z y)) (λ v b a x y z. large_still_words v a b x z y)
                (unwound back last smalls) (r ∷ []) larges mid_sound (own, tt) in_larges ih.taken.1,
          );
        }
    go false k q ih =
        let r : Window 16 = window_at 16 w t.first in
        let fits : leb (t.first + length (window 16 w t.first)) 430 ≡ true = inside_large t.first (window 16 w t.first) q.0 (short 16 w t.first) in
        record {
          restored = ap (λ z. back z r) ih.restored ∙ window_back 16 w t s sound fits q.1;
          taken = (ih.taken.0, (ap (λ v. takes_words v r) ih.restored ∙ window_takes 16 w t s sound fits q.1, ih.taken.1));
        }

lift : {n : ℕ} (s : State) (l : List (Window n)) → unwound put_back s l ≡ with_words s (unwound back s.words l)
lift s [] = refl
lift s (r ∷ l) = ap (λ z. put_back z r) (lift s l)

-- a call's records, all put back
restored : {D : Type 0} (R : D → Type 0) (s : State) (t : Syntax D) (p : List ℕ) (d : D) (ps : List Spot) → Sound s → TablesIn R t → Leads t p d
    → let v : State = with_words s (written s.words t p).words in
    unwound put_spot (unwound put_back (unwound put_back (put_spots v ps) (small_of s.words t p)) (large_of s.words t p)) (old_spots v ps) ≡ s
restored R s t p d ps sound h l =
    let w : Words = (written s.words t p).words in
    let v : State = with_words s w in
    let smalls : List (Window 4) = small_of s.words t p in
    let larges : List (Window 16) = large_of s.words t p in
    let olds : List Spot = old_spots v ps in
    let fine : Sound (put_spots v ps) = spots_sound v ps (words_sound s w sound (written_sound R s.words t p d h l sound.tables)) in
    unwound_cross Sound (λ b. Unit {0}) (λ c. Unit {0}) put_back put_spot back_sound spot_sound (λ s b c x y z. window_spot s b c) (unwound put_back (put_spots v ps) smalls) olds larges
    (unwound_sound Sound put_back back_sound (put_spots v ps) smalls fine) (each_any larges) (each_any olds)
    ∙ ap (λ z. unwound put_back z larges)
    (unwound_cross Sound (λ b. Unit {0}) (λ c. Unit {0}) put_back put_spot back_sound spot_sound (λ s b c x y z. window_spot s b c) (put_spots v ps) olds smalls fine (each_any smalls) (each_any olds))
    ∙ ap (λ z. unwound put_back (unwound put_back z smalls) larges) (spots_restored v ps)
    ∙ ap (λ z. unwound put_back z larges) (lift v smalls)
    ∙ lift (with_words v (unwound back w smalls)) larges
    ∙ ap (with_words s) (words_back R s.words t p d sound.tables h l).restored

-- none of a call's windows is passed over
lift_taken : {n : ℕ} (s : State) (l : List (Window n)) → Taken takes_words back s.words l → Taken takes put_back s l
lift_taken s [] h = tt
lift_taken s (r ∷ l) h = (ap (λ (z : State). takes_words z.words r) (lift s l) ∙ h.0, lift_taken s l h.1)

all_taken : (s : State) (as' : List (Window 4)) (bs : List (Window 16)) (w : Words) → s.words ≡ w → WordsTaken w as' bs → Taken takes put_back s as' × Taken takes put_back (unwound put_back s as') bs
all_taken s as' bs w e h =
    let k : WordsTaken s.words as' bs = subst (λ v. WordsTaken v as' bs) (sym e) h in (
      lift_taken s as' k.0,
      lift_taken (unwound put_back s as') bs (subst (λ v. Taken takes_words back v bs) (sym (ap (λ (z : State). z.words) (lift s as'))) k.1),
    )

takes_spot : {n : ℕ} (s : State) (a : Window n) (c : Spot) → takes (put_spot s c) a ≡ takes s a
takes_spot s a (spot.Cell i c) = refl
takes_spot s a _ = refl

-- the writer's symbols lead to its decision
partition_leads : (r c : Bool) (t : Table) (p : ℕ) → T (partition_allowed r c t p) → Leads (partition_tree r c t) (partition_path r c p) p
partition_leads true true t p h = (ltb→lt p t.count h, refl)
partition_leads false true t p h = go (eqb p SPLIT) (eqb→eq p SPLIT) h
  where
    go : (b : Bool) → (T b → p ≡ SPLIT) → T (b || eqb p HORZ) → Leads (partition_tree false true t) (cond b 1 0 ∷ []) p
    go true k h = (omega arith, sym (k tt))
    go false k h = (omega arith, sym (eqb→eq p HORZ h))
partition_leads true false t p h = go (eqb p SPLIT) (eqb→eq p SPLIT) h
  where
    go : (b : Bool) → (T b → p ≡ SPLIT) → T (b || eqb p VERT) → Leads (partition_tree true false t) (cond b 1 0 ∷ []) p
    go true k h = (omega arith, sym (k tt))
    go false k h = (omega arith, sym (eqb→eq p VERT h))
partition_leads false false t p h = sym (eqb→eq p SPLIT h)

skip_leads : (t : Table) (d : Bool) → t.count ≡ 2 → Leads (coded (whole t) (λ v. done (flag_read v))) (flag_symbol d ∷ []) d
skip_leads t true e = (omega arith, refl)
skip_leads t false e = (omega arith, refl)

segment_leads : (skip : Bool) (number last near id : ℕ) → last ≤ 7 → near ≤ last → T (skip || leb id last)
    → Leads (segment_tree skip number last near) (segment_path skip last near (segment_decided skip near id)) (segment_decided skip near id)
segment_leads true number last near id h k l = refl
segment_leads false number last near id h k l =
    let m : id ≤ last = leb→le id last l in
    let b : (deinterleaved (interleaved id near (last + 1)) near (last + 1) ≡ id) × (interleaved id near (last + 1) < last + 1) = segment_back id near (last + 1) (omega arith) (omega arith) in
    (omega (arith, b.1), go (interleaved id near (last + 1)) (leb (interleaved id near (last + 1)) last) (le→leb (interleaved id near (last + 1)) last (omega (arith, b.1))) b.0)
  where
    go : (v : ℕ) (c : Bool) → T c → deinterleaved v near (last + 1) ≡ id → Leads (cond c (done (deinterleaved v near (last + 1))) (never no.SymbolAboveLast)) [] id
    go v true t e = e
    go v false t e = absurd t

prediction_most : (s : State) (x y : ℕ) → prediction s x y ≤ s.last
unfolding prediction
prediction_most s x y = omega arith

pub leads : AcceptedLeads
leads s (of.Partition x y z) d sound ok = partition_leads (has_rows s y z) (has_columns s x z) (table_at s x y z) d (unless_true _ no.Partition ok)
leads s (of.Skip x y z) d sound ok = skip_leads (record { first = 2 * skip_context s x y; count = 2 }) d refl
leads s (of.Segment x y z skip) d sound ok =
    segment_leads skip (segment_number s x y) s.last (prediction s x y) d sound.ends (prediction_most s x y) (unless_true _ no.Segment ok)
leads s of.Alphas d sound ok = alphas_leads d (unless_true (alphas_allowed d) no.Alphas ok)
leads s (of.Vector p) d sound ok =
    vector_leads p d (unless_true (in_range d) no.VectorRange (or_else_first _ _ ok)) (unless_true (fits_precision p d) no.VectorPrecision (or_else_second (unless (in_range d) no.VectorRange) _ ok))
leads s (of.ContextUpdate x y z sub) d sound ok = refl
leads s of.RowStart d sound ok = refl

decided_again : (s : State) (q : Question) (d : Decision q) → decided s q (decided s q d) ≡ decided s q d
decided_again s (of.Segment x y z true) d = refl
decided_again s _ d = refl

allowed_again : (s : State) (q : Question) (d : Decision q) → Sound s → allowed s q d ≡ none → allowed s q (decided s q d) ≡ none
allowed_again s (of.Segment x y z true) d sound ok = refl
allowed_again s _ d sound ok = ok

-- what an accepted call gives
abbrev Said : State → Standing stage → Type 0
Said s x =
    TablesIn (λ (d : Decision x.question). Unit {0}) (tree s x.question) × Leads (tree s x.question) (path s x.question x.decision) x.decision

said : (s : State) (r : ℕ) (x : Standing stage) → Sound s → asked stage s r x.question x.decision ≡ none → decided s x.question x.decision ≡ x.decision → Said s x
said s r x sound ok e = (
  trees_in_layout s x.question (or_else_first (placed s x.question) _ ok),
  subst (λ d. Leads (tree s x.question) (path s x.question d) d) e
      (leads s x.question x.decision sound (or_else_first (allowed s x.question x.decision) _ (or_else_second (placed s x.question) _ ok))),
)

abbrev Any : (q : Question) → Decision q → Type 0
Any q d = Unit {0}

pub stage_laws : Laws stage
stage_laws =
    record {
      leads = λ s r q d sound ok. leads s q d sound (or_else_first (allowed s q d) _ (or_else_second (placed s q) _ ok));
      decided_again = decided_again;
      allowed_again = allowed_again;
      sound_next = λ s r x sound ok e.
          let w : Words = (written s.words (tree s x.question) (path s x.question x.decision)).words in
          let b : Said s x = said s r x sound ok e in
          spots_sound (with_words s w) (spots (with_words s w) x.question x.decision)
          (words_sound s w sound (written_sound (Any x.question) s.words (tree s x.question) (path s x.question x.decision) x.decision b.0 b.1 sound.tables));
      units_next = λ s x.
          let w : Words = (written s.words (tree s x.question) (path s x.question x.decision)).words in
          spots_still units spot_units (with_words s w) (spots (with_words s w) x.question x.decision);
      restores = λ s r x sound ok e.
          let w : Words = (written s.words (tree s x.question) (path s x.question x.decision)).words in
          let b : Said s x = said s r x sound ok e in
          restored (Any x.question) s (tree s x.question) (path s x.question x.decision) x.decision (spots (with_words s w) x.question x.decision) sound b.0 b.1;
      in_small = λ s r x sound ok e.
          let b : Said s x = said s r x sound ok e in
          windows_in 4 is_small InSmall own_small (Any x.question) s.words (tree s x.question) (path s x.question x.decision) x.decision b.0 b.1;
      in_large = λ s r x sound ok e.
          let b : Said s x = said s r x sound ok e in
          windows_in 16 is_large InLarge own_large (Any x.question) s.words (tree s x.question) (path s x.question x.decision) x.decision b.0 b.1;
      small_sound = back_sound;
      large_sound = back_sound;
      spot_sound = spot_sound;
      small_large = small_large;
      small_spot = window_spot;
      large_spot = window_spot;
      taken = λ s r x sound ok e.
          let w : Words = (written s.words (tree s x.question) (path s x.question x.decision)).words in
          let b : Said s x = said s r x sound ok e in
          let ps : List Spot = spots (with_words s w) x.question x.decision in
          all_taken (put_spots (with_words s w) ps) (small_of s.words (tree s x.question) (path s x.question x.decision)) (large_of s.words (tree s x.question) (path s x.question x.decision)) w
          (spots_still (λ (z : State). z.words) spot_words (with_words s w) ps)
          (words_back (Any x.question) s.words (tree s x.question) (path s x.question x.decision) x.decision sound.tables b.0 b.1).taken;
      takes_small_large = λ s a b sound h k. small_still_words s.words a b sound.tables h k;
      takes_large_small = λ s a b sound h k. large_still_words s.words a b sound.tables h k;
      takes_small_spot = takes_spot;
      takes_large_spot = takes_spot;
    }

pub stage_none_passed : NonePassed stage
stage_none_passed = none_passed stage stage_laws

pub stage_no_trace : NoTrace stage
stage_no_trace = no_trace stage stage_laws

pub stage_reads_record : ReadsRecord stage
stage_reads_record = reads_record stage stage_laws

pub stage_tells_apart : TellsRunsApart stage
stage_tells_apart = tells_runs_apart stage stage_laws
