-- A decision is its symbols and then its spots.
use Rattle.std.proofs.Common.{◌≡◌, ℕ, Bool, true, false, List, [], ◌∷◌, ◌++◌, sym, refl, ap, ◌∙◌}
use Rattle.std.proofs.lemmas.List.{append_assoc, append-nil}
use Rattle.cdf.specs.declared.entry.Entry.{Entry}
use Rattle.journal.specs.declared.Window.{Window}
use Rattle.journal.specs.declared.Spot.{Spot}
use Rattle.journal.specs.declared.Mark.{Mark}
use Rattle.cdf.specs.Words.{Words}
use Rattle.model.specs.Calls.{BySteps, StepsThen, log_if, window_log, spot_step, spot_steps, symbol_step, symbol_steps}
use Rattle.model.specs.Coders.{Coder, after, edge, entry_of, whole}
use Rattle.model.specs.Decisions.{Decision, State, add_if, decided, is_large, is_small, large_of, old_spot, old_spots, path, put_spot, put_spots, small_of, spots, stage, tree, window_at, windows_of, with_words}
use Rattle.model.specs.Runs.{Core, Lane, World, ask, done_call}
use Rattle.model.specs.Tree.{Syntax, coded, done, read_by, written}

log_on : {R : Type 0} (ms : List Mark) (l : Lane R) (b : Bool) (r : R) (rs : List R) → log_if ms (log_if ms l (add_if b r [])) rs ≡ log_if ms l (add_if b r rs)
log_on [] l b r rs = refl
log_on (m ∷ ms) l true r rs = refl
log_on (m ∷ ms) l false r rs = refl

log_none : {R : Type 0} (ms : List Mark) (l : Lane R) → log_if ms l [] ≡ l
log_none [] l = refl
log_none (m ∷ ms) l = refl

-- the window of a symbol, and those of the symbols behind it
log_step : {D : Type 0} (n : ℕ) (taken : ℕ → Bool) (ms : List Mark) (l : Lane (Window n)) (w : Words) (k : Coder) (f : ℕ → Syntax D) (s : ℕ) (p : List ℕ)
    → log_if ms (log_if ms l (window_log n taken k w)) (windows_of n taken (after w k s) (f s) p) ≡ log_if ms l (windows_of n taken w (coded k f) (s ∷ p))
log_step n taken ms l w (whole t) f s p = log_on ms l (taken t.count) (window_at n w t.first) (windows_of n taken (after w (whole t) s) (f s) p)
log_step n taken ms l w (edge t ss) f s p = ap (λ m. log_if ms m (windows_of n taken w (f s) p)) (log_none ms l)

-- the world after the symbols of a path
abbrev coded_world : World stage → Words → List Entry → List (Window 4) → List (Window 16) → World stage
coded_world w ws es as' bs =
    record {
      core = record { state = with_words w.core.state ws; entries = w.core.entries ++ es };
      small = log_if w.marks w.small as';
      large = log_if w.marks w.large bs;
      spots = w.spots;
      marks = w.marks;
    }

world_path : (w : World stage) (ws : Words) (es es' : List Entry) (a a' : Lane (Window 4)) (b b' : Lane (Window 16)) → es ≡ es' → a ≡ a' → b ≡ b'
    → ◌≡◌ {A = World stage} (record { core = record { state = with_words w.core.state ws; entries = es }; small = a; large = b; spots = w.spots; marks = w.marks })
    (record { core = record { state = with_words w.core.state ws; entries = es' }; small = a'; large = b'; spots = w.spots; marks = w.marks })
world_path w ws es es' a a' b b' p q r =
    λ i. record { core = record { state = with_words w.core.state ws; entries = p i }; small = q i; large = r i; spots = w.spots; marks = w.marks }

none_world : (w : World stage) → w ≡ coded_world w w.core.state.words [] [] []
none_world w =
    world_path w w.core.state.words w.core.entries (w.core.entries ++ []) w.small (log_if w.marks w.small []) w.large (log_if w.marks w.large [])
    (sym (append-nil w.core.entries)) (sym (log_none w.marks w.small)) (sym (log_none w.marks w.large))

steps_world : (D : Type 0) (t : Syntax D) (p : List ℕ) (w : World stage)
    → symbol_steps t p w ≡ coded_world w (written w.core.state.words t p).words (written w.core.state.words t p).entries (small_of w.core.state.words t p) (large_of w.core.state.words t p)
steps_world D (coded k f) (s ∷ p) w =
    let v : Words = w.core.state.words in
    let u : Words = after v k s in
    let es : List Entry = (written u (f s) p).entries in
    steps_world D (f s) p (symbol_step k s w)
    ∙ world_path w (written u (f s) p).words ((w.core.entries ++ entry_of v k s ∷ []) ++ es) (w.core.entries ++ entry_of v k s ∷ es) _ _ _ _
    (append_assoc w.core.entries (entry_of v k s ∷ []) es) (log_step 4 is_small w.marks w.small v k f s p) (log_step 16 is_large w.marks w.large v k f s p)
steps_world D _ p w = none_world w

-- symbols change the words of a state alone
pub symbols_state : (D : Type 0) (t : Syntax D) (p : List ℕ) (w : World stage) → (symbol_steps t p w).core.state ≡ with_words w.core.state (written w.core.state.words t p).words
symbols_state D t p w = ap (λ (v : World stage). v.core.state) (steps_world D t p w)

-- the world after spots
abbrev set_world : World stage → List Spot → World stage
set_world w ps =
    record {
      core = record { state = put_spots w.core.state ps; entries = w.core.entries };
      small = w.small;
      large = w.large;
      spots = log_if w.marks w.spots (old_spots w.core.state ps);
      marks = w.marks;
    }

lane_path : (w : World stage) (c : Core stage) (a b : Lane Spot) → a ≡ b
    → ◌≡◌ {A = World stage} (record { core = c; small = w.small; large = w.large; spots = a; marks = w.marks }) (record { core = c; small = w.small; large = w.large; spots = b; marks = w.marks })
lane_path w c a b p = λ i. record { core = c; small = w.small; large = w.large; spots = p i; marks = w.marks }

spots_world : (ps : List Spot) (w : World stage) → spot_steps ps w ≡ set_world w ps
spots_world [] w = lane_path w w.core w.spots (log_if w.marks w.spots []) (sym (log_none w.marks w.spots))
spots_world (p ∷ ps) w =
    spots_world ps (spot_step p w)
    ∙ lane_path w (record { state = put_spots (put_spot w.core.state p) ps; entries = w.core.entries })
    (log_if w.marks (log_if w.marks w.spots (old_spot w.core.state p ∷ [])) (old_spots (put_spot w.core.state p) ps))
    (log_if w.marks w.spots (old_spots w.core.state (p ∷ ps)))
    (log_on w.marks w.spots true (old_spot w.core.state p) (old_spots (put_spot w.core.state p) ps))

abbrev stood_world : Core stage → Lane (Window 4) → Lane (Window 16) → Lane Spot → List Mark → World stage
stood_world c a b l ms = record { core = c; small = a; large = b; spots = l; marks = ms }

pub by_steps : BySteps
by_steps w q given = go w.marks
  where
    s : State
    s = w.core.state

    d : Decision q
    d = decided s q given

    ps : List Spot
    ps = spots (with_words s (written s.words (tree s q) (path s q d)).words) q d

    go : (ms : List Mark)
        → done_call stage (stood_world w.core w.small w.large w.spots ms) (ask q given)
        ≡ spot_steps ps (symbol_steps (tree s q) (path s q d) (stood_world w.core w.small w.large w.spots ms))
    go ms =
        same ms
        ∙ sym (ap (spot_steps ps) (steps_world (Decision q) (tree s q) (path s q d) (stood_world w.core w.small w.large w.spots ms))
        ∙ spots_world ps (coded_world (stood_world w.core w.small w.large w.spots ms) (written s.words (tree s q) (path s q d)).words (written s.words (tree s q) (path s q d)).entries (small_of s.words (tree s q) (path s q d)) (large_of s.words (tree s q) (path s q d))))
      where
        same : (ms : List Mark)
            → done_call stage (stood_world w.core w.small w.large w.spots ms) (ask q given)
            ≡ set_world (coded_world (stood_world w.core w.small w.large w.spots ms) (written s.words (tree s q) (path s q d)).words (written s.words (tree s q) (path s q d)).entries (small_of s.words (tree s q) (path s q d)) (large_of s.words (tree s q) (path s q d))) ps
        same [] = refl
        same (m ∷ ms) = refl

pub steps_then : (A B : Type 0) → StepsThen A B
steps_then A B (done c) g [] q a w h = ap (λ x. symbol_steps (g x) q w) h
steps_then A B (coded k f) g (s ∷ p) q a w h = steps_then A B (f s) g p q a (symbol_step k s w) h.1
steps_then A B _ g p q a w h = absurd h

-- what is made of a syntax's decision takes no symbol
pub steps_by : {A B : Type 0} (t : Syntax A) (g : A → B) (p : List ℕ) (w : World stage) → symbol_steps (read_by g t) p w ≡ symbol_steps t p w
steps_by (coded k f) g (s ∷ p) w = steps_by (f s) g p (symbol_step k s w)
steps_by _ g p w = refl
