-- Trials leave no trace: the invariant of a run, and that every call keeps it.
use Rattle.std.proofs.Common.{◌≡◌, ℕ, ◌+◌, ◌≤◌, Bool, true, false, ◌&&◌, T, leb, List, [], ◌∷◌, ◌++◌, map, length, take, sym, refl, ap, ◌∙◌, subst, subst₂, arith, le→leb, leb→le}
use mathlib.Core.Path.{subst₃}
use mathlib.Core.Option.{Option, none, some, none-ne-some}
use lib.Seq.{take-length}
use Rattle.std.proofs.lemmas.List.{length-take, length-take-le, length-append, take-take, take_all, drop_all, take-append-le, drop-append-le}
use Rattle.cdf.specs.declared.entry.Entry.{Entry}
use Rattle.av1.specs.declared.refusal.Refusal.{Refusal}
use Rattle.av1.specs.declared.refusal.Refusal.TheVariants as no
use Rattle.journal.specs.declared.Mark.{Mark}
use Rattle.cdf.proofs.Booleans.{and_first, and_second}
use Rattle.cdf.specs.Lists.{Each}
use Rattle.model.proofs.Trails.{drop_between, take_between, each_any, each_append, each_drop, each_take, in_use_logged, memory_logged, taken_append, taken_back, taken_on, unwound_append, unwound_cross, unwound_sound, used_logged}
use Rattle.model.specs.Runs.{Accepted, AllTaken, Asking, Book, Core, Lane, Laws, Lent, NoTrace, NonePassed, Ran, Standing, Taken, TrailOf, World, above, answered, as_call, ask, asked, back_to, below, done_call, empty_book, fresh, has_room, in_use, keep, lanes_hold, logged, map_asked, map_asked_if, moment, next_state, noted, open_questions, open_trial, or_else, refusal, run, sent, step, take_back, told, trail_of, undone, undone_state, unless, unused, unwound, worked}
use Rattle.model.specs.Subject.{Subject, Trail}

pub or_else_first : (a b : Option Refusal) → or_else a b ≡ none → a ≡ none
or_else_first none b h = refl
or_else_first (some n) b h = h

pub or_else_second : (a b : Option Refusal) → or_else a b ≡ none → b ≡ none
or_else_second none b h = h
or_else_second (some n) b h = absurd (none-ne-some n (sym h))

pub or_else_both : (a b : Option Refusal) → a ≡ none → b ≡ none → or_else a b ≡ none
or_else_both a b h k = ap (λ x. or_else x b) h ∙ k

pub unless_true : (b : Bool) (n : Refusal) → unless b n ≡ none → T b
unless_true true n h = tt
unless_true false n h = absurd (none-ne-some n (sym h))

pub unless_none : (b : Bool) (n : Refusal) → T b → unless b n ≡ none
unless_none true n h = refl
unless_none false n h = absurd h

trail_path : {A B C : Type 0} {a a' : List A} {b b' : List B} {c c' : List C} → a ≡ a' → b ≡ b' → c ≡ c'
    → ◌≡◌ {A = Trail A B C} (record { small = a; large = b; spots = c }) (record { small = a'; large = b'; spots = c' })
trail_path p q r = λ i. record { small = p i; large = q i; spots = r i }

module _ (S : Subject) (L : Laws S) where
  abbrev joined : TrailOf S → TrailOf S → TrailOf S
  joined t u = record { small = t.small ++ u.small; large = t.large ++ u.large; spots = t.spots ++ u.spots }

  -- the windows lie in their lanes' parts of the words
  abbrev Own : TrailOf S → Type 0
  Own t = Each S.InSmall t.small × Each S.InLarge t.large

  -- records of two lanes pass each other
  large_past_small : (s : S.State) (as' : List S.Small) (bs : List S.Large) → S.Sound s → Each S.InSmall as' → Each S.InLarge bs
      → unwound S.put_large (unwound S.put_small s as') bs ≡ unwound S.put_small (unwound S.put_large s bs) as'
  large_past_small s as' bs = unwound_cross S.Sound S.InSmall S.InLarge S.put_small S.put_large L.small_sound L.large_sound L.small_large s bs as'

  spot_past_small : (s : S.State) (as' : List S.Small) (cs : List S.Spot) → S.Sound s → unwound S.put_spot (unwound S.put_small s as') cs ≡ unwound S.put_small (unwound S.put_spot s cs) as'
  spot_past_small s as' cs sound =
      unwound_cross S.Sound (λ a. Unit {0}) (λ c. Unit {0}) S.put_small S.put_spot L.small_sound L.spot_sound (λ s a c h i j. L.small_spot s a c) s cs as' sound (each_any as') (each_any cs)

  spot_past_large : (s : S.State) (bs : List S.Large) (cs : List S.Spot) → S.Sound s → unwound S.put_spot (unwound S.put_large s bs) cs ≡ unwound S.put_large (unwound S.put_spot s cs) bs
  spot_past_large s bs cs sound =
      unwound_cross S.Sound (λ b. Unit {0}) (λ c. Unit {0}) S.put_large S.put_spot L.large_sound L.spot_sound (λ s b c h i j. L.large_spot s b c) s cs bs sound (each_any bs) (each_any cs)

  smalls_sound : (s : S.State) (as' : List S.Small) → S.Sound s → S.Sound (unwound S.put_small s as')
  smalls_sound s as' = unwound_sound S.Sound S.put_small L.small_sound s as'

  larges_sound : (s : S.State) (bs : List S.Large) → S.Sound s → S.Sound (unwound S.put_large s bs)
  larges_sound s bs = unwound_sound S.Sound S.put_large L.large_sound s bs

  unwound_joined : (s : S.State) (t u : TrailOf S) → S.Sound s → Own t → Own u → undone_state S s (joined t u) ≡ undone_state S (undone_state S s u) t
  unwound_joined s t u sound own own' =
      unwound_append C (unwound B (unwound A s (t.small ++ u.small)) (t.large ++ u.large)) t.spots u.spots
      ∙ ap (λ z. unwound C (unwound C z u.spots) t.spots) (unwound_append B (unwound A s (t.small ++ u.small)) t.large u.large)
      ∙ ap (λ z. unwound C (unwound C (unwound B (unwound B z u.large) t.large) u.spots) t.spots) (unwound_append A s t.small u.small)
      ∙ ap (λ z. unwound C (unwound C (unwound B z t.large) u.spots) t.spots) (large_past_small y t.small u.large y_sound own.0 own'.1)
      ∙ ap (λ z. unwound C z t.spots) (spot_past_large (unwound A z t.small) t.large u.spots (smalls_sound z t.small z_sound))
      ∙ ap (λ z. unwound C (unwound B z t.large) t.spots) (spot_past_small z t.small u.spots z_sound)
    where
      A : S.State → S.Small → S.State
      A = S.put_small

      B : S.State → S.Large → S.State
      B = S.put_large

      C : S.State → S.Spot → S.State
      C = S.put_spot

      y : S.State
      y = unwound A s u.small

      y_sound : S.Sound y
      y_sound = smalls_sound s u.small sound

      z : S.State
      z = unwound B y u.large

      z_sound : S.Sound z
      z_sound = larges_sound y u.large y_sound

  -- nothing is passed over in two trails one after the other
  taken_joined : (s : S.State) (t u : TrailOf S) → S.Sound s → Own t → Own u → AllTaken S s u → AllTaken S (undone_state S s u) t → AllTaken S s (joined t u)
  taken_joined s t u sound own own' h k = (
    taken_append S.takes_small A s t.small u.small first h.0,
    subst (λ z. Taken S.takes_large B z (t.large ++ u.large)) (sym (unwound_append A s t.small u.small))
        (taken_append S.takes_large B (unwound A y t.small) t.large u.large second
        (taken_on S.Sound S.InLarge S.InSmall S.takes_large B A L.large_sound L.small_sound (λ s b a h p o. sym (L.small_large s a b h o p)) (λ s b a h p o. L.takes_large_small s a b h o p)
        y t.small u.large y_sound own.0 own'.1 h.1)),
  )
    where
      A : S.State → S.Small → S.State
      A = S.put_small

      B : S.State → S.Large → S.State
      B = S.put_large

      C : S.State → S.Spot → S.State
      C = S.put_spot

      y : S.State
      y = unwound A s u.small

      y_sound : S.Sound y
      y_sound = smalls_sound s u.small sound

      z : S.State
      z = unwound B y u.large

      z_sound : S.Sound z
      z_sound = larges_sound y u.large y_sound

      first : Taken S.takes_small A y t.small
      first =
          taken_back S.Sound S.InSmall S.InLarge S.takes_small A B L.small_sound L.large_sound L.small_large L.takes_small_large y u.large t.small y_sound own'.1 own.0
          (taken_back S.Sound (λ a. Unit {0}) (λ c. Unit {0}) S.takes_small A C L.small_sound L.spot_sound (λ s a c h p o. L.small_spot s a c) (λ s a c h p o. L.takes_small_spot s a c)
          z u.spots t.small z_sound (each_any u.spots) (each_any t.small) k.0)

      second : Taken S.takes_large B (unwound B (unwound A y t.small) u.large) t.large
      second =
          subst (λ v. Taken S.takes_large B v t.large) (sym (large_past_small y t.small u.large y_sound own.0 own'.1))
          (taken_back S.Sound (λ b. Unit {0}) (λ c. Unit {0}) S.takes_large B C L.large_sound L.spot_sound (λ s b c h p o. L.large_spot s b c) (λ s b c h p o. L.takes_large_spot s b c)
          (unwound A z t.small) u.spots t.large (smalls_sound z t.small z_sound) (each_any u.spots) (each_any t.large)
          (subst (λ v. Taken S.takes_large B v t.large) (sym (spot_past_small z t.small u.spots z_sound)) k.1))

  own_above : (t : TrailOf S) (m : Mark) → Own t → Own (above S t m)
  own_above t m h = (each_drop S.InSmall m.used.small t.small h.0, each_drop S.InLarge m.used.large t.large h.1)

  own_below : (t : TrailOf S) (m : Mark) → Own t → Own (below S t m)
  own_below t m h = (each_take S.InSmall m.used.small t.small h.0, each_take S.InLarge m.used.large t.large h.1)

  -- the mark lies within the records
  abbrev Within : TrailOf S → Mark → Type 0
  Within t m = (m.used.small ≤ length t.small) × (m.used.large ≤ length t.large) × (m.used.spots ≤ length t.spots)

  core_path : {s s' : S.State} {es es' : List Entry} → s ≡ s' → es ≡ es' → ◌≡◌ {A = Core S} (record { state = s; entries = es }) (record { state = s'; entries = es' })
  core_path p q = λ i. record { state = p i; entries = q i }

  above_joined : (t u : TrailOf S) (m : Mark) → Within t m → above S (joined t u) m ≡ joined (above S t m) u
  above_joined t u m h =
      trail_path (drop-append-le m.used.small t.small u.small h.0) (drop-append-le m.used.large t.large u.large h.1)
      (drop-append-le m.used.spots t.spots u.spots h.2)

  below_joined : (t u : TrailOf S) (m : Mark) → Within t m → below S (joined t u) m ≡ below S t m
  below_joined t u m h =
      trail_path (take-append-le m.used.small t.small u.small h.0) (take-append-le m.used.large t.large u.large h.1)
      (take-append-le m.used.spots t.spots u.spots h.2)

  abbrev trail_at : Core S → Standing S → TrailOf S
  trail_at c x = S.trail c.state x.question x.decision

  -- the call is accepted at this room, and decides what it says
  abbrev pub FineAt : S.State → ℕ → Standing S → Type 0
  FineAt s r x = (asked S s r x.question x.decision ≡ none) × (S.decided s x.question x.decision ≡ x.decision)

  own_trail : (s : S.State) (r : ℕ) (x : Standing S) → S.Sound s → FineAt s r x → Own (S.trail s x.question x.decision)
  own_trail s r x sound f = (L.in_small s r x sound f.0 f.1, L.in_large s r x sound f.0 f.1)

  undone_worked : (c : Core S) (t : TrailOf S) (m : Mark) (x : Standing S) (r : ℕ) → Own t → Within t m → m.entries ≤ length c.entries
      → S.Sound c.state → FineAt c.state r x → undone S (worked S c x) (joined t (trail_at c x)) m ≡ undone S c t m
  undone_worked c t m x r own h e sound ok =
      core_path
      (ap (undone_state S (next_state S c.state x)) (above_joined t (trail_at c x) m h)
      ∙ unwound_joined (next_state S c.state x) (above S t m) (trail_at c x) (L.sound_next c.state r x sound ok.0 ok.1) (own_above t m own) (own_trail c.state r x sound ok)
      ∙ ap (λ z. undone_state S z (above S t m)) (L.restores c.state r x sound ok.0 ok.1))
      (take-append-le m.entries c.entries (sent S c.state x.question x.decision).entries e)

  -- nothing lies above the mark
  abbrev Beyond : Core S → TrailOf S → Mark → Type 0
  Beyond c t m = (length t.small ≤ m.used.small) × (length t.large ≤ m.used.large) × (length t.spots ≤ m.used.spots) × (length c.entries ≤ m.entries)

  undone_all : (c : Core S) (t : TrailOf S) (m : Mark) → Beyond c t m → undone S c t m ≡ c
  undone_all c t m h =
      core_path
      (ap (undone_state S c.state) (trail_path (drop_all m.used.small t.small h.0) (drop_all m.used.large t.large h.1) (drop_all m.used.spots t.spots h.2)))
      (take_all m.entries c.entries h.3)

  below_all : (c : Core S) (t : TrailOf S) (m : Mark) → Beyond c t m → below S t m ≡ t
  below_all c t m h = trail_path (take_all m.used.small t.small h.0) (take_all m.used.large t.large h.1) (take_all m.used.spots t.spots h.2)

  module _ (memory : ℕ) (room : List Entry → ℕ) where
    abbrev pub Fine : Core S → Standing S → Type 0
    Fine c x = FineAt c.state (room c.entries) x

    -- the calls, one after the other, lead from one core to another
    abbrev pub Reached : Core S → List (Standing S) → Core S → Type 0
    Reached c [] e = c ≡ e
    Reached c (x ∷ xs) e = Fine c x × Reached (worked S c x) xs e

    reached_more : (c : Core S) (xs : List (Standing S)) (e : Core S) (x : Standing S) → Reached c xs e → Fine e x → Reached c (xs ++ x ∷ []) (worked S e x)
    reached_more c [] e x p f = (subst (λ z. Fine z x) (sym p) f, ap (λ z. worked S z x) p)
    reached_more c (y ∷ xs) e x p f = (p.0, reached_more (worked S c y) xs e x p.1 f)

    pub reached_sound : (c : Core S) (xs : List (Standing S)) (e : Core S) → S.Sound c.state → Reached c xs e → S.Sound e.state
    reached_sound c [] e sound p = subst (λ z. S.Sound z.state) p sound
    reached_sound c (x ∷ xs) e sound p =
        reached_sound (worked S c x) xs e (L.sound_next c.state (room c.entries) x sound p.0.0 p.0.1) p.1

    -- each open mark, undone to, gives the core of the standing calls of its number
    abbrev Good : Core S → Core S → TrailOf S → List (Standing S) → List Mark → List ℕ → Type 0
    Good o c t xs [] [] = Unit {0}
    Good o c t xs [] (n ∷ ns) = ⊥
    Good o c t xs (m ∷ ms) [] = ⊥
    Good o c t xs (m ∷ ms) (n ∷ ns) =
        (n ≤ length xs) × Within t m × (m.entries ≤ length c.entries) × Reached o (take n xs) (undone S c t m)
        × Good o (undone S c t m) (below S t m) (take n xs) ms ns × AllTaken S c.state (above S t m)

    good_none : (o c c' : Core S) (t t' : TrailOf S) (xs xs' : List (Standing S)) (ns : List ℕ) → Good o c t xs [] ns → Good o c' t' xs' [] ns
    good_none o c c' t t' xs xs' [] g = tt
    good_none o c c' t t' xs xs' (n ∷ ns) g = g

    longer : {A : Type 0} (n : ℕ) (xs ys : List A) → n ≤ length xs → n ≤ length (xs ++ ys)
    longer n xs ys h = omega (arith, length-append xs ys)

    good_worked : (o c : Core S) (t : TrailOf S) (xs : List (Standing S)) (ms : List Mark) (ns : List ℕ) (x : Standing S) → Own t → S.Sound c.state → Fine c x
        → Good o c t xs ms ns → Good o (worked S c x) (joined t (trail_at c x)) (xs ++ x ∷ []) ms ns
    good_worked o c t xs [] [] x own sound ok g = tt
    good_worked o c t xs [] (n ∷ ns) x own sound ok g = g
    good_worked o c t xs (m ∷ ms) [] x own sound ok g = g
    good_worked o c t xs (m ∷ ms) (n ∷ ns) x own sound ok g =
        let same_core : undone S (worked S c x) (joined t (trail_at c x)) m ≡ undone S c t m = undone_worked c t m x (room c.entries) own g.1 g.2 sound ok in
        let same_calls : take n (xs ++ x ∷ []) ≡ take n xs = take-append-le n xs (x ∷ []) g.0 in (
          longer n xs (x ∷ []) g.0,
          (
            longer m.used.small t.small (trail_at c x).small g.1.0,
            longer m.used.large t.large (trail_at c x).large g.1.1,
            longer m.used.spots t.spots (trail_at c x).spots g.1.2,
          ),
          longer m.entries c.entries (sent S c.state x.question x.decision).entries g.2,
          subst₂ (Reached o) (sym same_calls) (sym same_core) g.3,
          subst₃ (λ c t xs. Good o c t xs ms ns) (sym same_core) (sym (below_joined t (trail_at c x) m g.1)) (sym same_calls) g.4,
          subst (AllTaken S (next_state S c.state x)) (sym (above_joined t (trail_at c x) m g.1))
              (taken_joined (next_state S c.state x) (above S t m) (trail_at c x) (L.sound_next c.state (room c.entries) x sound ok.0 ok.1) (own_above t m own) (own_trail c.state (room c.entries) x sound ok)
              (L.taken c.state (room c.entries) x sound ok.0 ok.1)
              (subst (λ z. AllTaken S z (above S t m)) (sym (L.restores c.state (room c.entries) x sound ok.0 ok.1)) g.5)),
        )

    none_above : (c : Core S) (t : TrailOf S) (m : Mark) → Beyond c t m → AllTaken S c.state (above S t m)
    none_above c t m h =
        subst (AllTaken S c.state) (sym (trail_path (drop_all m.used.small t.small h.0) (drop_all m.used.large t.large h.1) (drop_all m.used.spots t.spots h.2))) (tt, tt)

    good_opened : (o c : Core S) (t : TrailOf S) (xs : List (Standing S)) (ms : List Mark) (ns : List ℕ) (m : Mark) → Within t m → Beyond c t m → m.entries ≤ length c.entries
        → Reached o xs c → Good o c t xs ms ns → Good o c t xs (m ∷ ms) (length xs ∷ ns)
    good_opened o c t xs ms ns m h k e r g = (
      omega arith,
      h,
      e,
      subst₂ (Reached o) (sym (take-length xs)) (sym (undone_all c t m k)) r,
      subst₃ (λ c t xs. Good o c t xs ms ns) (sym (undone_all c t m k)) (sym (below_all c t m k)) (sym (take-length xs)) g,
      none_above c t m k,
    )

    at_most : {A : Type 0} (n : ℕ) (xs : List A) → length (take n xs) ≤ n
    at_most n xs = omega (arith, length-take n xs)

    at_least : {A : Type 0} (n : ℕ) (xs : List A) → n ≤ length xs → n ≤ length (take n xs)
    at_least n xs h = omega (arith, length-take n xs)

    good_back : (o c : Core S) (t : TrailOf S) (xs : List (Standing S)) (m : Mark) (ms : List Mark) (n : ℕ) (ns : List ℕ)
        → Good o c t xs (m ∷ ms) (n ∷ ns) → Good o (undone S c t m) (below S t m) (take n xs) (m ∷ ms) (n ∷ ns)
    good_back o c t xs m ms n ns g =
        let k : Beyond (undone S c t m) (below S t m) m =
        (at_most m.used.small t.small, at_most m.used.large t.large, at_most m.used.spots t.spots, at_most m.entries c.entries) in
        let same_core : undone S (undone S c t m) (below S t m) m ≡ undone S c t m = undone_all (undone S c t m) (below S t m) m k in
        let same_calls : take n (take n xs) ≡ take n xs = take-take n n xs (omega arith) in (
          at_least n xs g.0,
          (
            at_least m.used.small t.small g.1.0,
            at_least m.used.large t.large g.1.1,
            at_least m.used.spots t.spots g.1.2,
          ),
          at_least m.entries c.entries g.2,
          subst₂ (Reached o) (sym same_calls) (sym same_core) g.3,
          subst₃ (λ c t xs. Good o c t xs ms ns) (sym same_core) (sym (below_all (undone S c t m) (below S t m) m k)) (sym same_calls) g.4,
          none_above (undone S c t m) (below S t m) m k,
        )

    above_twice : (t : TrailOf S) (m n : Mark) → Within (below S t m) n → above S t n ≡ joined (above S (below S t m) n) (above S t m)
    above_twice t m n k =
        trail_path (drop_between n.used.small m.used.small t.small k.0) (drop_between n.used.large m.used.large t.large k.1) (drop_between n.used.spots m.used.spots t.spots k.2)

    below_twice : (t : TrailOf S) (m n : Mark) → Within (below S t m) n → below S (below S t m) n ≡ below S t n
    below_twice t m n k =
        trail_path (take_between n.used.small m.used.small t.small k.0) (take_between n.used.large m.used.large t.large k.1) (take_between n.used.spots m.used.spots t.spots k.2)

    undone_twice : (c : Core S) (t : TrailOf S) (m n : Mark) → S.Sound c.state → Own t → Within (below S t m) n → n.entries ≤ length (take m.entries c.entries)
        → undone S (undone S c t m) (below S t m) n ≡ undone S c t n
    undone_twice c t m n sound own k e =
        core_path
        (sym (unwound_joined c.state (above S (below S t m) n) (above S t m) sound (own_above (below S t m) n (own_below t m own)) (own_above t m own))
        ∙ ap (undone_state S c.state) (sym (above_twice t m n k)))
        (take_between n.entries m.entries c.entries e)

    within_wider : {A : Type 0} (n m : ℕ) (l : List A) → n ≤ length (take m l) → n ≤ length l
    within_wider n m l h = omega (arith, length-take m l)

    good_kept : (o c : Core S) (t : TrailOf S) (xs : List (Standing S)) (m m' : Mark) (ms : List Mark) (n n' : ℕ) (ns : List ℕ)
        → S.Sound c.state → Own t → Good o c t xs (m ∷ m' ∷ ms) (n ∷ n' ∷ ns) → Good o c t xs (m' ∷ ms) (n' ∷ ns)
    good_kept o c t xs m m' ms n n' ns sound own g =
        let inner : Good o (undone S c t m) (below S t m) (take n xs) (m' ∷ ms) (n' ∷ ns) = g.4 in
        let same_core : undone S (undone S c t m) (below S t m) m' ≡ undone S c t m' = undone_twice c t m m' sound own inner.1 inner.2 in
        let same_calls : take n' (take n xs) ≡ take n' xs = take_between n' n xs g.4.0 in (
          within_wider n' n xs inner.0,
          (
            within_wider m'.used.small m.used.small t.small inner.1.0,
            within_wider m'.used.large m.used.large t.large inner.1.1,
            within_wider m'.used.spots m.used.spots t.spots inner.1.2,
          ),
          within_wider m'.entries m.entries c.entries inner.2,
          subst₂ (Reached o) same_calls same_core inner.3,
          subst₃ (λ c t xs. Good o c t xs ms ns) same_core (below_twice t m m' inner.1) same_calls inner.4,
          subst (AllTaken S c.state) (sym (above_twice t m m' inner.1))
              (taken_joined c.state (above S (below S t m) m') (above S t m) sound (own_above (below S t m) m' (own_below t m own)) (own_above t m own) g.5 inner.5),
        )

    -- lanes: the records in use lie in the memory
    abbrev LaidLane : {R : Type 0} → Lane R → Type 0
    LaidLane l = l.used ≤ length l.memory

    abbrev Laid : World S → Type 0
    Laid w = LaidLane w.small × LaidLane w.large × LaidLane w.spots

    record Inv (o : Core S) (w : World S) (b : Book S.Question S.Decision) : Type 0 where
      reached : Reached o b.standing w.core
      good : Good o w.core (trail_of S w) b.standing w.marks b.numbers
      laid : Laid w
      own : Own (trail_of S w)

    lane_laid : {R : Type 0} (l : Lane R) (rs : List R) → T (has_room l rs) → LaidLane (logged l rs)
    lane_laid l rs h =
        let k : l.used + length rs ≤ length l.memory = leb→le (l.used + length rs) (length l.memory) h in
        rw (used_logged, memory_logged) k

    lane_used : {R : Type 0} (l : Lane R) (rs : List R) → T (has_room l rs) → in_use (logged l rs) ≡ in_use l ++ rs
    lane_used l rs h = in_use_logged rs l (leb→le (l.used + length rs) (length l.memory) h)

    lane_back : {R : Type 0} (l : Lane R) (n : ℕ) → n ≤ length (in_use l) → in_use (back_to l n) ≡ take n (in_use l)
    lane_back l n h = sym (take_between n l.used l.memory h)

    lane_back_laid : {R : Type 0} (l : Lane R) (n : ℕ) → n ≤ length (in_use l) → LaidLane (back_to l n)
    lane_back_laid l n h = within_wider n l.used l.memory h

    abbrev stage : Core S → Lane S.Small → Lane S.Large → Lane S.Spot → List Mark → World S
    stage c x y z ms = record { core = c; small = x; large = y; spots = z; marks = ms }

    abbrev written_down : List (Standing S) → List ℕ → Book S.Question S.Decision
    written_down xs ns = record { standing = xs; numbers = ns }

    abbrev Kept : Core S → World S → Book S.Question S.Decision → Asking S → Type 0
    Kept o w b c = Inv o (done_call S w c) (noted b c (told S w c))

    abbrev decided_call : Core S → (q : S.Question) → S.Decision q → Standing S
    decided_call c q d = record { question = q; decision = S.decided c.state q d }

    decided_fine : (c : Core S) (q : S.Question) (d : S.Decision q) → S.Sound c.state → asked S c.state (room c.entries) q d ≡ none → Fine c (decided_call c q d)
    decided_fine c q d sound ok =
        let s : S.State = c.state in
        let e : S.Decision q = S.decided s q d in
        let again : S.decided s q e ≡ e = L.decided_again s q d in
        let full : unless (leb (length (S.path s q e)) (room c.entries)) no.Room ≡ none =
        or_else_second (S.allowed s q d) _ (or_else_second (S.placed s q) _ ok) in (
          or_else_both (S.placed s q) _ (or_else_first (S.placed s q) _ ok)
              (or_else_both (S.allowed s q e) _ (L.allowed_again s q d sound (or_else_first (S.allowed s q d) _ (or_else_second (S.placed s q) _ ok)))
              (ap (λ z. unless (leb (length (S.path s q z)) (room c.entries)) no.Room) again ∙ full)),
          again,
        )

    asked_kept : (o c : Core S) (x : Lane S.Small) (y : Lane S.Large) (z : Lane S.Spot) (ms : List Mark) (b : Book S.Question S.Decision) (q : S.Question) (d : S.Decision q)
        → S.Sound c.state → Inv o (stage c x y z ms) b → refusal S memory room (stage c x y z ms) (ask q d) ≡ none → Kept o (stage c x y z ms) b (ask q d)
    asked_kept o c x y z [] b q d sound i ok =
        let f : Fine c (decided_call c q d) = decided_fine c q d sound (or_else_first _ none (or_else_second (map_asked_if S (S.brings_map q) memory c.state) _ ok)) in
        record {
          reached = reached_more o b.standing c (decided_call c q d) i.reached f;
          good = good_none o c (worked S c (decided_call c q d)) (trail_of S (stage c x y z [])) (trail_of S (stage c x y z [])) b.standing (b.standing ++ decided_call c q d ∷ []) b.numbers i.good;
          laid = i.laid;
          own = i.own;
        }
    asked_kept o c x y z (m ∷ ms) b q d sound i ok =
        let call : Standing S = decided_call c q d in
        let u : TrailOf S = trail_at c call in
        let ok' : or_else (asked S c.state (room c.entries) q d) (open_questions S (stage c x y z (m ∷ ms)) q call.decision (m ∷ ms)) ≡ none =
        or_else_second (map_asked_if S (S.brings_map q) memory c.state) _ ok in
        let f : Fine c call = decided_fine c q d sound (or_else_first _ (open_questions S (stage c x y z (m ∷ ms)) q call.decision (m ∷ ms)) ok') in
        let lanes : T (has_room x u.small && (has_room y u.large && has_room z u.spots)) =
        unless_true _ no.LogRoom (or_else_second (S.asked_open q) _ (or_else_second (asked S c.state (room c.entries) q d) _ ok')) in
        let hx : T (has_room x u.small) = and_first (has_room x u.small) _ lanes in
        let hyz : T (has_room y u.large && has_room z u.spots) = and_second (has_room x u.small) _ lanes in
        let hy : T (has_room y u.large) = and_first (has_room y u.large) _ hyz in
        let hz : T (has_room z u.spots) = and_second (has_room y u.large) _ hyz in
        record {
          reached = reached_more o b.standing c call i.reached f;
          good =
              subst (λ t. Good o (worked S c call) t (b.standing ++ call ∷ []) (m ∷ ms) b.numbers)
              (sym (trail_path (lane_used x u.small hx) (lane_used y u.large hy) (lane_used z u.spots hz)))
              (good_worked o c (trail_of S (stage c x y z (m ∷ ms))) b.standing (m ∷ ms) b.numbers call i.own sound f i.good);
          laid = (lane_laid x u.small hx, lane_laid y u.large hy, lane_laid z u.spots hz);
          own = (
            subst (Each S.InSmall) (sym (lane_used x u.small hx)) (each_append S.InSmall (in_use x) u.small i.own.0 (own_trail c.state (room c.entries) call sound f).0),
            subst (Each S.InLarge) (sym (lane_used y u.large hy)) (each_append S.InLarge (in_use y) u.large i.own.1 (own_trail c.state (room c.entries) call sound f).1),
          );
        }

    opened_kept : (o : Core S) (w : World S) (b : Book S.Question S.Decision) → Inv o w b → Kept o w b open_trial
    opened_kept o w b i =
        let x : length (in_use w.small) ≡ w.small.used = length-take-le w.small.used w.small.memory i.laid.0 in
        let y : length (in_use w.large) ≡ w.large.used = length-take-le w.large.used w.large.memory i.laid.1 in
        let z : length (in_use w.spots) ≡ w.spots.used = length-take-le w.spots.used w.spots.memory i.laid.2 in
        record {
          reached = i.reached;
          good =
              good_opened o w.core (trail_of S w) b.standing w.marks b.numbers (moment S w)
              (omega arith, omega arith, omega arith) (omega arith, omega arith, omega arith, omega arith) (omega arith) i.reached i.good;
          laid = i.laid;
          own = i.own;
        }

    back_kept : (o c : Core S) (x : Lane S.Small) (y : Lane S.Large) (z : Lane S.Spot) (ms : List Mark) (xs : List (Standing S)) (ns : List ℕ) (k : ℕ)
        → Inv o (stage c x y z ms) (written_down xs ns) → refusal S memory room (stage c x y z ms) (take_back k) ≡ none → Kept o (stage c x y z ms) (written_down xs ns) (take_back k)
    back_kept o c x y z [] xs ns k i ok =
        absurd (none-ne-some no.NotInnermost (sym (or_else_first (some no.NotInnermost) none (or_else_second (lanes_hold S (stage c x y z [])) _ (or_else_second (map_asked S memory c.state) _ ok)))))
    back_kept o c x y z (m ∷ ms) xs [] k i ok = absurd i.good
    back_kept o c x y z (m ∷ ms) xs (n ∷ ns) k i ok =
        let t : TrailOf S = trail_of S (stage c x y z (m ∷ ms)) in
        let g : Good o c t xs (m ∷ ms) (n ∷ ns) = i.good in
        record {
          reached = g.3;
          good =
              subst (λ t. Good o (undone S c (trail_of S (stage c x y z (m ∷ ms))) m) t (take n xs) (m ∷ ms) (n ∷ ns))
              (sym (trail_path (lane_back x m.used.small g.1.0) (lane_back y m.used.large g.1.1) (lane_back z m.used.spots g.1.2)))
              (good_back o c t xs m ms n ns g);
          laid = (lane_back_laid x m.used.small g.1.0, lane_back_laid y m.used.large g.1.1, lane_back_laid z m.used.spots g.1.2);
          own = (
            subst (Each S.InSmall) (sym (lane_back x m.used.small g.1.0)) (own_below t m i.own).0,
            subst (Each S.InLarge) (sym (lane_back y m.used.large g.1.1)) (own_below t m i.own).1,
          );
        }

    keep_kept : (o c : Core S) (x : Lane S.Small) (y : Lane S.Large) (z : Lane S.Spot) (ms : List Mark) (xs : List (Standing S)) (ns : List ℕ) (k : ℕ)
        → S.Sound c.state → Inv o (stage c x y z ms) (written_down xs ns) → refusal S memory room (stage c x y z ms) (keep k) ≡ none → Kept o (stage c x y z ms) (written_down xs ns) (keep k)
    keep_kept o c x y z [] xs ns k sound i ok = absurd (none-ne-some no.NotInnermost (sym ok))
    keep_kept o c x y z (m ∷ ms) xs [] k sound i ok = absurd i.good
    keep_kept o c x y z (m ∷ []) xs (n ∷ ns) k sound i ok =
        let t : TrailOf S = trail_of S (stage c x y z (m ∷ [])) in
        record {
          reached = i.reached;
          good = good_none o (undone S c t m) c (below S t m) (trail_of S (done_call S (stage c x y z (m ∷ [])) (keep k))) (take n xs) xs ns i.good.4;
          laid = (omega arith, omega arith, omega arith);
          own = (tt, tt);
        }
    keep_kept o c x y z (m ∷ m' ∷ ms) xs (n ∷ []) k sound i ok = absurd i.good.4
    keep_kept o c x y z (m ∷ m' ∷ ms) xs (n ∷ n' ∷ ns) k sound i ok =
        record {
          reached = i.reached;
          good = good_kept o c (trail_of S (stage c x y z (m ∷ m' ∷ ms))) xs m m' ms n n' ns sound i.own i.good;
          laid = i.laid;
          own = i.own;
        }

    call_kept : (o : Core S) (w : World S) (b : Book S.Question S.Decision) (c : Asking S) → S.Sound o.state → Inv o w b → refusal S memory room w c ≡ none → Kept o w b c
    call_kept o w b (ask q d) sound i ok =
        asked_kept o w.core w.small w.large w.spots w.marks b q d (reached_sound o b.standing w.core sound i.reached) i ok
    call_kept o w b open_trial sound i ok = opened_kept o w b i
    call_kept o w b (take_back k) sound i ok = back_kept o w.core w.small w.large w.spots w.marks b.standing b.numbers k i ok
    call_kept o w b (keep k) sound i ok = keep_kept o w.core w.small w.large w.spots w.marks b.standing b.numbers k (reached_sound o b.standing w.core sound i.reached) i ok

    step_kept : (o : Core S) (w : World S) (b : Book S.Question S.Decision) (c : Asking S) → S.Sound o.state → Inv o w b
        → Inv o (step S memory room w c).world (noted b c (step S memory room w c).answer)
    step_kept o w b c sound i = go (refusal S memory room w c) refl
      where
        go : (r : Option Refusal) → refusal S memory room w c ≡ r → Inv o (answered S w c r).world (noted b c (answered S w c r).answer)
        go none e = call_kept o w b c sound i e
        go (some n) e = i

    run_kept : (o : Core S) (w : World S) (b : Book S.Question S.Decision) (cs : List (Asking S)) → S.Sound o.state → Inv o w b
        → Inv o (run S memory room w b cs).world (run S memory room w b cs).book
    run_kept o w b [] sound i = i
    run_kept o w b (c ∷ cs) sound i = run_kept o (step S memory room w c).world (noted b c (step S memory room w c).answer) cs sound (step_kept o w b c sound i)

    run_inv : (s : S.State) (l : Lent S) (cs : List (Asking S)) → S.Sound s
        → Inv (record { state = s; entries = [] }) (run S memory room (fresh S s l) (empty_book S) cs).world (run S memory room (fresh S s l) (empty_book S) cs).book
    run_inv s l cs sound =
        run_kept (record { state = s; entries = [] }) (fresh S s l) (empty_book S) cs sound
        (record { reached = refl; good = tt; laid = (omega arith, omega arith, omega arith); own = (tt, tt) })

    good_taken : (o c : Core S) (t : TrailOf S) (xs : List (Standing S)) (ns : List ℕ) (ms : List Mark) (m : Mark) (ks : List Mark) → ms ≡ m ∷ ks → Good o c t xs ms ns → AllTaken S c.state (above S t m)
    good_taken o c t xs ns ms m ks e g = go ns (subst (λ z. Good o c t xs z ns) e g)
      where
        go : (ns : List ℕ) → Good o c t xs (m ∷ ks) ns → AllTaken S c.state (above S t m)
        go [] g = absurd g
        go (n ∷ ns) g = g.5

    pub run_reached : (s : S.State) (l : Lent S) (cs : List (Asking S)) → S.Sound s
        → Reached (record { state = s; entries = [] }) (run S memory room (fresh S s l) (empty_book S) cs).book.standing (run S memory room (fresh S s l) (empty_book S) cs).world.core
    run_reached s l cs sound = (run_inv s l cs sound).reached

    pub map_fine : (b : Bool) (s : S.State) → S.units s ≤ memory → map_asked_if S b memory s ≡ none
    map_fine true s h = unless_none (leb (S.units s) memory) no.MapMemory (le→leb (S.units s) memory h)
    map_fine false s h = refl

    -- the standing calls alone
    alone : (c : Core S) (x : Lane S.Small) (y : Lane S.Large) (z : Lane S.Spot) (b : Book S.Question S.Decision) (xs : List (Standing S)) (e : Core S)
        → S.units c.state ≤ memory → Reached c xs e
        → Accepted S memory room (stage c x y z []) (map (as_call S) xs) × ((run S memory room (stage c x y z []) b (map (as_call S) xs)).world.core ≡ e)
    alone c x y z b [] e h r = (tt, r)
    alone c x y z b (k ∷ xs) e h r =
        let w : World S = stage c x y z [] in
        let ok : refusal S memory room w (as_call S k) ≡ none =
        or_else_both (map_asked_if S (S.brings_map k.question) memory c.state) _ (map_fine (S.brings_map k.question) c.state h) (ap (λ a. or_else a none) r.0.0) in
        let next : (step S memory room w (as_call S k)).world ≡ stage (worked S c k) x y z [] =
        ap (λ a. (answered S w (as_call S k) a).world) ok ∙ ap (λ d. stage (worked S c (record { question = k.question; decision = d })) x y z []) r.0.1 in
        let more : Book S.Question S.Decision = noted b (as_call S k) (step S memory room w (as_call S k)).answer in
        let rest : Accepted S memory room (stage (worked S c k) x y z []) (map (as_call S) xs) × ((run S memory room (stage (worked S c k) x y z []) more (map (as_call S) xs)).world.core ≡ e) =
        alone (worked S c k) x y z more xs e (subst (λ n. n ≤ memory) (sym (L.units_next c.state k)) h) r.1 in (
          (ok, subst (λ v. Accepted S memory room v (map (as_call S) xs)) (sym next) rest.0),
          subst (λ v. (run S memory room v more (map (as_call S) xs)).world.core ≡ e) (sym next) rest.1,
        )

  -- what is reached does not hang on the map's memory
  pub reached_anywhere : (memory memory' : ℕ) (room : List Entry → ℕ) (c : Core S) (xs : List (Standing S)) (e : Core S) → Reached memory room c xs e → Reached memory' room c xs e
  reached_anywhere memory memory' room c [] e p = p
  reached_anywhere memory memory' room c (x ∷ xs) e p = (p.0, reached_anywhere memory memory' room (worked S c x) xs e p.1)

  pub no_trace : NoTrace S
  no_trace memory memory' room start lent lent' calls sound enough =
      alone memory' room (record { state = start; entries = [] }) (unused lent'.small) (unused lent'.large) (unused lent'.spots) (empty_book S)
      (run S memory room (fresh S start lent) (empty_book S) calls).book.standing (run S memory room (fresh S start lent) (empty_book S) calls).world.core enough
      (reached_anywhere memory memory' room (record { state = start; entries = [] }) (run S memory room (fresh S start lent) (empty_book S) calls).book.standing
      (run S memory room (fresh S start lent) (empty_book S) calls).world.core (run_reached memory room start lent calls sound))

  pub none_passed : NonePassed S
  none_passed memory room start lent calls m ms sound e =
      let o : Core S = record { state = start; entries = [] } in
      let r : Ran S = run S memory room (fresh S start lent) (empty_book S) calls in
      good_taken memory room o r.world.core (trail_of S r.world) r.book.standing r.book.numbers r.world.marks m ms e (run_inv memory room start lent calls sound).good
