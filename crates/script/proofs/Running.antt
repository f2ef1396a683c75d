-- One line more of a script.
use Rattle.std.proofs.Common.{◌≡◌, ℕ, ◌+◌, ◌<◌, List, [], ◌∷◌, ◌++◌, length, Some, Ok, Err, Option, Result, sym, refl, ap, ◌∙◌, subst, inl, inr, Bor}
use Rattle.std.specs.Iterator.Adapters.{enumerate_source, enumerate_count, enumerate_steps}
use Rattle.std.specs.Str.Iter.{lines_rest, lines_steps}
use Rattle.std.specs.Str.Lines as lines
use Rattle.std.specs.declared.iter.Enumerate.{Enumerate}
use Rattle.std.specs.declared.str.Lines as text
use Rattle.std.proofs.lemmas.List.{nil_from_length}
use Rattle.std.proofs.lemmas.List.Sums.{fold_push}
use Rattle.script.specs.declared.fault.Fault.{Fault}
use Rattle.script.specs.declared.fault.ScriptError.{ScriptError}
use Rattle.script.specs.declared.fault.ScriptError.TheVariants as error
use Rattle.script.specs.declared.head.Head.{Head}
use Rattle.script.specs.declared.parse.Line.{Line}
use Rattle.script.specs.declared.parse.Script.{Script}
use Rattle.script.specs.declared.statement.Statement.{Statement}
use Rattle.script.specs.declared.written.Written.{Written}
use Rattle.script.specs.Statements.{and_then}
use Rattle.script.specs.Scripts.{settled, head_after, spoken, Rejects, Refuses, ReadsLine, Progress, at_first, numbered, placed, stated, line_more, read_lines, Lines, Fails, Finishes, Parses}

lines_more : (text : List ℕ) (ls : List (List ℕ)) (l rest more : List ℕ) → Lines text ls rest → 0 < length rest → lines.IsFirstLine rest l more → Lines text (ls ++ l ∷ []) more
lines_more text [] l rest more e h c = (more, subst (λ t. 0 < length t) (sym e) h, subst (λ t. lines.IsFirstLine t l more) (sym e) c, refl)
lines_more text (x ∷ ls) l rest more m h c = (m.0, m.1, m.2, lines_more m.0 ls l rest more m.3 h c)

-- the lines seen made the progress, and rest is to come
pub record Sofar (text rest : List ℕ) (number : ℕ) (head : Head) (calls : List Line) : Type 0 where
  pub seen : List (List ℕ)
  pub cut : Lines text seen rest
  pub ran : read_lines seen ≡ Ok (record { number = number; head = head; calls = calls })

-- the next line, with its index i, behind n lines: m of them then
pub record Next (rest line more : List ℕ) (n i m : ℕ) : Type 0 where
  pub some : 0 < length rest
  pub first : lines.IsFirstLine rest line more
  pub index : i ≡ n
  pub count : m ≡ n + 1

pub next_line : (s t : Enumerate text.Lines) (i : ℕ) (x : Bor (List ℕ)) → enumerate_steps lines_steps s (Some (i, x)) t → Next (lines_rest (enumerate_source s)) x.now (lines_rest (enumerate_source t)) (enumerate_count s) i (enumerate_count t)
next_line s t i x e = record { some = e.0.0.0; first = e.0.0.2; index = e.1; count = e.2 }

more_read : (seen : List (List ℕ)) (line : List ℕ) (p : Progress) → read_lines seen ≡ Ok p → read_lines (seen ++ line ∷ []) ≡ stated p (spoken line)
more_read seen line p e = fold_push line_more (Ok at_first) seen line ∙ ap (λ r. line_more r line) e

pub one_more : (text rest line more : List ℕ) (n i m : ℕ) (h g : Head) (cs ds : List Line) (call : Option Written) → Sofar text rest n h cs → Next rest line more n i m → ReadsLine h (i + 1) line (Ok call) g → ds ≡ cs ++ numbered (i + 1) call → Sofar text more m g ds
one_more text rest line more n i m h g cs ds call s x r put =
    let p : Progress = record { number = n; head = h; calls = cs } in
    let put_next : ds ≡ cs ++ numbered (n + 1) call = put ∙ ap (λ k. cs ++ numbered (k + 1) call) x.index in
    let made : ◌≡◌ {A = Result Progress (ℕ × Fault)} (Ok (record { number = m; head = g; calls = ds })) (Ok (record { number = n + 1; head = head_after h r.0; calls = cs ++ numbered (n + 1) call })) =
    λ j. Ok (record { number = x.count j; head = r.3 j; calls = put_next j }) in
    record {
      seen = s.seen ++ line ∷ [];
      cut = lines_more text s.seen line rest more s.cut x.some x.first;
      ran = more_read s.seen line p s.ran ∙ ap (stated p) r.1 ∙ ap (placed p r.0) r.2 ∙ sym made;
    }

not_placed : (p : Progress) (st : Statement) (r : Result (Option Written) Fault) (k : ℕ) (f : Fault) → Rejects (p.number + 1) r k f → placed p st r ≡ Err (k, f)
not_placed p st (Ok call) k f h = absurd h
not_placed p st (Err g) k f h = sym (λ i. Err (h.0 i, h.1 i))

not_stated : (p : Progress) (r : Result Statement Fault) (k : ℕ) (f : Fault) → Rejects (p.number + 1) (and_then r (settled p.head)) k f → stated p r ≡ Err (k, f)
not_stated p (Ok st) k f h = not_placed p st (settled p.head st) k f h
not_stated p (Err g) k f h = sym (λ i. Err (h.0 i, h.1 i))

pub failed : (text rest line more : List ℕ) (n i m : ℕ) (h : Head) (cs : List Line) (e : ScriptError) → Sofar text rest n h cs → Next rest line more n i m → Refuses (i + 1) (and_then (spoken line) (settled h)) e → Fails text e
failed text rest line more n i m h cs error.Memory s x r = tt
failed text rest line more n i m h cs (error.Line k f w) s x r =
    let p : Progress = record { number = n; head = h; calls = cs } in
    let here : Rejects (n + 1) (and_then (spoken line) (settled h)) k f = subst (λ j. Rejects (j + 1) (and_then (spoken line) (settled h)) k f) x.index r in
    (s.seen ++ line ∷ [], more, lines_more text s.seen line rest more s.cut x.some x.first, inl (more_read s.seen line p s.ran ∙ not_stated p (spoken line) k f here))

pub finished : (text rest : List ℕ) (n : ℕ) (h : Head) (cs : List Line) (r : Result Script ScriptError) → Sofar text rest n h cs → length rest ≡ 0 → Finishes h (n + 1) cs r → Parses text r
finished text rest n h cs (Ok s) o e f =
    record {
      lines = o.seen;
      progress = record { number = n; head = h; calls = cs };
      whole = subst (Lines text o.seen) (nil_from_length rest e) o.cut;
      read = o.ran;
      made = record { tile = f.tile; sink = f.sink; log = f.log; calls = f.calls };
    }
finished text rest n h cs (Err error.Memory) o e f = tt
finished text rest n h cs (Err (error.Line k g w)) o e f =
    (o.seen, rest, o.cut, inr (nil_from_length rest e, record { number = n; head = h; calls = cs }, o.ran, f.0, f.1.0, f.1.1))
