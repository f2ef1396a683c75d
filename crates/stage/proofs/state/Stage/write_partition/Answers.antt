use Rattle.std.proofs.Common.{◌≡◌, ℕ, ◌-◌, Bool, true, false, List, length, sym, refl, ap, ◌∙◌, ap₂, rules}
use Rattle.std.proofs.lemmas.Bool.{both_ways}
use Rattle.std.proofs.lemmas.Result.{err_from_is_err_and}
use Rattle.av1.specs.Partitions.{number}
use Rattle.av1.specs.Sizes.{level}
use Rattle.av1.specs.declared.tile.Cell.{Cell}
use Rattle.cdf.specs.Words.{table}
use Rattle.stage.specs.Partitions.{entries_at}
use Rattle.stage.specs.View.{lanes, state_of, world}
use Rattle.stage.proofs.Partitions.{same_table, same_fit, same_taken, same_coded, refused_square, refused_partition, refused_record, accepted}
use Rattle.stage.proofs.state.Stage.write_partition.Goals as goal

pub returns-in_err-ask_square : goal.returns-in_err-ask_square
returns-in_err-ask_square g c =
    let k = g.S.Sink in
    let s = c.args.self.now in
    let p = err_from_is_err_and c.from_residual.result c.from_residual.ensures.1 in
    rw (p.1, p.2) (record {
      step = λ memory.
          refused_square (length memory) (k.rooms c.args.sink.now) (state_of s memory) s.journal (lanes c.args.log.now) (k.list c.args.sink.now)
          c.args.bo.x c.args.bo.y c.args.bsize (number c.args.p) _ c.in_err-ask_square.ensures.answer;
      rooms = refl;
      still = λ h. (refl, refl);
      memory = search rules;
    })

pub returns-then-not-is_allowed : goal.returns-then-not-is_allowed
returns-then-not-is_allowed g c =
    let k = g.S.Sink in
    let s = c.args.self.now in
    let x : ℕ = c.args.bo.x in
    let y : ℕ = c.args.bo.y in
    let z = c.args.bsize in
    let r : Bool = c.has_rows-rows.result in
    let b : Bool = c.has_cols-cols.result in
    let first : ℕ = c.partition_table-table.result.first in
    let n : ℕ = c.partition_table-table.result.n in
    let p : ℕ = number c.args.p in
    let lv : ℕ = c.width_log2-level.result - 3 in
    let ctx : ℕ = c.partition_plane_context-ctx.result in
    let lev : lv ≡ level z = ap (λ (e : ℕ). e - 3) c.width_log2-level.ensures in
    let tab = λ (memory : List Cell). same_table (state_of s memory) x y z lv ctx first n lev c.partition_plane_context-ctx.ensures.value c.partition_table-table.ensures in
    let fit = λ (memory : List Cell). c.is_allowed.ensures first ∙ same_fit (state_of s memory) x y z r b (table first n) p (number c.args.p) c.has_rows-rows.ensures c.has_cols-cols.ensures (tab memory) refl in
    let no : c.is_allowed.result ≡ false = search rules in
    record {
      step = λ memory.
          refused_partition (length memory) (k.rooms c.args.sink.now) (state_of s memory) s.journal (lanes c.args.log.now) (k.list c.args.sink.now) x y z (number c.args.p)
          tt c.in_ok-ask_square.ensures.answer (sym (fit memory) ∙ no);
      rooms = refl;
      still = λ h. (refl, refl);
      memory = search rules;
    }

pub returns-in_err-ask_record : goal.returns-in_err-ask_record
returns-in_err-ask_record g c =
    let k = g.S.Sink in
    let s = c.args.self.now in
    let x : ℕ = c.args.bo.x in
    let y : ℕ = c.args.bo.y in
    let z = c.args.bsize in
    let r : Bool = c.has_rows-rows.result in
    let b : Bool = c.has_cols-cols.result in
    let first : ℕ = c.partition_table-table.result.first in
    let n : ℕ = c.partition_table-table.result.n in
    let p : ℕ = number c.args.p in
    let lv : ℕ = c.width_log2-level.result - 3 in
    let ctx : ℕ = c.partition_plane_context-ctx.result in
    let lev : lv ≡ level z = ap (λ (e : ℕ). e - 3) c.width_log2-level.ensures in
    let tab = λ (memory : List Cell). same_table (state_of s memory) x y z lv ctx first n lev c.partition_plane_context-ctx.ensures.value c.partition_table-table.ensures in
    let fit = λ (memory : List Cell). c.is_allowed.ensures first ∙ same_fit (state_of s memory) x y z r b (table first n) p (number c.args.p) c.has_rows-rows.ensures c.has_cols-cols.ensures (tab memory) refl in
    let entries = c.records-entries.ensures.entries in
    let windows = c.records-entries.ensures.need in
    let asked = λ (memory : List Cell).
    same_taken (state_of s memory) s.journal (lanes c.args.log.now) x y z r b (table first n) c.records-entries.result.0 c.records-entries.result.1 c.room.result (k.rooms c.args.sink.now (k.list c.args.sink.now))
    c.has_rows-rows.ensures c.has_cols-cols.ensures (tab memory) entries windows c.room.ensures in
    let yes : c.is_allowed.result ≡ true = search rules in
    let e = err_from_is_err_and c.from_residual-in_err-ask_record.result c.from_residual-in_err-ask_record.ensures.1 in
    rw (e.1, e.2) (record {
      step = λ memory.
          refused_record (length memory) (k.rooms c.args.sink.now) (state_of s memory) s.journal (lanes c.args.log.now) (k.list c.args.sink.now) x y z (number c.args.p)
          tt c.in_ok-ask_square.ensures.answer _ (sym (fit memory) ∙ yes) (c.in_err-ask_record.ensures.answer ∙ asked memory);
      rooms = refl;
      still = λ h. (refl, refl);
      memory = search rules;
    })

pub returns : goal.returns
returns g c =
    let k = g.S.Sink in
    let s = c.args.self.now in
    let x : ℕ = c.args.bo.x in
    let y : ℕ = c.args.bo.y in
    let z = c.args.bsize in
    let r : Bool = c.has_rows-rows.result in
    let b : Bool = c.has_cols-cols.result in
    let first : ℕ = c.partition_table-table.result.first in
    let n : ℕ = c.partition_table-table.result.n in
    let p : ℕ = number c.args.p in
    let lv : ℕ = c.width_log2-level.result - 3 in
    let ctx : ℕ = c.partition_plane_context-ctx.result in
    let lev : lv ≡ level z = ap (λ (e : ℕ). e - 3) c.width_log2-level.ensures in
    let tab = λ (memory : List Cell). same_table (state_of s memory) x y z lv ctx first n lev c.partition_plane_context-ctx.ensures.value c.partition_table-table.ensures in
    let fit = λ (memory : List Cell). c.is_allowed.ensures first ∙ same_fit (state_of s memory) x y z r b (table first n) p (number c.args.p) c.has_rows-rows.ensures c.has_cols-cols.ensures (tab memory) refl in
    let entries = c.records-entries.ensures.entries in
    let windows = c.records-entries.ensures.need in
    let asked = λ (memory : List Cell).
    same_taken (state_of s memory) s.journal (lanes c.args.log.now) x y z r b (table first n) c.records-entries.result.0 c.records-entries.result.1 c.room.result (k.rooms c.args.sink.now (k.list c.args.sink.now))
    c.has_rows-rows.ensures c.has_cols-cols.ensures (tab memory) entries windows c.room.ensures in
    let yes : c.is_allowed.result ≡ true = search rules in
    record {
      step = λ memory.
          accepted (length memory) (k.rooms c.args.sink.now) (state_of s memory) s.journal (lanes c.args.log.now) (k.list c.args.sink.now) x y z (number c.args.p)
          tt c.in_ok-ask_square.ensures.answer _ c.records-entries.result.0 tt (sym (fit memory) ∙ yes) (c.in_ok-ask_record.ensures.answer ∙ asked memory)
          (entries ∙ ap₂ entries_at c.has_rows-rows.ensures c.has_cols-cols.ensures)
          (c.code_partition.ensures.step memory
          ∙ same_coded (state_of s memory) x y z r b (table first n) p (number c.args.p) (world s memory (lanes c.args.log.now) (k.list c.args.sink.now)) c.has_rows-rows.ensures c.has_cols-cols.ensures (tab memory) refl);
      rooms = c.code_partition.ensures.rooms;
      still = λ h. absurd (both_ways true h refl);
      memory = c.code_partition.ensures.memory;
    }
