use Rattle.std.proofs.Common.{◌≤◌, List, length, sum_by, sym, ap, ◌∙◌, ◌^◌, arith, rules}
use Rattle.std.specs.List.{filter_map, range_with_len}
use Rattle.std.proofs.lemmas.Iterator.{YieldsList-from_range, YieldsList-from_map}
use Rattle.std.proofs.lemmas.Iterator.Adapters.{fits_from_length, at_most_from_yields_List}
use Rattle.std.proofs.lemmas.Iterator.Consumers.{YieldsList-at, YieldsList-from_filter_map, sum_by_from_yields_List}
use Rattle.cdf.specs.declared.entry.Entry.{Entry}
use Rattle.packed.specs.Packing.{packed_entry}
use Rattle.record.specs.Sinks.{most_entries}
use Rattle.packed.proofs.Packs.{all_entries, entry_there, packed_sum}
use Rattle.packed.proofs.write.packed_bytes.Goals as goal

pub sum-requires-clause-fits : goal.sum-requires-clause-fits
sum-requires-clause-fits g c =
    let l : List Entry = g.S.Sink.list c.args.sink.now in
    let few : length (filter_map (entry_there l) (range_with_len 0 (length l))) ≤ most_entries = rw all_entries (omega (arith, g.S.Sink.laws.bounded c.args.sink.now)) in
    fits_from_length _ _ most_entries (2 ^ 64)
    (at_most_from_yields_List
    (YieldsList-at c.map.ensures.source
    (YieldsList-from_filter_map _ (entry_there l) (YieldsList-at c.filter_map.ensures.source (YieldsList-from_range 0 c.count.result (length l) (cc) (omega (arith, c.count.ensures)))) c.filter_map.ensures.closure (λ x r q k. search rules)))
    few)
    c.map.ensures.closure (omega arith) (λ x r q k. search rules)

pub returns : goal.returns
returns g c =
    let l : List Entry = g.S.Sink.list c.args.sink.now in
    sum_by_from_yields_List (λ e. length (packed_entry e)) (filter_map (entry_there l) (range_with_len 0 (length l))) c.map.result c.sum.result c.sum.ensures.ran
    (YieldsList-from_map _ (λ e. length (packed_entry e))
    (YieldsList-at c.map.ensures.source
    (YieldsList-from_filter_map _ (entry_there l)
    (YieldsList-at c.filter_map.ensures.source (YieldsList-from_range 0 c.count.result (length l) (cc) (omega (arith, c.count.ensures))))
    c.filter_map.ensures.closure (λ x r q k. search rules)))
    c.map.ensures.closure (λ x r q k. search rules))
    ∙ ap (sum_by (λ e. length (packed_entry e))) (all_entries l) ∙ sym (packed_sum l)
